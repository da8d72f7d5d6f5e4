-- `job_bytes::set_bytes::put_set` meets its contract: the set is put into a list of its own, and that list's front into the buffer.
use mathlib.Core.Path.{◌≡◌, sym, ap, ◌∙◌}
use Prim.Native.Nat.{ℕ, ◌≤◌}
use mathlib.Core.List.{List}
use native.Mathlib.Omega.{arith}
use lib.ListN.{length, take}
use lib.Seq.{length-take-le}
use Rattle.job_bytes.specs.SetBytes.{set_bytes}
use Rattle.job_bytes.proofs.Encoding.{set_le, put, own_bytes, own_fits}
use Rattle.job_bytes.proofs.set_bytes.put_set.Goals.{After-put_set_at-n}
use Rattle.job_bytes.proofs.set_bytes.put_set.Goals as goal

-- the list of its own: how many bytes are put, that it has them, and which they are
own : (c : After-put_set_at-n) → let s = c.args.s in
    let p = c.put_set_at-n in
    (p.result ≡ length (set_bytes s)) × (p.result ≤ length p.new.out) × (take p.result p.new.out ≡ set_bytes s)
own c =
    let s = c.args.s in
    let p = c.put_set_at-n.ensures.room (omega arith) in (
      omega (arith, p.0),
      own_fits (set_bytes s) _ _ _ p.0 p.1 (omega (arith, set_le s)),
      own_bytes (set_bytes s) _ _ _ p.0 p.1 (omega (arith, set_le s)),
    )

pub slice_bounds-own-end : goal.slice_bounds-own-end
slice_bounds-own-end c = (own (goal.at.slice_bounds-own-end c).After-put_set_at-n).1

pub slice_bounds-put_front-end : goal.slice_bounds-put_front-end
slice_bounds-put_front-end c = sym (length-take-le _ _ (own (goal.at.slice_bounds-put_front-end c).After-put_set_at-n).1)

pub returns : goal.returns
returns c =
    let o = own (goal.at.returns c).After-put_set_at-n in
    let out = c.args.out.now in
    record { count = o.0; bytes = c.put_front.ensures ∙ ap (λ (x : List ℕ). put x out) o.2 }
