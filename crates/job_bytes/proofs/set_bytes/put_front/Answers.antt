-- `job_bytes::set_bytes::put_front` meets its contract.
use mathlib.Core.Path.{sym, ap, ◌∙◌}
use mathlib.Core.List.{List, ◌++◌}
use Prim.Native.Nat.{ℕ}
use native.Mathlib.Omega.{arith}
use lib.ListN.{length, drop}
use Rattle.job_bytes.proofs.Encoding.{put_short, put_front}
use Rattle.job_bytes.proofs.set_bytes.put_front.Goals as goal

pub returns-then-to-from : goal.returns-then-to-from
returns-then-to-from c = sym (put_short c.args.from.now c.args.to.now c.if-to-from.true)

pub returns : goal.returns
returns c =
    let f = c.args.from.now in
    let t = c.args.to.now in
    ap (λ (x : List ℕ). x ++ drop (length f) t) c.copy_from_slice.ensures.after ∙ sym (put_front f t (omega arith))
