-- `plan_bytes::put_end` meets its contract: nothing, or the map and then the set, with a zero byte behind.
use mathlib.Core.Path.{◌≡◌, refl, sym, ap, ◌∙◌}
use mathlib.Core.List.{List, [], ◌∷◌, ◌++◌}
use Prim.Native.Nat.{ℕ, ◌+◌}
use native.Mathlib.Omega.{arith}
use lib.ListN.{length, length-set}
use lib.Seq.{sets}
use Rattle.lists.proofs.Overwritten.{sets_cons}
use Rattle.job_bytes.specs.SetBytes.{set_bytes}
use Rattle.plan_bytes.proofs.Writing.{no_end_bytes, some_end_bytes}
use Rattle.plan_bytes.proofs.put_end.Goals.{After-put_set_at}
use Rattle.plan_bytes.proofs.put_end.Goals as goal

pub returns-then-end-eq0 : goal.returns-then-end-eq0
returns-then-end-eq0 c = let a = c.args in let e = no_end_bytes a.end c.if-end-eq0.true in record { end = omega (arith, ap length e); bytes = rw e refl }

-- the set behind the map
set_there : (c : After-put_set_at)
    → let a = c.args in
    (c.put_set_at.result ≡ a.to + 1 + length (set_bytes a.end))
    × (c.put_set_at.new.out ≡ sets (lib.ListN.set a.out.now a.to 1) (a.to + 1) (set_bytes a.end ++ (0 ∷ [])))
set_there c = c.put_set_at.ensures.room (simp length-set (omega (arith, c.requires)))

pub returns : goal.returns
returns c =
    let p = set_there (goal.at.returns c).After-put_set_at in
    let a = c.args in
    let e = some_end_bytes a.end c.if-end-eq0.false in record {
      end = omega (arith, p.0, ap length e);
      bytes = p.1 ∙ sym (ap (λ (bs : List ℕ). sets a.out.now a.to (bs ++ (0 ∷ []))) e
          ∙ sets_cons a.out.now a.to 1 (set_bytes a.end ++ (0 ∷ [])));
    }
