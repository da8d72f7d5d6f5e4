-- `plan_bytes::put_field` meets its contract.
use mathlib.Core.Path.{refl, sym, ap, ◌∙◌}
use mathlib.Core.List.{List, [], ◌∷◌, ◌++◌}
use Prim.Native.Nat.{ℕ}
use native.Mathlib.Omega.{arith}
use lib.ListN.{length}
use lib.Seq.{sets}
use Rattle.plan_bytes.proofs.Writing.{field_none, field_some}
use Rattle.plan_bytes.proofs.put_field.Goals as goal

pub returns-then-s-eq0 : goal.returns-then-s-eq0
returns-then-s-eq0 c = let a = c.args in let e = field_none a.s c.if-s-eq0.true in record { end = omega (arith, ap length e); bytes = rw e refl }

pub returns : goal.returns
returns c =
    let a = c.args in
    let e = field_some a.s c.if-s-eq0.false in
    let p = c.put_set_at.ensures.room c.requires in
    record { end = omega (arith, p.0, ap length e); bytes = p.1 ∙ sym (ap (λ (bs : List ℕ). sets a.out.now a.to (bs ++ (0 ∷ []))) e) }
