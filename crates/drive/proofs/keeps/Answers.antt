-- `keeps`: each test is one of the rule's, in the rule's order.
use mathlib.Core.Path.{◌≡◌, refl, sym, ap, ◌∙◌}
use mathlib.Core.Bool.{Bool, true, false, ◌&&◌}
use Prim.Native.Nat.{ℕ}
use lib.Dec.{leb, eqb}
use Rattle.bitset.specs.Set.{◌∩◌, ◌∪◌, ◌∖◌, size, inside}
use Rattle.drive.specs.Steps.{moved}
use Rattle.drive.specs.Check.{keeps}
use Rattle.drive.proofs.keeps.Goals.{then-inside, else-inside, then-common-eq0, else-common-eq0, then-inside-2, else-inside-2}
use Rattle.drive.proofs.keeps.Goals.{After-union-after, Joined-inside, Joined-common-eq0, Joined-inside-2}
use Rattle.drive.proofs.keeps.Goals as goal

-- a flag f that is u where t holds, and else t itself, which is false
then : (t u f s : Bool) → s ≡ t → s ≡ true → f ≡ u → f ≡ t && u
then t u f s e p q = rw (sym e ∙ p) q

else : (t u f s : Bool) → s ≡ t → s ≡ false → f ≡ s → f ≡ t && u
else t u f s e p q = rw (sym e ∙ p) (q ∙ p)

-- what is held after the loads
after : (c : After-union-after) → let a = c.args in c.union-after.result ≡ moved a.held a.sets
after c = c.union-after.ensures ∙ ap (λ (x : ℕ). x ∪ c.args.sets.loads) c.without-kept.ensures

-- the flags after the second, the third and the fourth test
after_2 : (c : Joined-inside) → let a = c.args in c.if-inside.value ≡ inside a.sets.drops a.held && eqb (a.sets.loads ∩ (a.held ∖ a.sets.drops)) 0
after_2 c =
    let e = c.inside.ensures in
    let k = c.without-kept.ensures in
    elim c.if-inside.branch [
      | then-inside w ↦ then _ _ _ _ e w.if-inside.true (w.value-is ∙ ap (λ (x : ℕ). eqb x 0) (w.common.ensures ∙ ap (λ (x : ℕ). c.args.sets.loads ∩ x) k))
      | else-inside w ↦ else _ _ _ _ e w.if-inside.false w.value-is
    ]

after_3 : (c : Joined-common-eq0)
    → let a = c.args in
    c.if-inside.value ≡ inside a.sets.drops a.held && eqb (a.sets.loads ∩ (a.held ∖ a.sets.drops)) 0
    → c.if-common-eq0.value ≡ inside a.sets.drops a.held && eqb (a.sets.loads ∩ (a.held ∖ a.sets.drops)) 0 && inside a.sets.loads a.all
after_3 c e =
    elim c.if-common-eq0.branch [
      | then-common-eq0 w ↦ then _ _ _ _ e w.if-common-eq0.true (w.value-is ∙ w.inside-then-common-eq0.ensures)
      | else-common-eq0 w ↦ else _ _ _ _ e w.if-common-eq0.false w.value-is
    ]

after_4 : (c : Joined-inside-2)
    → let a = c.args in
    c.union-after.result ≡ moved a.held a.sets
    → c.if-common-eq0.value ≡ inside a.sets.drops a.held && eqb (a.sets.loads ∩ (a.held ∖ a.sets.drops)) 0 && inside a.sets.loads a.all
    → c.if-inside-2.value
    ≡ inside a.sets.drops a.held && eqb (a.sets.loads ∩ (a.held ∖ a.sets.drops)) 0 && inside a.sets.loads a.all && inside a.want
    (moved a.held a.sets)
after_4 c u e =
    elim c.if-inside-2.branch [
      | then-inside-2 w ↦ then _ _ _ _ e w.if-inside-2.true (w.value-is ∙ w.inside-then-inside-2.ensures ∙ ap (inside c.args.want) u)
      | else-inside-2 w ↦ else _ _ _ _ e w.if-inside-2.false w.value-is
    ]

pub returns-then-inside-3 : goal.returns-then-inside-3
unfolding keeps
returns-then-inside-3 c =
    let at = goal.at.returns-then-inside-3 c in
    let u = after at.After-union-after in
    let e = after_4 at.Joined-inside-2 u (after_3 at.Joined-common-eq0 (after_2 at.Joined-inside)) in
    then _ _ _ _ e c.if-inside-3.true (ap (λ (x : ℕ). leb x c.args.capacity) (c.size.ensures ∙ ap size u))

pub returns-else-inside-3 : goal.returns-else-inside-3
unfolding keeps
returns-else-inside-3 c =
    let at = goal.at.returns-else-inside-3 c in
    else _ _ _ _ (after_4 at.Joined-inside-2 (after at.After-union-after) (after_3 at.Joined-common-eq0 (after_2 at.Joined-inside))) c.if-inside-3.false refl
