-- `drops_with` meets its contract.
use mathlib.Core.Path.{◌≡◌, sym, ap, ◌∙◌}
use Prim.Native.Nat.{ℕ, ◌-◌}
use native.Mathlib.Omega.{arith}
use borrow.Author.Rules.{rules}
use Rattle.bitset.specs.Set.{◌∖◌, size}
use Rattle.bitset.proofs.Parts.{in_range}
use Rattle.drive.specs.Plan.{furthest, victims, drops_for}
use Rattle.drive.proofs.Turns.{no_drops}
use Rattle.drive.proofs.OurPlan.{all_victims}
use Rattle.drive.proofs.choice.drops_with.Goals.{After-without-candidates}
use Rattle.drive.proofs.choice.drops_with.Goals as goal

pub returns-then-all-capacity : goal.returns-then-all-capacity
returns-then-all-capacity c =
    let a = c.args in
    sym (no_drops (furthest 64) a.capacity a.held a.want a.later.now
    (rw (c.size-all.ensures ∙ ap size c.union.ensures) at c.if-all-capacity.true))

-- what the candidates and the excess are
by_rule : (c : After-without-candidates) (x : ℕ)
    → let a = c.args in
    x ≡ victims (furthest 64) (c.size-all.result - a.capacity) c.without-candidates.result a.later.now
    → x ≡ drops_for (furthest 64) a.capacity a.held a.want a.later.now
unfolding drops_for
by_rule c x e =
    rw (sym (c.size-all.ensures ∙ ap size c.union.ensures), sym c.without-candidates.ensures) e

pub returns-then-size-excess : goal.returns-then-size-excess
returns-then-size-excess c =
    by_rule (goal.at.returns-then-size-excess c).After-without-candidates _
    (sym (all_victims 64 _ c.without-candidates.result _ (omega (arith, c.size-size.ensures, c.if-size-excess.true))
    (in_range 64 c.without-candidates.result (omega (arith, c.without-candidates.type_inv)))))

pub find-requires : goal.find-requires
find-requires c = search rules

pub returns-then-size-excess-2 : goal.returns-then-size-excess-2
returns-then-size-excess-2 c =
    by_rule (goal.at.returns-then-size-excess-2 c).After-without-candidates _ (c.keep_from_near.ensures _ _ c.find.ensures)

pub returns : goal.returns
returns c =
    let unused : c.without.result ≡ c.without-candidates.result ∖ c.unwrap_or_else-used.result =
    c.without.ensures in
    let g = rw (sym unused) at c.find.ensures in
    by_rule (goal.at.returns c).After-without-candidates _
    (c.drop_from_far.ensures c.without-candidates.result _ g (omega (arith, c.without-candidates.type_inv))
    (omega (arith, c.if-size-excess.false, c.size-size.ensures)))
