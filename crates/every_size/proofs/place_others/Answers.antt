use Prim.Native.Nat.{ℕ, ◌≤◌, ◌<◌, min}
use mathlib.Core.Path.{◌≡◌, refl, ap, ◌∙◌}
use mathlib.Core.List.{List}
use native.Mathlib.Omega.{arith}
use borrow.Author.Rules.{rules}
use lib.ListN.{length, get_or}
use Rattle.bitset.specs.Set.{◌∖◌, size, below}
use Rattle.bitset.proofs.Element.{some}
use Rattle.bitset.proofs.Laws.{∖-self}
use Rattle.drive.specs.Steps.{together}
use Rattle.drive.proofs.Groups.{without_none, used_ends}
use Rattle.every_size.specs.ContractWords.{Placing}
use Rattle.every_size.proofs.Places.{none_passed, next_group, passed_next, placed_next, unwanted, none_placed}
use Rattle.every_size.proofs.place_others.Goals.{In-loop-left}
use Rattle.every_size.proofs.place_others.Goals as goal

-- none is placed yet
at_first : (hold : ℕ → ℕ) (w others wanted free : ℕ) (ws slots : List ℕ) → ((c : ℕ) → get_or slots c 0 ≤ 64) → wanted ≡ size w → free ≡ unwanted wanted
    → Placing hold w others (others ∖ others) free ws slots slots
at_first hold w others wanted free ws slots most e f = rw (f, ∖-self others) (none_placed wanted most e)

-- one that is left is wanted by a later step, so there is one
within : (c : In-loop-left) → c.loop-left.k < length c.args.later.now
within c =
    let q = c.loop-left in
    let x = some q.left (omega (arith, c.loop-left-test.true)) in
    used_ends x.0 (together c.args.later.now) q.k c.args.later.now refl
    (omega (arith, x.1, q.invariant.passed.part x.0, c.requires x.0)) (q.invariant.passed.ahead x.0 x.1)

pub loop-left-init : goal.loop-left-init
loop-left-init c =
    let a = c.args in
    record {
      passed = none_passed a.others a.later.now;
      places =
          λ hold w seen e wait. at_first hold w a.others a.wanted c.without-free.result a.later.now a.slots.now wait.most e
          (c.without-free.ensures ∙ ap (λ (x : ℕ). x ∖ c.below-2.result) c.below.ensures
          ∙ ap (λ (x : ℕ). below (min 64 64) ∖ x) c.below-2.ensures);
    }

pub offset_bounds-later-k : goal.offset_bounds-later-k
offset_bounds-later-k c = let h = within (goal.at.offset_bounds-later-k c).In-loop-left in search rules

pub bounds-later-k : goal.bounds-later-k
bounds-later-k c = within (goal.at.bounds-later-k c).In-loop-left

pub overflow_add-k : goal.overflow_add-k
overflow_add-k c = omega (arith, within (goal.at.overflow_add-k c).In-loop-left, c.well_formed)

pub loop-left-smaller : goal.loop-left-smaller
loop-left-smaller c = omega (arith, within (goal.at.loop-left-smaller c).In-loop-left)

pub loop-left-preserved : goal.loop-left-preserved
loop-left-preserved c =
    let q = c.loop-left in
    let p = c.place_group-free in
    let hit = c.common-group in
    let at = q.invariant.passed in
    let none = next_group at c.requires (within (goal.at.loop-left-preserved c).In-loop-left) hit.ensures in
    rw c.without-left.ensures
    record {
      passed = passed_next at c.requires (within (goal.at.loop-left-preserved c).In-loop-left) hit.ensures;
      places =
          λ hold w seen e wait. rw (← (placed_next at c.requires (within (goal.at.loop-left-preserved c).In-loop-left) hit.ensures))
          (p.ensures hold w seen c.args.others (c.args.others ∖ q.left) c.args.later.now _ wait none (q.invariant.places hold w seen e wait));
    }

pub returns : goal.returns
returns c =
    let q = c.loop-left in
    let o = c.args.others in
    let all : o ∖ q.left ≡ o = ap (λ (x : ℕ). o ∖ x) c.loop-left-test.false ∙ without_none o in
    λ hold w seen e wait. rw all at (q.invariant.places hold w seen e wait)
