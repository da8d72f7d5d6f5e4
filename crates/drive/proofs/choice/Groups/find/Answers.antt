use Prim.Native.Nat.{ℕ, zero, suc, ◌+◌, ◌≤◌, ◌<◌}
use mathlib.Core.Path.{◌≡◌, refl, sym, ap, ◌∙◌}
use native.Mathlib.Omega.{arith}
use borrow.Author.Rules.{rules}
use lib.ListN.{length, length-set}
use Rattle.bitset.specs.Set.{◌∩◌, ◌∖◌, size, bit}
use Rattle.bitset.proofs.Bits.{bit-∩, bit-∖}
use Rattle.bitset.proofs.Laws.{∩-lt, size_le, size_none}
use Rattle.bitset.proofs.Element.{some}
use Rattle.drive.proofs.Groups.{without_none, grouped_start, grouped_next, soon_next, step_zero, used_ends, Met, one_met}
use Rattle.drive.proofs.choice.Groups.find.Goals.{After-common-group, In-loop-left}
use Rattle.drive.proofs.choice.Groups.find.Goals.{then-group-ne0, else-group-ne0}
use Rattle.drive.proofs.choice.Groups.find.Goals as goal

some_size : (s : ℕ) → (s ≡ 0 → ⊥) → 0 < size s
some_size s h = go (size s) refl
  where
    go : (n : ℕ) → size s ≡ n → 0 < size s
    go zero e = absurd (h (size_none s e))
    go (suc n) e = omega arith

within : (c : In-loop-left) → c.loop-left.step < length c.args.later.now
within c =
    let q = c.loop-left in
    let x = some q.left (omega (arith, c.loop-left-test.true)) in
    let mine : bit x.0 c.args.used ≡ 1 = omega (arith, x.1, q.invariant.part x.0, bit-∩ x.0 c.args.candidates c.args.used) in
    used_ends x.0 c.args.used q.step _ c.requires mine (q.invariant.ahead x.0 x.1)

room : (c : In-loop-left) → c.loop-left.count < 64
room c = omega (arith, c.loop-left.invariant.room, some_size c.loop-left.left c.loop-left-test.true)

pub loop-left-init : goal.loop-left-init
loop-left-init c =
    let a = c.args in
    rw c.common-left.ensures
    record {
      long_curves = search rules;
      long_steps = search rules;
      room = omega (arith, size_le 64 (a.candidates ∩ a.used) (∩-lt 64 a.candidates a.used (search rules)));
      part = λ x. omega arith;
      ahead = λ x i. sym (step_zero _);
      soon = λ j h. absurd (omega arith);
      grouped = grouped_start a.candidates a.used _ _ _ c.requires;
    }

pub offset_bounds-later-step : goal.offset_bounds-later-step
offset_bounds-later-step c = let h = within (goal.at.offset_bounds-later-step c).In-loop-left in search rules

pub bounds-later-step : goal.bounds-later-step
bounds-later-step c = within (goal.at.bounds-later-step c).In-loop-left

pub bounds-self-count : goal.bounds-self-count
bounds-self-count c = room (goal.at.bounds-self-count c).In-loop-left

pub bounds-self-count-in-loop-left : goal.bounds-self-count-in-loop-left
bounds-self-count-in-loop-left c = room (goal.at.bounds-self-count-in-loop-left c).In-loop-left

pub overflow_add-step : goal.overflow_add-step
overflow_add-step c = omega (arith, within (goal.at.overflow_add-step c).In-loop-left, c.well_formed)

pub loop-left-smaller : goal.loop-left-smaller
loop-left-smaller c = omega (arith, within (goal.at.loop-left-smaller c).In-loop-left)

-- the step that the walk takes
taken : (c : After-common-group)
    → let q = c.loop-left in
    let a = c.args in
    Met a.candidates q.left c.common-group.result q.step a.later.now
taken c =
    let i = c.loop-left.invariant in
    one_met _ c.args.used _ _ _ _ (within (goal.at.After-common-group c).In-loop-left) i.part i.ahead c.common-group.ensures

pub loop-left-preserved : goal.loop-left-preserved
loop-left-preserved c =
    let q = c.loop-left in
    let i = q.invariant in
    let hit = c.common-group.result in
    let n = c.if-group-ne0.count in
    let t = taken (goal.at.loop-left-preserved c).After-common-group in
    let r = room (goal.at.loop-left-preserved c).In-loop-left in
    let sets : 64 ≤ length q.self.curves = omega (arith, i.long_curves) in
    let steps : 64 ≤ length q.self.steps = omega (arith, i.long_steps) in
    let none : hit ≡ 0 → n ≡ q.count =
    λ z. elim c.if-group-ne0.branch [ then-group-ne0 w ↦ absurd (w.if-group-ne0.true z) | else-group-ne0 w ↦ w.count-is ] in
    let one : 0 < hit → n ≡ q.count + 1 =
    λ p. elim c.if-group-ne0.branch [ then-group-ne0 w ↦ w.count-is | else-group-ne0 w ↦ absurd (omega (arith, w.if-group-ne0.false)) ] in
    let most : n ≤ q.count + size hit =
    elim c.if-group-ne0.branch [
      | then-group-ne0 w ↦ omega (arith, w.count-is, some_size hit w.if-group-ne0.true)
      | else-group-ne0 w ↦ omega (arith, w.count-is)
    ] in
    rw c.without-left.ensures
    record {
      long_curves = length-set q.self.curves q.count hit ∙ i.long_curves;
      long_steps = length-set q.self.steps q.count q.step ∙ i.long_steps;
      room = omega (arith, i.room, most, t.split);
      part = λ x. omega (arith, i.part x, bit-∖ x q.left hit);
      ahead = t.still;
      soon = soon_next i.grouped hit q.step n r sets steps t.found i.soon none one;
      grouped = rw t.others (grouped_next i.grouped hit q.step n r sets steps t.found i.soon none one);
    }

pub returns : goal.returns
returns c =
    let q = c.loop-left in
    let a = c.args in
    let e : a.candidates ∖ q.left ≡ a.candidates = ap (λ (s : ℕ). a.candidates ∖ s) c.loop-left-test.false ∙ without_none a.candidates in
    rw e at q.invariant.grouped
