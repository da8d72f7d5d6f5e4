use Prim.Native.Nat.{◌<◌}
use mathlib.Core.Path.{◌≡◌, ◌∙◌}
use native.Mathlib.Omega.{arith}
use borrow.Author.Rules.{rules}
use lib.ListN.{get_or, length-set}
use Rattle.bitset.specs.Set.{bit}
use Rattle.bitset.proofs.Element.{lowest_in, lowest_lt}
use Rattle.drive.proofs.Walk.{walk_size}
use Rattle.every_size.proofs.Loads.{entry_le, loaded_next, loaded_end}
use Rattle.every_size.proofs.load_wanted.Goals.{In-Some}
use Rattle.every_size.proofs.load_wanted.Goals as goal

small : (c : In-Some) → c.in-Some.c < 64
small c = let s = c.in-Some.ensures.steps in rw s.1 (lowest_lt 64 _ s.0 c.loop-c.invariant.range)

pub loop-c-init : goal.loop-c-init
loop-c-init c = rw (c.into_iter-c-iterator.ensures.into_iter_gives, c.elements-c-items.ensures) (search rules)

pub bounds-slots-c : goal.bounds-slots-c
bounds-slots-c c = small (goal.at.bounds-slots-c c).In-Some

pub bounds-slots-c-in-loop-c : goal.bounds-slots-c-in-loop-c
bounds-slots-c-in-loop-c c = small (goal.at.bounds-slots-c-in-loop-c c).In-Some

pub overflow_add-loads : goal.overflow_add-loads
overflow_add-loads c =
    let q = c.loop-c in
    let s = get_or q.slots c.in-Some.c 0 in
    omega (arith, entry_le q.loads s, q.invariant.loaded.few, walk_size q.c-iterator.left c.in-Some.ensures.steps.0 q.invariant.range)

pub loop-c-preserved : goal.loop-c-preserved
loop-c-preserved c =
    let q = c.loop-c in
    let i = q.invariant in
    let s = c.in-Some.ensures.steps in
    let mine : bit c.in-Some.c q.c-iterator.left ≡ 1 = rw s.1 (lowest_in 64 q.c-iterator.left s.0 i.range) in
    record {
      range = search rules;
      long = length-set q.slots _ _ ∙ i.long;
      long_loads = length-set q.loads _ _ ∙ i.long_loads;
      loaded = rw s.2 (loaded_next i.loaded c.in-Some.c mine (omega (arith, small (goal.at.loop-c-preserved c).In-Some, i.long)) (omega (arith, i.long_loads)));
    }

pub returns-clause-loaded : goal.returns-clause-loaded
returns-clause-loaded c = (loaded_end (rw c.in-None.ensures.steps.0 at c.loop-c.invariant.loaded)).0
