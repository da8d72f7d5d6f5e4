use Prim.Native.Nat.{ℕ, ◌<◌}
use mathlib.Core.Path.{◌≡◌, ap, ◌∙◌}
use native.Mathlib.Omega.{arith}
use borrow.Author.Rules.{rules}
use lib.ListN.{length-set}
use Rattle.bitset.specs.Set.{◌∪◌, ◌∖◌}
use Rattle.bitset.proofs.Bits.{bit-∪, bit-∖, bit_empty, same_by_bits}
use Rattle.bitset.proofs.Element.{lowest_lt}
use Rattle.drive.proofs.Walk.{walk_start, walk_on}
use Rattle.every_size.proofs.Places.{place_next}
use Rattle.every_size.proofs.place_group.Goals.{In-Some}
use Rattle.every_size.proofs.place_group.Goals as goal

-- before the walk, and behind it
none_passed : (placed group : ℕ) → placed ∪ (group ∖ group) ≡ placed
none_passed placed group = same_by_bits _ _ (λ c. omega (arith, bit-∪ c placed (group ∖ group), bit-∖ c group group))

all_passed : (placed group : ℕ) → placed ∪ (group ∖ 0) ≡ placed ∪ group
all_passed placed group = same_by_bits _ _ (λ c. omega (arith, bit-∪ c placed (group ∖ 0), bit-∪ c placed group, bit-∖ c group 0, bit_empty c))

small : (c : In-Some) → c.in-Some.c < 64
small c = let s = c.in-Some.ensures.steps in rw s.1 (lowest_lt 64 _ s.0 c.loop-c.invariant.range)

pub loop-c-init : goal.loop-c-init
loop-c-init c = rw (c.into_iter-c-iterator.ensures.into_iter_gives, c.elements-c-items.ensures)
    record {
      walked = walk_start _;
      range = search rules;
      vacant_range = search rules;
      long = search rules;
      places = λ hold w seen others placed ws before wait next at. rw (none_passed placed _) at;
    }

pub bounds-slots-c : goal.bounds-slots-c
bounds-slots-c c = small (goal.at.bounds-slots-c c).In-Some

pub bounds-slots-c-in-loop-c : goal.bounds-slots-c-in-loop-c
bounds-slots-c-in-loop-c c = small (goal.at.bounds-slots-c-in-loop-c c).In-Some

pub loop-c-preserved : goal.loop-c-preserved
loop-c-preserved c =
    let q = c.loop-c in
    let i = q.invariant in
    let s = c.in-Some.ensures.steps in
    rw (s.2, s.1)
    record {
      walked = walk_on _ q.c-iterator.left i.walked;
      range = search rules;
      vacant_range = search rules;
      long = length-set q.slots _ _ ∙ i.long;
      places =
          λ hold w' seen others placed ws before wait next at.
          rw (c.without-vacant.ensures, c.single.ensures, c.lowest-s.ensures, c.without.ensures, c.below.ensures, s.1)
          (place_next wait next i.walked s.0 i.range i.vacant_range (omega (arith, i.long)) (i.places hold w' seen others placed ws before wait next at));
    }

pub returns : goal.returns
returns c =
    let q = c.loop-c in
    let g = c.args.group in
    λ hold w seen others placed ws before wait next at.
    let all : placed ∪ (g ∖ q.c-iterator.left) ≡ placed ∪ g = ap (λ (x : ℕ). placed ∪ (g ∖ x)) c.in-None.ensures.steps.0 ∙ all_passed placed g in
    rw all at (q.invariant.places hold w seen others placed ws before wait next at)
