-- `place_others` meets its contract. The invariant: those of the others that the first k of the later steps want have their slots.
use Prim.Native.Nat.{ℕ, ◌-◌}
use mathlib.Core.Path.{◌≡◌}
use lib.ListN.{length}
use Rattle.bitset.specs.Set.{◌∖◌, size}
use Rattle.every_size.specs.ContractWords.{Waiting, Placing}
use Rattle.every_size.proofs.Places.{Passed}
use Rattle.every_size.proofs.place_others.Given as goal

abbrev pub invariant-loop-left : goal.invariant-loop-left
invariant-loop-left l =
    record {
      passed : Passed l.others l.left l.k l.later;
      places : (hold : ℕ → ℕ) (w seen : ℕ) → l.wanted ≡ size w → Waiting hold w seen l.others l.later l.initial.slots
          → Placing hold w l.others (l.others ∖ l.left) l.free l.later l.initial.slots l.slots;
    }

abbrev pub decreases-loop-left : goal.decreases-loop-left
decreases-loop-left l = length l.later - l.k
