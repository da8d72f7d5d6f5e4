-- `first_to_go` meets its contract. The invariant: all that the walk passed is lower than all that is left.
use Prim.Native.Nat.{◌^◌, ◌<◌}
use mathlib.Core.Path.{◌≡◌}
use lib.Count.{count_trailing_zeros}
use Rattle.bitset.specs.Set.{◌∖◌, size}
use Rattle.drive.proofs.Walk.{Walked}
use Rattle.drive.proofs.choice.first_to_go.Given as goal

abbrev pub invariant-loop-higher : goal.invariant-loop-higher
invariant-loop-higher l =
    record {
      walked : Walked l.same l.left;
      next : l.higher ≡ l.left ∖ 2 ^ count_trailing_zeros 64 l.left;
      some : 0 < l.same
          → 0 < l.left;
      range : l.left < 2 ^ 64;
    }

abbrev pub decreases-loop-higher : goal.decreases-loop-higher
decreases-loop-higher l = size l.higher
