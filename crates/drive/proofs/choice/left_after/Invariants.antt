-- `left_after` meets its contract. The invariant: all that the walk passed is lower than all that is left.
use Prim.Native.Nat.{◌+◌, ◌^◌, ◌<◌}
use mathlib.Core.Path.{◌≡◌}
use Rattle.bitset.specs.Set.{size}
use Rattle.drive.proofs.Walk.{Walked}
use Rattle.drive.proofs.choice.left_after.Given as goal

abbrev pub invariant-loop : goal.invariant-loop
invariant-loop l = record { walked : Walked l.same l.go; passed : size l.go + l.counter ≡ size l.same; range : l.go < 2 ^ 64 }
