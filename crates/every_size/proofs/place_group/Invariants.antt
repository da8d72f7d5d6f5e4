-- `place_group` meets its contract. The invariant: those of the group that the walk has passed have their slots.
use Prim.Native.Nat.{ℕ, ◌^◌, ◌<◌}
use mathlib.Core.Path.{◌≡◌}
use mathlib.Core.List.{List}
use lib.ListN.{length}
use Rattle.bitset.specs.Set.{◌∪◌, ◌∖◌}
use Rattle.every_size.specs.ContractWords.{Waiting, NextGroup, Placing}
use Rattle.drive.proofs.Walk.{Walked}
use Rattle.every_size.proofs.place_group.Given as goal

abbrev pub invariant-loop-c : goal.invariant-loop-c
invariant-loop-c l =
    record {
      walked : Walked l.group l.c-iterator.left;
      range : l.c-iterator.left < 2 ^ 64;
      vacant_range : l.vacant < 2 ^ 64;
      long : length l.slots ≡ 64;
      places : (hold : ℕ → ℕ) (w seen others placed : ℕ) (ws before : List ℕ) → Waiting hold w seen others ws before → NextGroup others placed l.group ws
          → Placing hold w others placed l.free ws before l.initial.slots
          → Placing hold w others (placed ∪ (l.group ∖ l.c-iterator.left)) l.vacant ws before l.slots;
    }
