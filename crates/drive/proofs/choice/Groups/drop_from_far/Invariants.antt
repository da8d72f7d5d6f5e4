-- `drop_from_far` meets its contract. The invariant: those chosen go before all other candidates.
use Prim.Native.Nat.{ℕ, ◌-◌, ◌^◌, ◌≤◌, ◌<◌}
use mathlib.Core.List.{List}
use Rattle.bitset.specs.Set.{size}
use Rattle.drive.specs.ContractWords.{Grouped}
use Rattle.drive.proofs.Groups.{Chosen}
use Rattle.drive.proofs.choice.Groups.drop_from_far.Given as goal

abbrev pub invariant-loop : goal.invariant-loop
invariant-loop l =
    record {
      few : l.count ≤ l.self.count;
      far : (cs : ℕ) (ws : List ℕ) → Grouped cs l.unused l.self.count l.self.curves l.self.steps ws → cs < 2 ^ 64 → l.excess ≤ size cs
          → Chosen cs l.self.count l.count l.chosen l.excess (l.excess - l.counter) l.self.curves ws;
    }
