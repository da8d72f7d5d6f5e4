-- `keep_from_near` meets its contract. The invariant: more are left than have to go, none of the groups before this one, and all of them go before those that
-- stay.
use Prim.Native.Nat.{ℕ, ◌<◌}
use mathlib.Core.Path.{◌≡◌}
use mathlib.Core.List.{List}
use lib.ListN.{get_or}
use Rattle.bitset.specs.Set.{size, bit}
use Rattle.bitset.proofs.Parts.{◌≼◌}
use Rattle.drive.specs.ContractWords.{Grouped}
use Rattle.drive.proofs.Staying.{First}
use Rattle.drive.proofs.choice.Groups.keep_from_near.Given as goal

abbrev pub invariant-loop-group : goal.invariant-loop-group
invariant-loop-group l =
    record {
      more : l.excess < size l.left;
      part : l.left ≼ l.candidates;
      passed : (i c : ℕ) → i < l.group-index → bit c (get_or l.self.curves i 0) ≡ 1 → bit c l.left ≡ 0;
      first : (unused : ℕ) (ws : List ℕ) → Grouped l.candidates unused l.self.count l.self.curves l.self.steps ws → First l.candidates l.left ws;
    }
