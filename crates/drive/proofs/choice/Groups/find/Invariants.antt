-- `find` meets its contract. The invariant: the candidates that are not left are in groups, and those left are not wanted in the first of the later steps.
use Prim.Native.Nat.{ℕ, ◌+◌, ◌-◌, ◌≤◌, ◌<◌}
use mathlib.Core.Path.{◌≡◌}
use lib.ListN.{length, get_or, drop}
use Rattle.bitset.specs.Set.{◌∩◌, ◌∖◌, size, bit}
use Rattle.bitset.proofs.Parts.{◌≼◌}
use Rattle.drive.specs.Uses.{next_use}
use Rattle.drive.specs.ContractWords.{Grouped}
use Rattle.drive.proofs.Turns.{step_of}
use Rattle.drive.proofs.choice.Groups.find.Given as goal

abbrev pub invariant-loop-left : goal.invariant-loop-left
invariant-loop-left l =
    record {
      long_curves : length l.self.curves ≡ 64;
      long_steps : length l.self.steps ≡ 64;
      room : l.count + size l.left ≤ 64;
      part : l.left ≼ l.candidates ∩ l.used;
      ahead : (c : ℕ) → bit c l.left ≡ 1 → next_use c l.later ≡ step_of l.step (next_use c (drop l.step l.later));
      soon : (j : ℕ) → j < l.count → get_or l.self.steps j 0 < l.step;
      grouped : Grouped (l.candidates ∖ l.left) (l.candidates ∖ l.used) l.count l.self.curves l.self.steps l.later;
    }

abbrev pub decreases-loop-left : goal.decreases-loop-left
decreases-loop-left l = length l.later - l.step
