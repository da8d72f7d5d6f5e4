-- `write_later` meets its contract. The invariant: what the steps from i on want is united, and the entries from i on are written.
use Prim.Native.Nat.{ℕ, ◌+◌, ◌≤◌, ◌<◌}
use mathlib.Core.Path.{◌≡◌}
use lib.ListN.{length, get_or, drop}
use Rattle.drive.specs.Steps.{together}
use Rattle.drive.proofs.write_later.Given as goal

abbrev pub invariant-loop-i : goal.invariant-loop-i
invariant-loop-i l =
    record {
      is : l.all ≡ together (drop l.i l.wants);
      written : (j : ℕ) → l.i ≤ j → j < length l.wants → j < length l.initial.list → get_or l.list j 0 ≡ together (drop (j + 1) l.wants);
      kept : (j : ℕ) → length l.wants ≤ j → get_or l.list j 0 ≡ get_or l.initial.list j 0;
    }
