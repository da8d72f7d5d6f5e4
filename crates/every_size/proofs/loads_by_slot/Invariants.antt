-- `loads_by_slot` meets its contract. The invariant: i steps are walked, for every drive size.
use Prim.Native.Nat.{ℕ, ◌+◌, ◌<◌}
use mathlib.Core.Path.{◌≡◌}
use lib.ListN.{length, get_or, drop}
use Rattle.drive.specs.Steps.{together}
use Rattle.every_size.proofs.EverySize.{Walking}
use Rattle.every_size.proofs.loads_by_slot.Given as goal

abbrev pub invariant-loop-i : goal.invariant-loop-i
invariant-loop-i l =
    record {
      ahead : (j : ℕ) → j < length l.wants → get_or l.laters j 0 ≡ together (drop (j + 1) l.wants);
      walking : Walking l.wants l.i l.slots l.loads l.seen;
    }
