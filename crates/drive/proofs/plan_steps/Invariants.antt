-- `plan_steps` meets its contract. The invariant: what is written in all comes to what is written and what the steps from i on will write, and so does what
-- is held at the end; and the list of loads still has, from step i on, what the steps after each want together.
use mathlib.Core.Path.{◌≡◌}
use Prim.Native.Nat.{ℕ, ◌+◌, ◌≤◌, ◌<◌}
use lib.ListN.{length, get_or, drop}
use Rattle.drive.specs.Plan.{furthest}
use Rattle.drive.specs.Steps.{together}
use Rattle.drive.proofs.Turns.{Goes}
use Rattle.drive.proofs.plan_steps.Given as goal

abbrev pub invariant-loop-i : goal.invariant-loop-i
invariant-loop-i l =
    record {
      ahead : (j : ℕ) → l.i ≤ j → j < length l.wants → j < length l.loads → get_or l.loads j 0 ≡ together (drop (j + 1) l.wants);
      goes : Goes (furthest 64) l.capacity l.start l.wants l.initial.drops l.initial.loads l.drops l.loads l.held l.i;
    }
