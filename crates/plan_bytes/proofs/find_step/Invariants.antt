-- `plan_bytes::find_step` meets its contract. The invariant: i steps have been read, the next one stands at `at`, and the part of `count` bytes from `start`
-- on is that of the step at the position, if it is among those.
use Prim.Native.Nat.{◌≤◌}
use mathlib.Core.List.{List}
use lib.ListN.{length}
use Rattle.plan_bytes.specs.PlanBytes.{Placed}
use Rattle.plan_bytes.proofs.Steps.{Behind}
use Rattle.plan_bytes.proofs.Fetching.{PartIs}
use Rattle.plan_bytes.proofs.find_step.Given as goal

abbrev pub invariant-loop-i : goal.invariant-loop-i
invariant-loop-i l =
    (acc : List Placed)
    × record {
      behind : Behind l.curves l.tests l.i l.at l.plan acc;
      inside : l.at ≤ length l.plan;
      part : PartIs l.plan l.position acc l.start l.count;
    }
