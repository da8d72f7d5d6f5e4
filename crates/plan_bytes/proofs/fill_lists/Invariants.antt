-- `plan_bytes::fill_lists` meets its contract. The invariant: k steps have been read, each list has an entry for each of them, and the next step stands
-- at `at`.
use mathlib.Core.List.{List}
use Rattle.plan_bytes.specs.PlanBytes.{Placed}
use Rattle.plan_bytes.proofs.Steps.{Behind, Filled}
use Rattle.plan_bytes.proofs.fill_lists.Given as goal

abbrev pub invariant-loop-k : goal.invariant-loop-k
invariant-loop-k l =
    (acc : List Placed)
    × record {
      behind : Behind l.curves l.tests l.k l.at l.plan acc;
      tests : Filled (λ s. s.step.test) acc l.initial.order l.order;
      drops : Filled (λ s. s.step.drops) acc l.initial.drops l.drops;
      loads : Filled (λ s. s.step.loads) acc l.initial.loads l.loads;
    }
