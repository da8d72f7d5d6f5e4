-- `plan_bytes::examine_steps` meets its contract. The invariant: so many steps have passed, and the next one stands at `at`.
use mathlib.Core.List.{List}
use Rattle.plan_bytes.specs.PlanBytes.{Placed}
use Rattle.plan_bytes.proofs.Steps.{Behind}
use Rattle.plan_bytes.proofs.examine_steps.Given as goal

abbrev pub invariant-loop : goal.invariant-loop
invariant-loop l = (acc : List Placed) × Behind l.curves l.tests l.counter l.at l.plan acc
