-- `report::put_steps` meets its contract. The invariant: the lines of the steps from i on are still to be put.
use lib.ListN.{drop}
use Rattle.planning.specs.Plan.{steps}
use Rattle.report.specs.Report.{steps_text}
use Rattle.report.proofs.Writing.{Rest}
use Rattle.report.proofs.put_steps.Given as goal

abbrev pub invariant-loop-i : goal.invariant-loop-i
invariant-loop-i l =
    Rest l.initial.to (steps_text 0 (steps l.order l.drops l.loads)) l.to (steps_text l.i (steps (drop l.i l.order) (drop l.i l.drops) (drop l.i l.loads)))
