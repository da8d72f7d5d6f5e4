-- `report::put_plan` meets its contract: the head's line, the steps' lines, the end step's line, and the line of the load count.
use Rattle.report.proofs.Lines.{plan_lines}
use Rattle.report.proofs.Writing.{◌then◌}
use Rattle.report.proofs.put_plan.Goals as goal

pub returns : goal.returns
returns c =
    let a = c.args in
    rw (plan_lines a.head a.order.now a.drops.now a.loads.now a.end)
    (c.put_head.ensures then c.put_steps.ensures then c.put_end.ensures then rw c.requires.count_value at c.put_loads.ensures)
