-- `report::put_step` meets its contract.
use Rattle.report.specs.Report.{text}
use Rattle.report.proofs.Lines.{step_line}
use Rattle.report.proofs.Writing.{◌then◌}
use Rattle.report.proofs.put_step.Goals as goal

pub returns : goal.returns
unfolding text
returns c =
    let a = c.args in
    rw (step_line a.position a.test a.drops a.loads)
    (c.number.ensures then c.number-2.ensures then c.set.ensures then c.text.ensures then c.set-2.ensures then c.byte.ensures)
