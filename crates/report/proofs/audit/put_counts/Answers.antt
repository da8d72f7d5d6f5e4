-- `report::audit::put_counts` meets its contract.
use Rattle.report.specs.Report.{text}
use Rattle.report.proofs.Auditing.{counts_lines}
use Rattle.report.proofs.Writing.{◌then◌}
use Rattle.report.proofs.audit.put_counts.Goals as goal

pub returns : goal.returns
unfolding text
returns c =
    let a = c.args in
    rw (counts_lines a.loads a.fewest)
    (c.text.ensures then c.number.ensures then c.number-2.ensures then c.number-3.ensures)
