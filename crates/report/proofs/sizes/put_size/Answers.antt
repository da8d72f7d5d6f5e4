-- `report::sizes::put_size` meets its contract.
use Rattle.report.specs.Report.{text}
use Rattle.report.proofs.TableLines.{size_line, mark_line}
use Rattle.report.proofs.Writing.{◌then◌}
use Rattle.report.proofs.sizes.put_size.Goals as goal

pub returns-then-entry-eq-MARK : goal.returns-then-entry-eq-MARK
unfolding text
returns-then-entry-eq-MARK c =
    let a = c.args in
    rw (mark_line a.places a.entry c.if-entry-eq-MARK.true) (c.number.ensures then c.text.ensures)

pub returns-else-entry-eq-MARK : goal.returns-else-entry-eq-MARK
unfolding text
returns-else-entry-eq-MARK c =
    let a = c.args in
    rw (size_line a.places a.entry c.if-entry-eq-MARK.false) (c.number.ensures then c.number-else-entry-eq-MARK.ensures)
