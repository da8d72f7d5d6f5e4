-- `report::put_end` meets its contract: no line, or the position, the set and the end of the line.
use Rattle.report.specs.Report.{text}
use Rattle.report.proofs.Lines.{no_end_line, end_line}
use Rattle.report.proofs.Writing.{appended_nil, ◌then◌}
use Rattle.report.proofs.put_end.Goals as goal

pub returns-then-end-ne0 : goal.returns-then-end-ne0
unfolding text
returns-then-end-ne0 c =
    let a = c.args in
    rw (end_line a.position a.end c.if-end-ne0.true) (c.number.ensures then c.set.ensures then c.byte.ensures)

pub returns-else-end-ne0 : goal.returns-else-end-ne0
returns-else-end-ne0 c = let a = c.args in rw (no_end_line a.position a.end c.if-end-ne0.false) (appended_nil a.to.now)
