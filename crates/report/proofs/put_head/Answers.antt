-- `report::put_head` meets its contract.
use mathlib.Core.List.{[]}
use Rattle.report.specs.Report.{text}
use Rattle.report.proofs.Lines.{head_line}
use Rattle.report.proofs.Writing.{◌then◌}
use Rattle.report.proofs.put_head.Goals as goal

pub returns : goal.returns
unfolding text
returns c =
    rw (head_line c.args.head [] [] [] 0, ← c.capacity-capacity.ensures)
    (c.number.ensures then c.number-2.ensures then c.number-3.ensures)
