-- `report::put_loads` meets its contract.
use Rattle.report.specs.Report.{text}
use Rattle.report.proofs.Lines.{loads_line}
use Rattle.report.proofs.Writing.{◌then◌}
use Rattle.report.proofs.put_loads.Goals as goal

pub returns : goal.returns
unfolding text
returns c = rw (loads_line c.args.count) (c.text.ensures then c.number.ensures)
