-- `report::sizes::put_table` meets its contract.
use Rattle.report.specs.Report.{text}
use Rattle.report.specs.SizeTable.{wanted_found}
use Rattle.report.proofs.TableLines.{table_lines}
use Rattle.report.proofs.Writing.{◌then◌}
use Rattle.report.proofs.sizes.put_table.Goals as goal

pub returns : goal.returns
unfolding text
returns c =
    let a = c.args in
    rw (table_lines (wanted_found a.wanted) a.head a.counts.now)
    (c.number.ensures then c.number-2.ensures then c.put_sizes.ensures then c.text.ensures then c.put_wanted.ensures)
