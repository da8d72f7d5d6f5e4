-- `report::Text::number` meets its contract.
use Rattle.report.proofs.Writing.{◌then◌}
use Rattle.report.proofs.Text.number.Goals as goal

pub returns : goal.returns
returns c = c.decimal.ensures then c.text.ensures
