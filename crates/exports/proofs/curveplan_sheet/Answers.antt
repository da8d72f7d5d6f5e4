-- `exports::curveplan_sheet` meets its contract.
use mathlib.Core.Path.{ap, ◌∙◌}
use Rattle.exports.specs.Numbers.{numbered}
use Rattle.exports.proofs.curveplan_sheet.Goals as goal

pub returns : goal.returns
returns c = let e = c.write_report.ensures in record { answer = c.counted.ensures ∙ ap numbered e.answer; text = e.bytes }
