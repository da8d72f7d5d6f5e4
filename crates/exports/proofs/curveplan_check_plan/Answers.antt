-- `exports::curveplan_check_plan` meets its contract.
use mathlib.Core.Path.{ap, ◌∙◌}
use Rattle.exports.specs.Numbers.{numbered}
use Rattle.exports.proofs.curveplan_check_plan.Goals as goal

pub returns : goal.returns
returns c = c.counted.ensures ∙ ap numbered (rw c.rig.ensures at c.check_plan.ensures)
