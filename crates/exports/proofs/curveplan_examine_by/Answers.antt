-- `exports::curveplan_examine_by` meets its contract.
use mathlib.Core.Path.{ap, ◌∙◌}
use Rattle.exports.specs.Numbers.{passing}
use Rattle.exports.proofs.curveplan_examine_by.Goals as goal

pub returns : goal.returns
returns c = c.examined.ensures ∙ ap passing (rw c.rig.ensures at c.examine_job.ensures)
