-- `exports::curveplan_examine_sizes` meets its contract.
use mathlib.Core.Path.{ap, ◌∙◌}
use Rattle.exports.specs.Numbers.{passing}
use Rattle.exports.proofs.curveplan_examine_sizes.Goals as goal

pub returns : goal.returns
returns c = c.examined.ensures ∙ ap passing c.examine_sizes.ensures
