-- `exports::curveplan_inside` meets its contract.
use mathlib.Core.Path.{ap, ◌∙◌}
use Rattle.job.specs.Words.{digit}
use Rattle.exports.proofs.Numbers.{truth}
use Rattle.exports.proofs.curveplan_inside.Goals as goal

pub returns : goal.returns
returns c = c.from.ensures ∙ truth c.inside.result ∙ ap digit c.inside.ensures
