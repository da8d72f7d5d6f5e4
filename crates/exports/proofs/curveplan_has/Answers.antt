-- `exports::curveplan_has` meets its contract.
use mathlib.Core.Path.{ap, ◌∙◌}
use Rattle.job.specs.Words.{digit}
use Rattle.exports.proofs.Numbers.{truth}
use Rattle.exports.proofs.curveplan_has.Goals as goal

pub returns : goal.returns
returns c = c.from.ensures ∙ truth c.has.result ∙ ap digit c.has.ensures
