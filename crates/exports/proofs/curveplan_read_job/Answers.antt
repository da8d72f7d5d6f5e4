-- `exports::curveplan_read_job` meets its contract.
use mathlib.Core.Path.{ap, ◌∙◌}
use Rattle.exports.specs.Numbers.{head_of}
use Rattle.exports.proofs.curveplan_read_job.Goals as goal

pub returns : goal.returns
returns c = let e = c.read_job.ensures in record { answer = c.head_of.ensures ∙ ap head_of e.answer; wants = e.lent }
