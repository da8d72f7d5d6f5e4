-- `exports::curveplan_write_job` meets its contract.
use mathlib.Core.Path.{ap, ◌∙◌}
use Rattle.exports.specs.Numbers.{numbered}
use Rattle.exports.proofs.curveplan_write_job.Goals as goal

pub returns : goal.returns
returns c =
    let e = rw c.rig.ensures at c.write_job.ensures in
    record { answer = c.counted.ensures ∙ ap numbered e.answer; bytes = e.lent }
