-- `exports::curveplan_write_plan` meets its contract.
use mathlib.Core.Path.{ap, ◌∙◌}
use Rattle.exports.specs.Numbers.{numbered}
use Rattle.exports.proofs.curveplan_write_plan.Goals as goal

pub returns : goal.returns
returns c =
    let e = rw c.rig.ensures at c.write_plan.ensures in
    record { answer = c.counted.ensures ∙ ap numbered e.answer; bytes = e.bytes }
