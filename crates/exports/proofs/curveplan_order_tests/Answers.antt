-- `exports::curveplan_order_tests` meets its contract.
use mathlib.Core.Path.{ap, ◌∙◌}
use Rattle.exports.specs.Numbers.{numbered}
use Rattle.exports.proofs.curveplan_order_tests.Goals as goal

pub returns : goal.returns
returns c =
    let e = rw c.rig.ensures at c.order_tests.ensures in
    record { answer = c.counted.ensures ∙ ap numbered e.answer; order = e.list }
