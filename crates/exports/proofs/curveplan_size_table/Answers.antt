-- `exports::curveplan_size_table` meets its contract.
use mathlib.Core.Path.{ap, ◌∙◌}
use Rattle.exports.specs.Numbers.{numbered}
use Rattle.exports.proofs.curveplan_size_table.Goals as goal

pub returns : goal.returns
returns c =
    let e = rw c.wanted.ensures at c.write_size_table.ensures in
    record { answer = c.counted.ensures ∙ ap numbered e.answer; text = e.bytes }
