-- `exports::curveplan_read_plan` meets its contract.
use Rattle.exports.proofs.curveplan_read_plan.Goals as goal

pub returns : goal.returns
returns c =
    let e = c.read_plan.ensures in
    let a = rw e.answer at c.with_end.ensures in
    record { answer = a.answer; order = e.order; lists = e.lists; end = a.end }
