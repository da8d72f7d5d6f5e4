-- `exports::curveplan_plan_order` meets its contract.
use Rattle.exports.proofs.curveplan_plan_order.Goals as goal

pub returns : goal.returns
returns c =
    let e = rw c.rig.ensures at c.plan.ensures in
    let a = rw e.answer at c.with_end.ensures in
    record { answer = a.answer; lists = e.lists; end = a.end }
