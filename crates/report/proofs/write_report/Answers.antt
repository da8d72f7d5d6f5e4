-- `report::write_report` meets its contract: the order and the plan stand in the first entries of the lists.
use mathlib.Core.Path.{sym, ◌∙◌}
use native.Mathlib.Omega.{arith}
use Rattle.planning.specs.Plan.{set_lists}
use Rattle.planned.specs.ContractWords.{lists_of}
use Rattle.planned.proofs.Entries.{Given, refused_job, planned_job}
use Rattle.report.proofs.Reporting.{sheet_refused, sheet_planned}
use Rattle.report.proofs.write_report.Goals.{In-Ok}
use Rattle.report.proofs.write_report.Goals as goal

-- what was read and planned, in the lists that were filled
given : (c : In-Ok)
    → let l = c.plan_job.new in
    Given c.args.job.now c.in-Ok.made (lists_of l.wants l.order (set_lists l.drops l.loads))
given c = planned_job _ _ c.type_inv.job (omega arith) c.in-Ok.ensures.answer c.plan_job.ensures.lists

pub slice_bounds-order-end : goal.slice_bounds-order-end
slice_bounds-order-end c = omega (arith, (given (goal.at.slice_bounds-order-end c).In-Ok).few, c.plan_job.auto.order)

pub slice_bounds-write_plan-end : goal.slice_bounds-write_plan-end
slice_bounds-write_plan-end c = sym (given (goal.at.slice_bounds-write_plan-end c).In-Ok).order_long

pub slice_bounds-drops-end : goal.slice_bounds-drops-end
slice_bounds-drops-end c =
    omega (arith, (given (goal.at.slice_bounds-drops-end c).In-Ok).few, c.plan_job.auto.drops)

pub slice_bounds-write_plan-end-in-Ok : goal.slice_bounds-write_plan-end-in-Ok
slice_bounds-write_plan-end-in-Ok c = sym (given (goal.at.slice_bounds-write_plan-end-in-Ok c).In-Ok).drops_long

pub slice_bounds-loads-end : goal.slice_bounds-loads-end
slice_bounds-loads-end c =
    omega (arith, (given (goal.at.slice_bounds-loads-end c).In-Ok).few, c.plan_job.auto.loads)

pub slice_bounds-write_plan-end-in-Ok-2 : goal.slice_bounds-write_plan-end-in-Ok-2
slice_bounds-write_plan-end-in-Ok-2 c = sym (given (goal.at.slice_bounds-write_plan-end-in-Ok-2 c).In-Ok).loads_long

pub write_plan-requires : goal.write_plan-requires
write_plan-requires c =
    let g = given (goal.at.write_plan-requires c).In-Ok in
    record {
      drops_len = (g.drops_long ∙ sym g.order_long, g.loads_long ∙ sym g.order_long);
      count_value = g.count;
      tests_bound = (g.few, g.room, g.method, omega (arith, g.few, g.order_long));
    }

pub returns-in-Err : goal.returns-in-Err
returns-in-Err c =
    let a = c.args in
    sheet_refused a.job.now a.out.now _ _ (refused_job _ _ c.type_inv.job (omega arith) _ c.in-Err.ensures.answer) c.write_refusal.ensures

pub returns-in-Ok : goal.returns-in-Ok
returns-in-Ok c =
    let a = c.args in
    let g = given (goal.at.returns-in-Ok c).In-Ok in
    sheet_planned a.job.now a.out.now g.planned _ _ _ _ _ g.is g.head g.order g.plan c.write_plan.ensures
