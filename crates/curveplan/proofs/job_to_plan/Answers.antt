-- `curveplan::job_to_plan` meets its contract: wants, order and plan stand in the first entries of the lists.
use mathlib.Core.Path.{sym, ◌∙◌}
use native.Mathlib.Omega.{arith}
use Rattle.job.specs.Refusal.{outcome}
use Rattle.job.proofs.Laws.{handed_on}
use Rattle.planning.specs.Plan.{set_lists}
use Rattle.planned.specs.ContractWords.{lists_of}
use Rattle.planned.proofs.Reading.{bytes_of}
use Rattle.planned.proofs.Entries.{Given, refused_job, planned_job}
use Rattle.curveplan.proofs.Composed.{call_refused, call_given}
use Rattle.curveplan.proofs.job_to_plan.Goals.{In_ok-made}
use Rattle.curveplan.proofs.job_to_plan.Goals as goal

-- what was read and planned, in the lists that were filled
given : (c : In_ok-made)
    → let l = c.plan_job.new in
    Given c.args.job.now c.in_ok-made.made (lists_of l.wants l.order (set_lists l.drops l.loads))
given c = planned_job _ _ c.type_inv.job (omega arith) c.in_ok-made.ensures.answer c.plan_job.ensures.lists

pub slice_bounds-order-end : goal.slice_bounds-order-end
slice_bounds-order-end c = omega (arith, (given (goal.at.slice_bounds-order-end c).In_ok-made).few, c.plan_job.auto.order)

pub slice_bounds-write_steps-end : goal.slice_bounds-write_steps-end
slice_bounds-write_steps-end c = sym (given (goal.at.slice_bounds-write_steps-end c).In_ok-made).order_long

pub slice_bounds-drops-end : goal.slice_bounds-drops-end
slice_bounds-drops-end c =
    omega (arith, (given (goal.at.slice_bounds-drops-end c).In_ok-made).few, c.plan_job.auto.drops)

pub slice_bounds-write_steps-end-2 : goal.slice_bounds-write_steps-end-2
slice_bounds-write_steps-end-2 c = sym (given (goal.at.slice_bounds-write_steps-end-2 c).In_ok-made).drops_long

pub slice_bounds-loads-end : goal.slice_bounds-loads-end
slice_bounds-loads-end c =
    omega (arith, (given (goal.at.slice_bounds-loads-end c).In_ok-made).few, c.plan_job.auto.loads)

pub slice_bounds-write_steps-end-3 : goal.slice_bounds-write_steps-end-3
slice_bounds-write_steps-end-3 c = sym (given (goal.at.slice_bounds-write_steps-end-3 c).In_ok-made).loads_long

pub returns-in_err-made : goal.returns-in_err-made
unfolding outcome
returns-in_err-made c =
    let a = c.args in
    let both = call_refused a.job.now a.plan.now _ _ (refused_job _ _ c.type_inv.job (omega arith) _ c.in_err-made.ensures.answer) in
    record { count = handed_on _ _ c.from_residual.ensures.1 ∙ both.0; bytes = both.1 }

pub returns : goal.returns
returns c =
    let a = c.args in
    let g = given (goal.at.returns c).In_ok-made in
    let w = c.write_steps.ensures in
    let both =
    call_given a.job.now a.plan.now (bytes_of _ c.type_inv.job) g.planned _ _ g.is g.order g.plan _ _ w.answer w.bytes in
    record { count = both.0; bytes = both.1 }
