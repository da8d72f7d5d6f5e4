-- `plan_bytes::read_plan` meets its contract: one law of `ReadPlan` a case.
use mathlib.Core.Path.{◌≡◌, sym, ◌∙◌}
use native.Mathlib.Omega.{arith}
use Rattle.job.specs.Refusal.{done, mapped, outcome}
use Rattle.job.proofs.Laws.{handed_on}
use Rattle.job.proofs.Examination.{counts_bounds}
use Rattle.planning.specs.Plan.{set_lists}
use Rattle.plan_bytes.specs.PlanBytes.{plan_steps}
use Rattle.plan_bytes.proofs.ReadPlan.{bytes_counts, bytes_passed, plan_refused, bad_bytes, too_short, plan_given}
use Rattle.plan_bytes.proofs.read_plan.Goals.{In_ok-end}
use Rattle.plan_bytes.proofs.read_plan.Goals as goal

-- the bytes passed their examination, with this end set
passed : (c : In_ok-end)
    → let a = c.args in
    mapped (λ x. x.end) (plan_steps a.curves a.tests a.plan.now) ≡ done c.in_ok-end.end
unfolding outcome
passed c = sym c.in_ok-end.ensures

pub returns-then-shortest-tests : goal.returns-then-shortest-tests
unfolding outcome
returns-then-shortest-tests c =
    let a = c.args in
    let all =
    plan_refused a.curves a.tests a.plan.now a.order.now (set_lists a.drops.now a.loads.now) _ _
    (too_short a.curves a.tests a.plan.now _ (passed (goal.at.returns-then-shortest-tests c).In_ok-end) _ (omega arith)) in
    record { answer = all.0; order = all.1.0; lists = all.1.1 }

pub fill_lists-requires : goal.fill_lists-requires
fill_lists-requires c =
    let a = c.args in record {
      counts = (
        (counts_bounds a.curves a.tests (bytes_counts a.curves a.tests a.plan.now _ (passed (goal.at.fill_lists-requires c).In_ok-end))).0,
        omega arith,
        omega arith,
        omega arith,
      );
      reads = bytes_passed a.curves a.tests a.plan.now _ (passed (goal.at.fill_lists-requires c).In_ok-end);
    }

pub returns-in_err-end : goal.returns-in_err-end
unfolding outcome
returns-in_err-end c =
    let a = c.args in
    let all =
    plan_refused a.curves a.tests a.plan.now a.order.now (set_lists a.drops.now a.loads.now) _ _
    (bad_bytes a.curves a.tests a.plan.now _ _ _ (sym c.in_err-end.ensures)) in
    record { answer = handed_on _ _ c.from_residual.ensures.1 ∙ all.0; order = all.1.0; lists = all.1.1 }

pub returns : goal.returns
unfolding outcome
returns c =
    let a = c.args in
    let e = c.fill_lists.ensures in
    let all =
    plan_given a.curves a.tests a.plan.now a.order.now (set_lists a.drops.now a.loads.now) _ (passed (goal.at.returns c).In_ok-end) _ _ _
    (omega arith) e.tests e.drops e.loads in
    record { answer = all.0; order = all.1.0; lists = all.1.1 }
