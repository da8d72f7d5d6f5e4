-- `plan_bytes::write_plan` meets its contract.
use mathlib.Core.Path.{◌≡◌, sym, ◌∙◌}
use Rattle.job.specs.Refusal.{done, outcome}
use Rattle.job.specs.Words.{job_of}
use Rattle.job.proofs.Laws.{made_refused, handed_on}
use Rattle.planning.specs.Plan.{plan_of}
use Rattle.planning.specs.Planning.{checking}
use Rattle.plan_bytes.specs.PlanBytes.{write_plan_answer, write_plan_buffer}
use Rattle.plan_bytes.proofs.Writing.{unchecked, plan_fitting, passed_writable}
use Rattle.plan_bytes.proofs.write_plan.Goals.{In_ok-check_plan}
use Rattle.plan_bytes.proofs.write_plan.Goals as goal

pub returns-in_err-check_plan : goal.returns-in_err-check_plan
unfolding outcome write_plan_answer write_plan_buffer
returns-in_err-check_plan c =
    let both = made_refused _ _ _ _ (unchecked _ _ _ _ _ _ (sym c.in_err-check_plan.ensures) _) in
    record { answer = handed_on _ _ c.from_residual.ensures.1 ∙ both.0; bytes = both.1 }

-- the plan passed its check
checked : (c : In_ok-check_plan)
    → let a = c.args in
    checking (job_of a.rig a.wants.now) a.held a.order.now (plan_of a.drops.now a.loads.now a.end) ≡ done c.in_ok-check_plan.field-0
unfolding outcome
checked c = sym c.in_ok-check_plan.ensures

pub write_fitting-requires : goal.write_fitting-requires
write_fitting-requires c = let w = passed_writable _ _ _ _ _ (checked (goal.at.write_fitting-requires c).In_ok-check_plan) in
    record {
      tests = w.tests;
      sets = (w.drop_sets, w.load_sets);
      few = w.few;
    }

pub returns : goal.returns
unfolding write_plan_answer write_plan_buffer
returns c =
    rw (plan_fitting _ _ _ _ _ (checked (goal.at.returns c).In_ok-check_plan))
    c.write_fitting.ensures
