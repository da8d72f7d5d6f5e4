-- `plan` meets its contract: behind the examinations it is planning without them.
use mathlib.Core.Path.{sym, ◌∙◌}
use Rattle.job.specs.Refusal.{outcome}
use Rattle.job.proofs.Laws.{handed_on}
use Rattle.planning.specs.Plan.{set_lists}
use Rattle.planning.proofs.Planned.{refused_contract, tests_contract}
use Rattle.planning.proofs.plan.Goals as goal

pub returns-in_err-examine_planning : goal.returns-in_err-examine_planning
unfolding outcome
returns-in_err-examine_planning c =
    let a = c.args in
    let both = refused_contract _ _ _ (set_lists a.drops.now a.loads.now) _ _ (sym c.in_err-examine_planning.ensures) in
    let e = handed_on _ _ c.from_residual.ensures.1 in
    record { answer = e ∙ both.0; lists = both.1.0; demand3 = rw e both.1.1 }

pub returns : goal.returns
unfolding outcome
returns c =
    let a = c.args in
    let both =
    tests_contract _ _ _ (set_lists a.drops.now a.loads.now)
    (sym c.in_ok-examine_planning.ensures) _ _
    (rw (← c.capacity-capacity.ensures) c.plan_tests.ensures.answer) (rw (← c.capacity-capacity.ensures) c.plan_tests.ensures.lists) in
    record { answer = both.0; lists = both.1.0; demand3 = both.1.1 }
