use mathlib.Core.Path.{refl}
use mathlib.Core.List.{[]}
use native.Mathlib.Omega.{arith}
use Rattle.job.specs.Refusal.{mapped}
use Rattle.job.proofs.Laws.{handed_on}
use Rattle.plan_bytes.proofs.Steps.{begin, step_more, step_faulty, end_examined}
use Rattle.plan_bytes.proofs.examine_steps.Goals as goal

pub loop-init : goal.loop-init
loop-init c = let a = c.args in ([], begin a.curves a.tests a.plan.now)

pub returns-in_err-step : goal.returns-in_err-step
unfolding mapped
returns-in_err-step c =
    let l = c.loop in
    let a = c.args in
    rw (
      handed_on _ _ c.from_residual.ensures.1,
      step_faulty a.curves a.tests a.plan.now l.counter l.at l.invariant.0 l.invariant.1 c.loop-test.true _ c.in_err-step.ensures,
    ) refl

pub loop-preserved : goal.loop-preserved
loop-preserved c =
    let l = c.loop in
    let a = c.args in
    (_, step_more a.curves a.tests a.plan.now l.counter l.at l.invariant.0 l.invariant.1 c.loop-test.true _ c.in_ok-step.ensures)

pub returns : goal.returns
returns c =
    let l = c.loop in
    let a = c.args in
    end_examined a.curves a.tests a.plan.now l.counter l.at l.invariant.0 l.invariant.1 (omega arith) _ (c.read_end.ensures a.tests)
