-- `plan_bytes::step_part` meets its contract.
use mathlib.Core.Path.{sym, ◌∙◌}
use native.Mathlib.Omega.{arith}
use Rattle.job.specs.Refusal.{outcome}
use Rattle.job.proofs.Examination.{counts_bounds}
use Rattle.plan_bytes.proofs.Fetching.{part_uncounted, part_counted}
use Rattle.plan_bytes.proofs.step_part.Goals as goal

pub find_step-requires : goal.find_step-requires
unfolding outcome
find_step-requires c = (counts_bounds _ _ (sym c.in-Ok.ensures)).0

pub returns-in-Err : goal.returns-in-Err
unfolding outcome
returns-in-Err c =
    let a = c.args in
    record { part = part_uncounted a.curves a.tests a.plan.now a.position _ _ (sym c.in-Err.ensures); inside = omega arith }

pub returns-in-Ok : goal.returns-in-Ok
unfolding outcome
returns-in-Ok c =
    let a = c.args in
    let f = c.find_step.ensures in
    record { part = f.part ∙ part_counted a.curves a.tests a.plan.now a.position (sym c.in-Ok.ensures); inside = f.inside }
