-- `report::audit::beside_fewest` meets its contract.
use mathlib.Core.Path.{◌∙◌}
use native.Mathlib.Omega.{arith}
use Rattle.job.specs.Refusal.{outcome, mapped}
use Rattle.job.specs.Words.{job_of}
use Rattle.job.proofs.Laws.{handed_on}
use Rattle.planning.specs.Plan.{set_lists}
use Rattle.report.proofs.Auditing.{counts}
use Rattle.report.proofs.audit.beside_fewest.Goals as goal

pub returns-in_err-ours : goal.returns-in_err-ours
unfolding outcome mapped
returns-in_err-ours c =
    let a = c.args in
    handed_on _ _ c.from_residual.ensures.1
    ∙ counts (job_of a.head.rig a.wants.now) a.order.now (set_lists _ _) a.count a.head.tests (omega (arith, c.requires))
    (omega (arith, c.requires)) _ c.in_err-ours.ensures.answer

pub returns : goal.returns
unfolding outcome mapped
returns c =
    let a = c.args in
    counts (job_of a.head.rig a.wants.now) a.order.now (set_lists _ _) a.count a.head.tests (omega (arith, c.requires))
    (omega (arith, c.requires)) _ c.in_ok-ours.ensures.answer
