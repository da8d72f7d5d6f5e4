-- `job::examine_checking` meets its contract.
use mathlib.Core.Path.{sym}
use Rattle.job.specs.Refusal.{outcome}
use Rattle.job.specs.Words.{IsJob, job_of}
use Rattle.job.specs.Calls.{checking_known}
use Rattle.job.proofs.Laws.{refused_then, passed_then}
use Rattle.job.proofs.JobExact.{job_exact}
use Rattle.job.proofs.examine_checking.Goals.{In_ok-examine_job}
use Rattle.job.proofs.examine_checking.Goals as goal

-- what was examined first is a job
passed : (c : In_ok-examine_job) → IsJob (job_of c.args.rig c.args.wants.now)
unfolding outcome
passed c = (job_exact _).0 (sym c.in_ok-examine_job.ensures)

pub returns-in_err-examine_job : goal.returns-in_err-examine_job
unfolding checking_known
returns-in_err-examine_job c = refused_then _ _ _ c.from_residual.ensures.1 c.in_err-examine_job.ensures

pub examine_held-requires : goal.examine_held-requires
examine_held-requires c = (passed (goal.at.examine_held-requires c).In_ok-examine_job).curves_bounds.1

pub returns-in_err-examine_held : goal.returns-in_err-examine_held
unfolding checking_known
returns-in_err-examine_held c =
    passed_then _ c.in_ok-examine_job.ensures (refused_then _ _ _ c.from_residual-in_err-examine_held.ensures.1 c.in_err-examine_held.ensures)

pub examine_order-requires : goal.examine_order-requires
examine_order-requires c = (passed (goal.at.examine_order-requires c).In_ok-examine_job).tests_bound

pub returns : goal.returns
unfolding checking_known
returns c = passed_then _ c.in_ok-examine_job.ensures (passed_then _ c.in_ok-examine_held.ensures c.examine_order.ensures)
