-- `job::examine_ordering` meets its contract.
use Rattle.job.specs.Calls.{ordering_known}
use Rattle.job.proofs.Laws.{refused_then, passed_then}
use Rattle.job.proofs.examine_ordering.Goals as goal

pub returns-in_err-examine_job : goal.returns-in_err-examine_job
unfolding ordering_known
returns-in_err-examine_job c = refused_then _ _ _ c.from_residual.ensures.1 c.in_err-examine_job.ensures

pub returns : goal.returns
unfolding ordering_known
returns c = passed_then _ c.in_ok-examine_job.ensures c.examine_fit.ensures
