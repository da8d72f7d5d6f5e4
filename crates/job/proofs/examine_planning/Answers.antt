-- `job::examine_planning` meets its contract.
use Rattle.job.specs.Calls.{planning_known}
use Rattle.job.proofs.Laws.{refused_then, passed_then}
use Rattle.job.proofs.examine_planning.Goals as goal

pub returns-in_err-examine_checking : goal.returns-in_err-examine_checking
unfolding planning_known
returns-in_err-examine_checking c = refused_then _ _ _ c.from_residual.ensures.1 c.in_err-examine_checking.ensures

pub returns : goal.returns
unfolding planning_known
returns c = passed_then _ c.in_ok-examine_checking.ensures c.examine_fit.ensures
