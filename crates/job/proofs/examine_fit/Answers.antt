-- `job::examine_fit` meets its contract.
use Rattle.job.proofs.examine_fit.Goals as goal

pub returns : goal.returns
returns c = rw (← c.capacity-most.ensures) c.examine_sizes.ensures
