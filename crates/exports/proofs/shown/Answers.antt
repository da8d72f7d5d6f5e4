-- `shown` meets its contract, case by case.
use Rattle.exports.specs.States.{step_of}
use Rattle.exports.proofs.shown.Goals as goal

pub returns-in-Step : goal.returns-in-Step
unfolding step_of
returns-in-Step c = rw c.in-Step.is

pub returns-in-End : goal.returns-in-End
unfolding step_of
returns-in-End c = rw c.in-End.is

pub returns-in-Done : goal.returns-in-Done
unfolding step_of
returns-in-Done c = rw c.in-Done.is
