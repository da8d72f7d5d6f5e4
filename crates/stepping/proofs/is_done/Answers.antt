-- `is_done` meets its contract, case by case.
use Rattle.stepping.specs.Stepping.{is_done}
use Rattle.stepping.proofs.is_done.Goals as goal

pub returns-in-Step : goal.returns-in-Step
unfolding is_done
returns-in-Step c = rw c.in-Step.is

pub returns-in-End : goal.returns-in-End
unfolding is_done
returns-in-End c = rw c.in-End.is

pub returns-in-Done : goal.returns-in-Done
unfolding is_done
returns-in-Done c = rw c.in-Done.is
