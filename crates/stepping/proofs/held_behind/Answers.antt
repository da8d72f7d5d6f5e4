-- `held_behind` meets its contract, case by case.
use Rattle.stepping.specs.Stepping.{held_behind}
use Rattle.stepping.proofs.held_behind.Goals as goal

pub returns-in-Step : goal.returns-in-Step
unfolding held_behind
returns-in-Step c = rw c.in-Step.is c.moved.ensures

pub returns-in-End : goal.returns-in-End
unfolding held_behind
returns-in-End c = rw c.in-End.is c.without.ensures

pub returns-in-Done : goal.returns-in-Done
unfolding held_behind
returns-in-Done c = rw c.in-Done.is
