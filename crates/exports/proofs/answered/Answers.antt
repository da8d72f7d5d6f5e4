-- `answered` meets its contract, case by case.
use Rattle.job.specs.Refusal.{outcome}
use Rattle.exports.specs.States.{step_of}
use Rattle.exports.proofs.answered.Goals as goal

pub returns-in-Ok : goal.returns-in-Ok
unfolding outcome
returns-in-Ok c = rw c.in-Ok.is c.shown.ensures

pub returns-in-Err : goal.returns-in-Err
unfolding outcome step_of
returns-in-Err c = rw (c.in-Err.is, c.refusal.ensures)
