-- `exports::head_of` meets its contract.
use mathlib.Core.Path.{refl}
use Rattle.job.specs.Refusal.{outcome}
use Rattle.exports.specs.Numbers.{numbered, head_of}
use Rattle.exports.proofs.head_of.Goals as goal

pub returns-in-Ok : goal.returns-in-Ok
unfolding numbered head_of outcome
returns-in-Ok c = rw c.in-Ok.is

pub returns-in-Err : goal.returns-in-Err
unfolding head_of outcome
returns-in-Err c = rw (c.refusal.ensures, c.in-Err.is) refl
