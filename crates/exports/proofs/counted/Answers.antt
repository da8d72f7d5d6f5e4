-- `exports::counted` meets its contract.
use mathlib.Core.Path.{refl, ◌∙◌}
use Rattle.job.specs.Refusal.{outcome}
use Rattle.exports.specs.Numbers.{numbered}
use Rattle.exports.proofs.counted.Goals as goal

pub returns-in-Ok : goal.returns-in-Ok
unfolding numbered outcome
returns-in-Ok c = rw c.in-Ok.is

pub returns-in-Err : goal.returns-in-Err
unfolding outcome
returns-in-Err c = c.refusal.ensures ∙ rw c.in-Err.is refl
