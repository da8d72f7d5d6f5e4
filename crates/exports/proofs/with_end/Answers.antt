-- `exports::with_end` meets its contract.
use mathlib.Core.Path.{refl, ◌∙◌}
use Rattle.job.specs.Refusal.{mapped, outcome}
use Rattle.exports.specs.Numbers.{numbered, leaves_one}
use Rattle.exports.proofs.with_end.Goals as goal

pub returns-in-Ok : goal.returns-in-Ok
unfolding numbered leaves_one mapped outcome
returns-in-Ok c = rw c.in-Ok.is record { answer = refl; end = refl }

pub returns-in-Err : goal.returns-in-Err
unfolding leaves_one mapped outcome
returns-in-Err c = let e = c.in-Err.is in record { answer = c.refusal.ensures ∙ rw e refl; end = rw e refl }
