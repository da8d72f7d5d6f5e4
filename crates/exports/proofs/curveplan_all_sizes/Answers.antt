-- `exports::curveplan_all_sizes` meets its contract.
use mathlib.Core.Path.{refl}
use Rattle.job.specs.Refusal.{outcome, mapped}
use Rattle.exports.specs.Numbers.{numbered, leaves_counts}
use Rattle.exports.proofs.curveplan_all_sizes.Goals as goal

pub returns-in-Ok : goal.returns-in-Ok
unfolding outcome mapped numbered leaves_counts
returns-in-Ok c = rw (← c.in-Ok.ensures.answer) (record { answer = refl; counts = refl })

pub returns-in-Err : goal.returns-in-Err
unfolding outcome mapped leaves_counts
returns-in-Err c = rw (← c.in-Err.ensures.answer) (record { answer = c.refusal.ensures; counts = refl })
