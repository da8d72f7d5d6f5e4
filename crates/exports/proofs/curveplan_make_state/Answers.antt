-- `curveplan_make_state` meets its contract.
use mathlib.Core.Path.{refl}
use Rattle.job.specs.Refusal.{outcome, mapped}
use Rattle.exports.specs.Numbers.{numbered}
use Rattle.exports.specs.States.{leaves_state}
use Rattle.exports.proofs.curveplan_make_state.Goals as goal

pub returns-in-Ok : goal.returns-in-Ok
unfolding outcome mapped numbered leaves_state
returns-in-Ok c =
    let e = rw c.rig.ensures at c.in-Ok.ensures.answer in
    rw (← e) (record { answer = refl; state = c.put_state.ensures })

pub returns-in-Err : goal.returns-in-Err
unfolding outcome mapped leaves_state
returns-in-Err c =
    let e = rw c.rig.ensures at c.in-Err.ensures.answer in
    rw (← e) (record { answer = c.refusal.ensures; state = refl })
