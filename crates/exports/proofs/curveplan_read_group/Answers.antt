-- `exports::curveplan_read_group` meets its contract, case by case.
use mathlib.Core.Path.{refl}
use Rattle.job.specs.Refusal.{mapped}
use Rattle.job_bytes.specs.SetBytes.{group_outcome}
use Rattle.exports.specs.Numbers.{numbered, group_at, leaves_one}
use Rattle.exports.proofs.curveplan_read_group.Goals as goal

pub returns-in-Err-Owed : goal.returns-in-Err-Owed
unfolding group_at group_outcome mapped numbered leaves_one
returns-in-Err-Owed c = rw (← c.read_group.ensures 1 2 3 0, c.in-Err-Owed.is, c.in-Err-Owed.field-0-is) record { answer = refl; set = refl }

pub returns-in-Err-Empty : goal.returns-in-Err-Empty
unfolding group_at group_outcome mapped numbered leaves_one
returns-in-Err-Empty c = rw (← c.read_group.ensures 1 2 3 0, c.in-Err-Empty.is, c.in-Err-Empty.field-0-is) record { answer = refl; set = refl }

pub returns-in-Err-Unknown : goal.returns-in-Err-Unknown
unfolding group_at group_outcome mapped numbered leaves_one
returns-in-Err-Unknown c = rw (← c.read_group.ensures 1 2 3 0, c.in-Err-Unknown.is, c.in-Err-Unknown.field-0-is) record { answer = refl; set = refl }

pub returns-in-Ok : goal.returns-in-Ok
unfolding group_at group_outcome mapped numbered leaves_one
returns-in-Ok c = rw (← c.read_group.ensures 1 2 3 0, c.in-Ok.is) record { answer = refl; set = refl }
