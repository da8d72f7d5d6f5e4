-- `exports::curveplan_fewest_places` meets its contract.
use mathlib.Core.Path.{refl}
use Rattle.every_size.specs.Sizes.{size_found}
use Rattle.job.specs.Refusal.{outcome, mapped}
use Rattle.exports.specs.Numbers.{numbered, places_number}
use Rattle.exports.proofs.curveplan_fewest_places.Goals as goal

pub returns-in-Ok-Some : goal.returns-in-Ok-Some
unfolding outcome mapped numbered places_number size_found
returns-in-Ok-Some c = rw (← c.fewest_places.ensures, c.in-Ok-Some.is, c.in-Ok-Some.field-0-is) refl

pub returns-in-Ok-None : goal.returns-in-Ok-None
unfolding outcome mapped numbered places_number size_found
returns-in-Ok-None c = rw (← c.fewest_places.ensures, c.in-Ok-None.is, c.in-Ok-None.field-0-is) refl

pub returns-in-Err : goal.returns-in-Err
unfolding outcome mapped
returns-in-Err c = rw (← c.in-Err.ensures) c.refusal.ensures
