-- All sizes and the fewest places: "apart from 7, the walk refuses as planning does".
use Rattle.std.specs.Prelude.{List, ℕ, replicate}
use Rattle.lists.specs.Choice.{Found}
use Rattle.job.specs.Refusal.{Outcome, done, refused, ◌>>◌, mapped}
use Rattle.job.specs.Calls.{sizing_known}
use Rattle.every_size.specs.Sizes.{mark, all_sizes, fewest_places}
use Rattle.planning.specs.Plan.{in_order}

-- "For one order from an empty drive give the load counts for 1 to 64 places .., none booked"
unfoldable pub sizing : ℕ → List ℕ → List ℕ → Outcome (List ℕ)
sizing curves wants order = do
  sizing_known curves wants order
  done (all_sizes curves (in_order wants order))

-- "Then, for a wanted count, give the fewest places ..": from the same list and order, and refused alike
unfoldable pub fewest : ℕ → List ℕ → List ℕ → ℕ → Outcome (Found ℕ)
fewest curves wants order loads = mapped (fewest_places loads) (sizing curves wants order)

-- in the place of counts that are refused stand marks, so that no size serves
unfoldable pub counts_given : Outcome (List ℕ) → List ℕ
counts_given (done counts) = counts
counts_given (refused k i) = replicate 64 mark
