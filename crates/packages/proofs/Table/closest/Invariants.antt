-- `Table::closest` meets its contract. Invariant: each rating holds. A turn of the loop makes the ratings lighter.
use mathlib.Core.Path.{◌≡◌}
use lib.ListN.{length}
use Rattle.packages.specs.ContractWords.{AllRated}
use Rattle.packages.proofs.Ratings.{weights}
use Rattle.packages.proofs.Table.closest.Given as goal

abbrev pub invariant-loop-rating : goal.invariant-loop-rating
invariant-loop-rating l = record {
  long : length l.ratings ≡ length l.initial.ratings;
  rated : AllRated l.self.bound l.self.curves.now l.ratings;
}

abbrev pub decreases-loop-rating : goal.decreases-loop-rating
decreases-loop-rating l = weights l.ratings
