-- `Table::best_partners` meets its contract. Invariant: the packages before k have their rating.
use mathlib.Core.Path.{◌≡◌}
use Prim.Native.Nat.{ℕ, ◌<◌}
use lib.ListN.{length, get_or}
use Rattle.packages.specs.ContractWords.{within, unrated, Rated}
use Rattle.packages.proofs.Table.best_partners.Given as goal

abbrev pub invariant-loop-k : goal.invariant-loop-k
invariant-loop-k l = record {
  long : length l.ratings ≡ length l.initial.ratings;
  done : (i : ℕ) → i < l.k → Rated (within l.self.bound) l.self.curves.now i (get_or l.ratings i unrated);
}
