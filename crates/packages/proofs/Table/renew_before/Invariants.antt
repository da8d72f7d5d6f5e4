-- `Table::renew_before` meets its contract. Invariant: the ratings before `row` are those after the join, the others as they were.
use mathlib.Core.Path.{◌≡◌}
use mathlib.Core.List.{List}
use Prim.Native.Nat.{ℕ, suc, ◌≤◌, ◌<◌}
use lib.ListN.{length, get_or}
use Rattle.packages.specs.ContractWords.{within, joined_curves, unrated, Rated}
use Rattle.packages.proofs.Table.renew_before.Given as goal

abbrev pub invariant-loop-row : goal.invariant-loop-row
invariant-loop-row l = record {
  long : length l.ratings ≡ length l.initial.ratings;
  rest : (k : ℕ) → l.row ≤ k → get_or l.ratings k unrated ≡ get_or l.initial.ratings k unrated;
  done : (cs : List ℕ) → length cs ≡ suc (length l.self.curves.now) → l.self.curves.now ≡ joined_curves cs l.pair.first l.pair.second
      → (k : ℕ) → k < l.row → Rated (within l.self.bound) cs k (get_or l.initial.ratings k unrated)
      → Rated (within l.self.bound) l.self.curves.now k (get_or l.ratings k unrated);
}
