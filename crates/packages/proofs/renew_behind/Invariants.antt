-- `packages::renew_behind` meets its contract. Invariant: the ratings passed are renewed, the others as they were.
use mathlib.Core.Path.{◌≡◌}
use Prim.Native.Nat.{ℕ, ◌≤◌, ◌<◌}
use lib.ListN.{length, get_or}
use Rattle.packages.specs.ContractWords.{unrated, moved_up}
use Rattle.packages.proofs.renew_behind.Given as goal

abbrev pub invariant-loop-rating : goal.invariant-loop-rating
invariant-loop-rating l = record {
  long : length l.rating-items ≡ length l.initial.rating-items;
  done : (k : ℕ) → k < l.rating-index → get_or l.rating-items k unrated ≡ moved_up l.pair.second (get_or l.initial.rating-items k unrated);
  rest : (k : ℕ) → l.rating-index ≤ k → get_or l.rating-items k unrated ≡ get_or l.initial.rating-items k unrated;
}
