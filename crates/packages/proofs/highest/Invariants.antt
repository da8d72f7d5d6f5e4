-- `packages::highest` meets its contract. Invariant: no score before i is higher than that of the first, and those before the first are lower.
use Prim.Native.Nat.{ℕ, ◌≤◌, ◌<◌}
use lib.ListN.{get_or}
use Rattle.packages.specs.ContractWords.{unrated}
use Rattle.packages.proofs.highest.Given as goal

abbrev pub invariant-loop-i : goal.invariant-loop-i
invariant-loop-i l = record {
  count : l.most ≤ (get_or l.ratings l.first unrated).score;
  all : (k : ℕ) → k < l.i → (get_or l.ratings k unrated).score ≤ l.most;
  earlier : (k : ℕ) → k < l.first → (get_or l.ratings k unrated).score < l.most;
}
