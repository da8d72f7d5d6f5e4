-- `Round::join_all` meets its contract. Invariant: the lists hold packages from which the round comes to the same as from the first ones, their sizes, and
-- the rating of each package.
use mathlib.Core.Path.{◌≡◌}
use mathlib.Core.List.{List, map}
use Prim.Native.Nat.{ℕ, ◌^◌, ◌≤◌, ◌<◌}
use lib.ListN.{length, get_or, take}
use Rattle.bitset.specs.Set.{size}
use Rattle.std.specs.List.{sum}
use Rattle.packages.specs.Packages.{curves_of}
use Rattle.packages.specs.ContractWords.{Laid, AllRated}
use Rattle.packages.proofs.State as state
use Rattle.packages.proofs.Round.join_all.Given as goal

abbrev pub invariant-loop-pair : goal.invariant-loop-pair
invariant-loop-pair l = record {
  few : l.left ≤ length l.initial.lengths;
  long_order : length l.order ≡ length l.initial.order;
  long_lengths : length l.lengths ≡ length l.initial.lengths;
  long_curves : length l.curves ≡ length l.initial.lengths;
  long_sizes : length l.sizes ≡ 256;
  long_ratings : length l.ratings ≡ 256;
  sums : sum (take l.left l.lengths) ≡ sum l.initial.lengths;
  small : (k : ℕ) → get_or (take l.left l.curves) k 0 < 2 ^ 64;
  sized : take l.left l.sizes ≡ map size (take l.left l.curves);
  best : AllRated l.bound (take l.left l.curves) (take l.left l.ratings);
  goes : (ps : List (List ℕ)) (rest : List ℕ) → Laid ps rest l.initial.order l.initial.lengths → l.initial.curves ≡ map (curves_of l.self.wants.now) ps
      → state.Left l.self.flipping l.self.wants.now l.self.places ps rest l.order (take l.left l.lengths) (take l.left l.curves);
}

abbrev pub decreases-loop-pair : goal.decreases-loop-pair
decreases-loop-pair l = l.left
