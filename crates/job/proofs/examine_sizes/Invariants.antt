-- `job::examine_sizes` meets its contract. The invariant: the examination of all tests comes to that of the tests from t on.
use mathlib.Core.Path.{◌≡◌}
use Prim.Native.Nat.{◌+◌}
use lib.ListN.{drop}
use lib.Dec.{leb}
use Rattle.bitset.specs.Set.{size}
use Rattle.job.specs.Handed.{each}
use Rattle.job.proofs.examine_sizes.Given as goal

abbrev pub invariant-loop-t : goal.invariant-loop-t
invariant-loop-t l = each (λ w. leb (size w) l.most) 7 0 l.wants ≡ each (λ w. leb (size w) l.most) 7 (0 + l.t) (drop l.t l.wants)
