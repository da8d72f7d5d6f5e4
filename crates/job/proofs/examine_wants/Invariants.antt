-- `job::examine_wants` meets its contract. The invariant: the examination of all tests comes to that of the tests from t on.
use mathlib.Core.Path.{◌≡◌}
use Prim.Native.Nat.{◌+◌}
use lib.ListN.{drop}
use Rattle.bitset.specs.Set.{inside}
use Rattle.job.specs.Handed.{all_curves, each}
use Rattle.job.proofs.examine_wants.Given as goal

abbrev pub invariant-loop-t : goal.invariant-loop-t
invariant-loop-t l =
    each (λ w. inside w (all_curves l.curves)) 10 4 l.wants ≡ each (λ w. inside w (all_curves l.curves)) 10 (4 + l.t)
    (drop l.t l.wants)
