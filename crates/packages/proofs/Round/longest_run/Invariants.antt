-- `Round::longest_run` meets its contract. Invariant: the run is the run so far and that of the tests that are left.
use mathlib.Core.List.{List}
use Prim.Native.Nat.{ℕ}
use Rattle.std.specs.Iterator.{AlwaysYields}
use Rattle.packages.proofs.Runs.{Left}
use Rattle.packages.proofs.Round.longest_run.Given as goal

abbrev pub invariant-loop-test : goal.invariant-loop-test
invariant-loop-test g l =
    (goal.iterator-loop-test g).can_next l.test-iterator
    × (goal.iterator-loop-test g).is_finite l.test-iterator
    × ((ts : List ℕ) → AlwaysYields g.I.Iterator.next_gives (λ t. t.now) l.initial.test-iterator ts
    → Left g.I.Iterator.next_gives (λ t. t.now) l.self.wants.now l.self.places ts l.test-iterator l.run)
