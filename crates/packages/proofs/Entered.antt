-- Numbers that are written to a list where they fit: the cases.
use mathlib.Core.Path.{◌≡◌, refl, ◌∙◌}
use mathlib.Core.List.{List}
use Prim.Native.Nat.{ℕ, ◌≤◌, ◌<◌}
use native.Mathlib.Omega.{arith}
use lib.ListN.{length}
use borrow.Author.Tests.{le-leb, lt-leb}
use Rattle.job.specs.Refusal.{done, demand, room, overwritten}
use Rattle.job.specs.Handed.{tests_known}
use Rattle.job.proofs.Laws.{demand_done, done_both, done_room, leaves_done, leaves_refused}
use Rattle.job.proofs.Examination.{refused_both}
use Rattle.packages.specs.Tests.{entered}

-- n new ones
module _ (new old : List ℕ) (n : ℕ) (long : length new ≡ n) where
  pub entered_many : 256 < n → entered new old ≡ old
  unfolding entered tests_known demand
  entered_many h = leaves_refused {A = Unit {0}} (λ _. new) _ 10 2 old (refused_both _ _ 10 2 (rw (lt-leb (length new) 256 (omega (arith, long))) refl))

  module _ (few : n ≤ 256) where
    known : tests_known (length new) ≡ done tt
    unfolding tests_known
    known = demand_done _ 10 2 (le-leb (length new) 256 (omega (arith, long)))

    pub entered_short : length old < n → entered new old ≡ old
    unfolding entered room demand
    entered_short h =
        leaves_refused {A = Unit {0}} (λ _. new) _ 9 (length new) old (done_both _ _ known ∙ rw (lt-leb (length new) (length old) (omega (arith, long))) refl)

    pub entered_all : n ≤ length old → entered new old ≡ overwritten new old
    unfolding entered
    entered_all h = leaves_done {A = Unit {0}} (λ _. new) _ tt old (done_both _ _ known ∙ done_room (length old) (length new) (omega (arith, long)))
