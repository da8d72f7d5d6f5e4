-- The examination of handed numbers, test by test: which refusal the tests so far come to.
use mathlib.Core.Path.{◌≡◌, refl, ap, ◌∙◌}
use mathlib.Core.Bool.{true, false}
use Prim.Native.Nat.{ℕ, ◌≤◌, ◌<◌}
use lib.Dec.{leb}
use lib.ListN.{length}
use borrow.Author.Tests.{le-leb, lt-leb, leb-true}
use Rattle.job.specs.Refusal.{Outcome, done, refused, ◌>>◌, demand}
use Rattle.job.specs.declared.Rig.{Rig}
use Rattle.job.specs.Words.{Job}
use Rattle.job.specs.Handed.{between, places_known, curves_known, tests_known, method_known, wants_known, numbers_known, booked_known, job_known_by}
use Rattle.job.specs.Handed.{counts_known, is_method}
use Rattle.job.proofs.Laws.{both, both_done, done_both, both_assoc, demand_true, demand_done}

-- a sequence whose first part is refused
pub refused_both : {A B : Type 0} (a : Outcome A) (b : Outcome B) (k i : ℕ) → a ≡ refused k i → ◌>>◌ a b ≡ refused k i
unfolding ◌>>◌
refused_both a b k i e = rw e refl

-- a number of tests that is known
pub few_tests : (tests : ℕ) → tests ≤ 256 → tests_known tests ≡ done tt
unfolding tests_known
few_tests tests h = demand_done _ 10 2 (le-leb tests 256 h)

pub tests_few : (tests : ℕ) → tests_known tests ≡ done tt → tests ≤ 256
unfolding tests_known
tests_few tests e = leb-true tests 256 (demand_true _ 10 2 e)

module _ (curves tests : ℕ) where
  pub counts_curves : between 1 64 curves ≡ false → counts_known curves tests ≡ refused 10 1
  unfolding counts_known curves_known demand ◌>>◌
  counts_curves e = rw e refl

  pub counts_many : between 1 64 curves ≡ true → 256 < tests → counts_known curves tests ≡ refused 10 2
  unfolding counts_known curves_known tests_known demand ◌>>◌
  counts_many q h = rw (q, lt-leb tests 256 h) refl

  pub counts_known_lem : between 1 64 curves ≡ true → tests ≤ 256 → counts_known curves tests ≡ done tt
  unfolding counts_known curves_known tests_known demand ◌>>◌
  counts_known_lem q h = rw (q, le-leb tests 256 h) refl

  pub counts_bounds : counts_known curves tests ≡ done tt → (curves ≤ 64) × (tests ≤ 256)
  unfolding counts_known curves_known between
  counts_bounds e =
      let a = both_done (curves_known curves) _ tt e in
      (leb-true curves 64 (both (leb 1 curves) (leb curves 64) (demand_true _ 10 1 a.0)).1, tests_few tests a.1)

module _ (rig : Rig) (tests : ℕ) where
  pub bad_places : between 1 64 rig.places ≡ false → numbers_known rig tests ≡ refused 10 0
  unfolding numbers_known places_known demand ◌>>◌
  bad_places e = rw e refl

  -- the rest is the examination of curves and tests
  pub numbers_counts : between 1 64 rig.places ≡ true → numbers_known rig tests ≡ counts_known rig.curves tests
  unfolding numbers_known counts_known places_known demand ◌>>◌
  numbers_counts p = rw p refl

  pub known_bounds : numbers_known rig tests ≡ done tt → (rig.curves ≤ 64) × (tests ≤ 256)
  unfolding numbers_known counts_known
  known_bounds e = counts_bounds rig.curves tests (both_done (places_known rig.places) _ tt e).1

-- ---- 10, the method
module _ {A : Type 0} (method : ℕ) (rest : Outcome A) where
  pub method_passed : is_method method ≡ true → ◌>>◌ (method_known method) rest ≡ rest
  unfolding method_known demand ◌>>◌
  method_passed h = rw h refl

  pub method_refused : is_method method ≡ false → ◌>>◌ (method_known method) rest ≡ refused 10 3
  unfolding method_known demand ◌>>◌
  method_refused h = rw h refl

-- ---- the whole, by its parts
module _ (method : ℕ) (job : Job) where
  -- all that is asked before the booked places
  abbrev pub before_booked : Outcome (Unit {0})
  before_booked = ◌>>◌ (numbers_known job.rig (length job.wants)) (◌>>◌ (method_known method) (wants_known job.rig.curves job.wants))

  pub by_parts : job_known_by method job ≡ ◌>>◌ before_booked (booked_known job.rig)
  unfolding job_known_by
  by_parts =
      ap (◌>>◌ (numbers_known job.rig (length job.wants))) (both_assoc (method_known method) (wants_known job.rig.curves job.wants)
      (booked_known job.rig))
      ∙ both_assoc (numbers_known job.rig (length job.wants)) _ (booked_known job.rig)

  pub by_method : numbers_known job.rig (length job.wants) ≡ done tt → is_method method ≡ false → job_known_by method job ≡ refused 10 3
  unfolding job_known_by
  by_method e h = done_both _ _ e ∙ method_refused method _ h
