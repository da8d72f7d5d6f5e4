-- What is handed over passes the examination exactly where it is a job, with a known method or without.
use mathlib.Core.Path.{◌≡◌, ◌∙◌}
use mathlib.Core.Logic.{◌↔◌}
use mathlib.Core.Bool.{true, not}
use Prim.Native.Nat.{ℕ, ◌^◌, ◌≤◌, ◌<◌}
use native.Mathlib.Omega.{arith}
use native.Mathlib.Nat.{mod-eq_of_lt, mod-lt}
use lib.Dec.{leb, eqb}
use lib.Pow.{pow_pos}
use lib.Bits.{and_mask}
use lib.ListN.{length, get_or}
use borrow.Author.Tests.{leb-true, le-leb, ltb-true, lt-ltb, eqb-true, eqb-false, eq-eqb, ne_eqb, not-true}
use Rattle.bitset.specs.Set.{◌∖◌, inside}
use Rattle.job.specs.Refusal.{done, demand}
use Rattle.job.specs.Handed.{between, all_curves, places_known, curves_known, tests_known, method_known, wants_known, numbers_known, job_known}
use Rattle.job.specs.Handed.{is_method, booked_below, booked_known, job_known_by, counts_known}
use Rattle.job.specs.declared.Rig.{Rig}
use Rattle.job.specs.Words.{Job, IsJob, IsMethod}
use Rattle.job.proofs.Laws.{both, and, demand_true, demand_done, both_done, done_both, each_true, true_each}

-- ---- curves below the number of curves

pub below_inside : (c w : ℕ) → w < 2 ^ c → inside w (all_curves c) ≡ true
unfolding inside
below_inside c w h = eq-eqb (w ∖ all_curves c) 0 (omega (arith, and_mask w c, mod-eq_of_lt h))

pub inside_below : (c w : ℕ) → inside w (all_curves c) ≡ true → w < 2 ^ c
unfolding inside
inside_below c w e = omega (arith, and_mask w c, eqb-true (w ∖ all_curves c) 0 e, mod-lt w (pow_pos c))

-- ---- the methods

pub true_method : (method : ℕ) → is_method method ≡ true → IsMethod method
unfolding is_method
true_method method e =
    let b = both (not (eqb method 2)) (leb method 3) e in
    (leb-true method 3 b.1, eqb-false method 2 (not-true (eqb method 2) b.0))

pub method_true : (method : ℕ) → IsMethod method → is_method method ≡ true
unfolding is_method
method_true method is = rw (ne_eqb method 2 is.1) (le-leb method 3 is.0)

-- ---- what passes the examination

pub places_done : (places : ℕ) → 1 ≤ places → places ≤ 64 → places_known places ≡ done tt
unfolding places_known between
places_done places some few = demand_done _ 10 0 (and _ _ (le-leb 1 places some) (le-leb places 64 few))

pub places_known_lem : (places : ℕ) → places_known places ≡ done tt → (1 ≤ places) × (places ≤ 64)
unfolding places_known between
places_known_lem places e = let p = both (leb 1 places) (leb places 64) (demand_true _ 10 0 e) in (leb-true 1 places p.0, leb-true places 64 p.1)

pub booked_done : (rig : Rig) → rig.booked < rig.places → rig.places ≤ 64 → booked_known rig ≡ done tt
unfolding booked_known booked_below
booked_done rig below few =
    done_both _ _ (demand_done _ 10 260 (le-leb rig.booked 63 (omega arith)))
    ∙ demand_done _ 13 0 (lt-ltb rig.booked rig.places below)

module _ (j : Job) where
  abbrev n : ℕ
  n = length j.wants

  module _ (is : IsJob j) where
    curves_done : curves_known j.rig.curves ≡ done tt
    unfolding curves_known between
    curves_done = demand_done _ 10 1 (and _ _ (le-leb 1 _ is.curves_bounds.0) (le-leb _ 64 is.curves_bounds.1))

    tests_done : tests_known n ≡ done tt
    unfolding tests_known
    tests_done = demand_done _ 10 2 (le-leb n 256 is.tests_bound)

    wants_done : wants_known j.rig.curves j.wants ≡ done tt
    unfolding wants_known
    wants_done =
        true_each (λ w. inside w (all_curves j.rig.curves)) 10 4 j.wants (λ t l. below_inside j.rig.curves (get_or j.wants t 0) (is.own_curves t l))

    numbers_done : numbers_known j.rig n ≡ done tt
    unfolding numbers_known
    numbers_done = done_both _ _ (places_done _ is.places_bounds.0 is.places_bounds.1) ∙ done_both _ _ curves_done ∙ tests_done

    -- its counts are in range for plan bytes too
    pub job_counts : counts_known j.rig.curves n ≡ done tt
    unfolding counts_known
    job_counts = done_both _ _ curves_done ∙ tests_done

  booked_lt : booked_known j.rig ≡ done tt → j.rig.booked < j.rig.places
  unfolding booked_known booked_below
  booked_lt e = ltb-true j.rig.booked j.rig.places (demand_true _ 13 0 (both_done (demand (leb j.rig.booked 63) 10 260) _ tt e).1)

  is_job : numbers_known j.rig n ≡ done tt → wants_known j.rig.curves j.wants ≡ done tt → booked_known j.rig ≡ done tt → IsJob j
  unfolding numbers_known curves_known tests_known wants_known between
  is_job e w k =
      let a = both_done (places_known j.rig.places) _ tt e in
      let b = both_done (curves_known j.rig.curves) _ tt a.1 in
      let q = both (leb 1 j.rig.curves) (leb j.rig.curves 64) (demand_true _ 10 1 b.0) in
      record {
        places_bounds = places_known_lem j.rig.places a.0;
        booked_bound = booked_lt k;
        curves_bounds = (leb-true 1 _ q.0, leb-true _ 64 q.1);
        tests_bound = leb-true n 256 (demand_true _ 10 2 b.1);
        own_curves = λ t l. inside_below j.rig.curves (get_or j.wants t 0) (each_true (λ v. inside v (all_curves j.rig.curves)) 10 4 j.wants w t l);
      }

  module _ (method : ℕ) where
    pub job_by_exact : job_known_by method j ≡ done tt ↔ (IsJob j × IsMethod method)
    unfolding job_known_by method_known
    job_by_exact = (
      λ e.
          let a = both_done (numbers_known j.rig n) _ tt e in
          let m = both_done (method_known method) _ tt a.1 in
          let w = both_done (wants_known j.rig.curves j.wants) _ tt m.1 in
          (is_job a.0 w.0 w.1, true_method method (demand_true _ 10 3 m.0)),
      λ x. done_both _ _ (numbers_done x.0) ∙ done_both _ _ (demand_done _ 10 3 (method_true method x.1)) ∙ done_both _ _ (wants_done x.0)
          ∙ booked_done j.rig x.0.booked_bound x.0.places_bounds.1,
    )

  pub job_exact : job_known j ≡ done tt ↔ IsJob j
  job_exact = (λ e. ((job_by_exact 0).0 e).0, λ is. (job_by_exact 0).1 (is, (omega arith, λ e. omega arith)))
