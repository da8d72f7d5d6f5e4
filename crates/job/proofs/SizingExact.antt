-- 02, wish 9, "apart from 7, the walk refuses as planning does": beside planning for a drive with any number of places, "none booked", from an empty drive.
use mathlib.Core.Path.{◌≡◌, refl, sym, ◌∙◌}
use mathlib.Core.Logic.{◌↔◌}
use mathlib.Core.List.{List}
use Prim.Native.Nat.{ℕ, ◌-◌, ◌≤◌}
use native.Mathlib.Omega.{arith}
use lib.Pow.{pow_pos}
use lib.ListN.{length}
use Rattle.job.specs.Refusal.{Outcome, done, refused, ◌>>◌}
use Rattle.job.specs.Words.{Job, job_of, IsJob, IsOrder}
use Rattle.job.specs.Handed.{method_known, wants_known, held_known, wants_fit, numbers_known, job_known_by, job_known, counts_known}
use Rattle.job.specs.Order.{order_known}
use Rattle.job.specs.Calls.{checking_known, planning_known, sizing_known}
use Rattle.job.proofs.Laws.{demand_done, both_done, done_both}
use Rattle.job.proofs.JobExact.{places_done, method_true, booked_done, job_exact}
use Rattle.job.proofs.HeldExact.{held_exact}
use Rattle.job.proofs.OrderExact.{order_exact}

-- a sequence whose second part has a passed end
passed_end : {A : Type 0} (a b : Outcome (Unit {0})) (c : Outcome A) → ◌>>◌ (◌>>◌ a (◌>>◌ b (done (tt {0})))) c ≡ ◌>>◌ a (◌>>◌ b c)
unfolding ◌>>◌
passed_end (done x) (done y) c = refl
passed_end (done x) (refused k i) c = refl
passed_end (refused k i) b c = refl

module _ (p curves : ℕ) (wants order : List ℕ) (some : 1 ≤ p) (few : p ≤ 64) where
  -- the list for a drive with p places
  abbrev job : Job
  job = job_of (record { places = p; booked = 0; curves = curves }) wants

  counts : numbers_known job.rig (length wants) ≡ counts_known curves (length wants)
  unfolding numbers_known counts_known
  counts = done_both _ _ (places_done p some few)

  method : method_known 0 ≡ done tt
  unfolding method_known
  method = demand_done _ 10 3 (method_true 0 (omega arith, λ e. omega arith))

  -- the plan check asks the same
  as_checking : checking_known job 0 order ≡ sizing_known curves wants order
  unfolding checking_known job_known_by sizing_known
  as_checking =
      rw (
        counts,
        done_both (method_known 0) _ method,
        booked_done job.rig some few,
        done_both (held_known curves 0) _
            ((held_exact curves 0).1 (pow_pos curves)),
      )
      (passed_end (counts_known curves (length wants)) (wants_known curves wants) (order_known (length wants) order))

  -- APART FROM 7, THE WALK REFUSES AS PLANNING DOES
  pub sizing_as_planning : planning_known job 0 order ≡ ◌>>◌ (sizing_known curves wants order) (wants_fit p wants)
  unfolding planning_known
  sizing_as_planning = let z : p - 0 ≡ p = omega arith in rw (as_checking, z) refl

  -- NOTHING IS REFUSED exactly where it is a job for such a drive, and an order of its tests
  pub sizing_exact : sizing_known curves wants order ≡ done tt ↔ (IsJob job × IsOrder (length wants) order)
  unfolding checking_known
  sizing_exact = (
    λ e.
        let a = both_done (job_known job) _ tt (as_checking ∙ e) in
        let b = both_done (held_known curves 0) _ tt a.1 in
        ((job_exact job).0 a.0, (order_exact (length wants) order).0 b.1),
    λ x. sym as_checking ∙ done_both _ _ ((job_exact job).1 x.0) ∙ done_both _ _ ((held_exact curves 0).1 (pow_pos curves))
        ∙ (order_exact (length wants) order).1 x.1,
  )
