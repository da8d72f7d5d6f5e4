-- WHEREVER 01 SAYS PLACES it means places less booked: a drive of which some places are booked is treated as one that has only the others.
use mathlib.Core.Path.{◌≡◌, refl}
use mathlib.Core.List.{List}
use Prim.Native.Nat.{ℕ, ◌-◌, ◌≤◌, ◌<◌}
use native.Mathlib.Omega.{arith}
use lib.ListN.{length}
use Rattle.job.specs.Words.{Job, capacity}
use Rattle.job.specs.Handed.{numbers_known, job_known_by}
use Rattle.job.specs.Calls.{ordering_known, checking_known, planning_known}
use Rattle.job.proofs.JobExact.{places_done, booked_done}
use Rattle.ordering.specs.Ordering.{ordering}
use Rattle.planning.specs.Plan.{Plan}
use Rattle.planning.specs.Planning.{our_plan, planning, end_known, checking}
use Rattle.curveplan.specs.Library.{unbooked}

module _ (j : Job) (below : j.rig.booked < j.rig.places) (few : j.rig.places ≤ 64) where
  abbrev p : ℕ
  p = j.rig.places

  abbrev b : ℕ
  b = j.rig.booked

  -- both are examined alike
  numbers : (tests : ℕ) → numbers_known j.rig tests ≡ numbers_known (unbooked j).rig tests
  unfolding numbers_known
  numbers tests = rw (places_done p (omega arith) few, places_done (p - b) (omega arith) (omega arith)) refl

  known : (method : ℕ) → job_known_by method j ≡ job_known_by method (unbooked j)
  unfolding job_known_by
  known method = rw (numbers (length j.wants), booked_done j.rig below few, booked_done (unbooked j).rig (omega arith) (omega arith)) refl

  same : capacity (unbooked j).rig ≡ capacity j.rig
  same = omega arith

  pub booked_ordered : (method lent : ℕ) → ordering method j lent ≡ ordering method (unbooked j) lent
  unfolding ordering ordering_known
  booked_ordered method lent = rw (known method, same) refl

  pub booked_planned : (held : ℕ) (order : List ℕ) (lent : ℕ) → planning j held order lent ≡ planning (unbooked j) held order lent
  unfolding planning our_plan planning_known checking_known
  booked_planned held order lent = rw (known 0, same) refl

  pub booked_checked : (held : ℕ) (order : List ℕ) (plan : Plan) → checking j held order plan ≡ checking (unbooked j) held order plan
  unfolding checking end_known checking_known
  booked_checked held order plan = rw (known 0, same) refl
