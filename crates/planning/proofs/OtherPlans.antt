-- Plans that are not ours and pass the check, with one that does not: "Loading early is allowed", "early loads and needless drops included".
-- Two places, three curves, tests that want {0}, {1} and {0}, as listed.
use mathlib.Core.Path.{◌≡◌, refl}
use mathlib.Core.List.{List, [], ◌∷◌}
use Prim.Native.Nat.{ℕ}
use lib.Count.{ones}
use Rattle.bitset.specs.Set.{inside}
use Rattle.job.specs.Refusal.{Outcome, done, refused, ◌>>=◌, ◌>>◌, mapped, demand, room}
use Rattle.lists.specs.Choice.{keep, choose, best_of}
use Rattle.job.specs.Words.{Job, job_of}
use Rattle.job.specs.Handed.{between, listed, each, places_known, curves_known, tests_known, is_method, method_known, wants_known, wants_fit, numbers_known}
use Rattle.job.specs.Handed.{booked_below, booked_known, held_known, job_known_by}
use Rattle.job.specs.Order.{order_from}
use Rattle.job.specs.Calls.{checking_known, planning_known}
use Rattle.drive.specs.Steps.{held_after, drops_of, loads_of, moves, curve_count}
use Rattle.drive.specs.Check.{or_breaks, keeps, check_from}
use Rattle.drive.specs.Uses.{later, use_by, next_use, further}
use Rattle.drive.specs.Plan.{chosen_by, furthest, and_then, victims, drops_for, plan_from}
use Rattle.planning.specs.Plan.{plan_of, set_lists, in_order}
use Rattle.planning.specs.Planning.{our_plan, planning, plan_answer, sets_known, checked_outcome, end_known, checking}

abbrev job : Job
job = job_of (record { places = 2; booked = 0; curves = 3 }) (1 ∷ 2 ∷ 1 ∷ [])

abbrev as_listed : List ℕ
as_listed = 0 ∷ 1 ∷ 2 ∷ []

abbrev checked : List ℕ → List ℕ → ℕ → Outcome ℕ
checked drops loads end = checking job 0 as_listed (plan_of drops loads end)

pub record OtherPlans : Type 0 where
  -- our plan: two loads
  our_drops : drops_of (our_plan job 0 as_listed) ≡ 0 ∷ 0 ∷ 0 ∷ []
  our_loads : loads_of (our_plan job 0 as_listed) ≡ 1 ∷ 2 ∷ 0 ∷ []
  our_end : held_after 0 (our_plan job 0 as_listed) ≡ 3
  ours_passes : checked (0 ∷ 0 ∷ 0 ∷ []) (1 ∷ 2 ∷ 0 ∷ []) 3 ≡ done 2
  ours_counts : plan_answer job 0 as_listed (set_lists (0 ∷ 0 ∷ 0 ∷ []) (0 ∷ 0 ∷ 0 ∷ [])) ≡ done (record { count = 2; end = 3 })
  -- curve 1 is loaded early, in step 0
  early : checked (0 ∷ 0 ∷ 0 ∷ []) (3 ∷ 0 ∷ 0 ∷ []) 3 ≡ done 2
  -- curve 2, which no test wants, is loaded in step 0 and dropped in step 1
  unneeded : checked (0 ∷ 4 ∷ 0 ∷ []) (5 ∷ 2 ∷ 0 ∷ []) 3 ≡ done 3
  -- curve 0 is dropped in step 1 without need, and loaded again
  needless_drop : checked (0 ∷ 1 ∷ 0 ∷ []) (1 ∷ 2 ∷ 1 ∷ []) 3 ≡ done 3
  -- curve 0 is dropped and loaded in the same step, which wants it
  reloaded : checked (0 ∷ 0 ∷ 1 ∷ []) (1 ∷ 2 ∷ 1 ∷ []) 3 ≡ done 3
  -- a curve is held that is loaded again; a drop is not held; a curve is foreign; a want is missing; there are more than the places
  held_load : checked (0 ∷ 0 ∷ 0 ∷ []) (1 ∷ 3 ∷ 0 ∷ []) 3 ≡ refused 12 1
  free_drop : checked (0 ∷ 2 ∷ 0 ∷ []) (1 ∷ 2 ∷ 0 ∷ []) 3 ≡ refused 12 1
  foreign : checked (0 ∷ 0 ∷ 0 ∷ []) (9 ∷ 2 ∷ 0 ∷ []) 3 ≡ refused 12 0
  missing : checked (0 ∷ 0 ∷ 0 ∷ []) (1 ∷ 0 ∷ 0 ∷ []) 1 ≡ refused 12 1
  too_many : checked (0 ∷ 0 ∷ 0 ∷ []) (5 ∷ 2 ∷ 0 ∷ []) 7 ≡ refused 12 1
  -- the drops end early; the loads go on
  short : checked (0 ∷ 0 ∷ []) (1 ∷ 2 ∷ 0 ∷ []) 3 ≡ refused 12 2
  surplus : checked (0 ∷ 0 ∷ 0 ∷ []) (1 ∷ 2 ∷ 0 ∷ 0 ∷ []) 3 ≡ refused 12 3
  -- the end set forgets a curve that is held; it is 0, though something is held; it names a curve that is not held, or one that is foreign; and a step's fault
  -- comes before it
  end_forgets : checked (0 ∷ 0 ∷ 0 ∷ []) (1 ∷ 2 ∷ 0 ∷ []) 1 ≡ refused 12 3
  end_missing : checked (0 ∷ 0 ∷ 0 ∷ []) (1 ∷ 2 ∷ 0 ∷ []) 0 ≡ refused 12 3
  end_free : checked (0 ∷ 0 ∷ 0 ∷ []) (1 ∷ 2 ∷ 0 ∷ []) 7 ≡ refused 12 3
  end_foreign : checked (0 ∷ 0 ∷ 0 ∷ []) (1 ∷ 2 ∷ 0 ∷ []) 11 ≡ refused 12 3
  step_before_end : checked (0 ∷ 2 ∷ 0 ∷ []) (1 ∷ 2 ∷ 0 ∷ []) 0 ≡ refused 12 1

pub other_plans : OtherPlans
unfolding ones inside ◌>>=◌ ◌>>◌ mapped demand room keep choose best_of between listed each places_known curves_known tests_known is_method method_known
    wants_known
    wants_fit numbers_known booked_below booked_known held_known job_known_by order_from checking_known planning_known in_order held_after moves curve_count
    or_breaks keeps
    check_from later use_by next_use further chosen_by furthest and_then victims drops_for plan_from our_plan planning plan_answer sets_known checked_outcome
    end_known checking
other_plans =
    record {
      our_drops = refl;
      our_loads = refl;
      our_end = refl;
      ours_passes = refl;
      ours_counts = refl;
      early = refl;
      unneeded = refl;
      needless_drop = refl;
      reloaded = refl;
      held_load = refl;
      free_drop = refl;
      foreign = refl;
      missing = refl;
      too_many = refl;
      short = refl;
      surplus = refl;
      end_forgets = refl;
      end_missing = refl;
      end_free = refl;
      end_foreign = refl;
      step_before_end = refl;
    }
