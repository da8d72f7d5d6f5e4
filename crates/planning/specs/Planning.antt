-- Planning and checking: "planning 8, 7, 9"; "checking 8, 12", after 10, 13 and 14; with the end set of 02, wish 1. `held` is what wish 6 calls "the curves now
-- held": "The new rest is planned from the curves now held, without unloading"; "Plans from an empty drive are the case of nothing held", 0; "The plan check
-- takes the holding as well."
use Rattle.std.specs.Prelude.{Result, Ok, Err, ◌&&◌, List, ℕ, min, length, eqb}
use Rattle.job.specs.Refusal.{Outcome, done, refused, ◌>>=◌, ◌>>◌, mapped, demand, room}
use Rattle.job.specs.Words.{Job, capacity}
use Rattle.job.specs.Handed.{all_curves}
use Rattle.job.specs.Calls.{checking_known, planning_known}
use Rattle.drive.specs.declared.Sets.{Sets}
use Rattle.drive.specs.Steps.{Move, sets_of, held_after, moves, curve_count}
use Rattle.drive.specs.Check.{check_from}
use Rattle.drive.specs.Plan.{furthest, plan_from}
use Rattle.planning.specs.declared.CountEnd.{CountEnd}
use Rattle.planning.specs.Plan.{Plan, handed, SetLists, entries, leaves_plan, count_end, in_order}

-- "Our plan", from what is held; "If more is held than now fits, the first step drops down by the usual rule"
unfoldable pub our_plan : Job → ℕ → List ℕ → List Sets
our_plan j held order = plan_from (furthest j.rig.curves) (capacity j.rig) held (in_order j.wants order)

-- into lists of which the shortest has so many entries (the last examination is bound, `_ ←`, so that no plan is computed under a refusal)
unfoldable pub planning : Job → ℕ → List ℕ → ℕ → Outcome (List Sets)
planning j held order lent = do
  planning_known j held order
  _ ← room lent (length j.wants)
  done (our_plan j held order)

module _ (j : Job) (held : ℕ) (order : List ℕ) (lent : SetLists) where
  -- what planning answers: "the load count .. beside its plan", and wish 1: the end set "beside the load count"
  unfoldable pub plan_answer : Outcome CountEnd
  plan_answer = mapped (count_end held) (planning j held order (entries lent))

  -- what the lent drops and loads hold afterwards
  unfoldable pub plan_lists : SetLists
  plan_lists = leaves_plan (handed held) (planning j held order (entries lent)) lent

-- 12: "before that, first missing or surplus position of the drops or loads, the smaller". A list with an entry for each of the n steps has no such position;
-- one that is shorter lacks the entry at its length, and one that is longer has the entry n too many.
unfoldable pub sets_known : ℕ → ℕ → ℕ → Outcome (Unit {0})
sets_known n drops loads = demand (eqb drops n && eqb loads n) 12 (min (min drops loads) n)

-- 12: "first step breaking a rule"
unfoldable pub checked_outcome : Result ℕ ℕ → Outcome (Unit {0})
checked_outcome (Ok held) = done tt
checked_outcome (Err i) = refused 12 i

-- the moves of a plan, "the order giving the steps' tests"
abbrev pub plan_moves : Job → List ℕ → Plan → List Move
plan_moves j order p = moves (in_order j.wants order) p.drops p.loads

-- and their sets: "What is held follows from those sets alone"
abbrev pub plan_sets : Job → List ℕ → Plan → List Sets
plan_sets j order p = sets_of (plan_moves j order p)

-- 12, wish 1: "The check fails a plan whose end set is not what is held, with the number of tests as its step."
unfoldable pub end_known : Job → ℕ → List ℕ → Plan → Outcome (Unit {0})
end_known j held order p = demand (eqb p.end (held_after held (plan_sets j order p))) 12 (length j.wants)

-- the plan check: it answers the plan's load count
unfoldable pub checking : Job → ℕ → List ℕ → Plan → Outcome ℕ
checking j held order p = do
  checking_known j held order
  sets_known (length j.wants) (length p.drops) (length p.loads)
  checked_outcome (check_from (capacity j.rig) (all_curves j.rig.curves) 0 held (plan_moves j order p))
  end_known j held order p
  done (curve_count p.loads)
