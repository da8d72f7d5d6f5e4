-- 02, wish 7, "Look, then commit": "The host wants to show the next step before the drive moves." Looks and commits are the paper's words. `State`, where a
-- list stands that is carried out step by step, and `NextStep`, the next step as a look shows it, are declared in the code. The rules hold for every state: of
-- "States not reached this way", which "are left to the program", they say what this one does.
use Rattle.std.specs.Prelude.{Bool, true, false, not, ◌&&◌, List, [], ◌∷◌, ℕ, zero, suc, eqb, length, take, replicate}
use Rattle.bitset.specs.Set.{◌∖◌}
use Rattle.lists.specs.Lent.{overwritten}
use Rattle.job.specs.Refusal.{Outcome, done, refused, ◌>>◌, mapped, demand}
use Rattle.job.specs.Words.{Job, capacity}
use Rattle.job.specs.Calls.{planning_known}
use Rattle.drive.specs.Steps.{moved}
use Rattle.drive.specs.Plan.{furthest, next}
use Rattle.planning.specs.Plan.{in_order}
use Rattle.stepping.specs.declared.State.{State}
use Rattle.stepping.specs.declared.NextStep.{NextStep}
use Rattle.stepping.specs.declared.NextStep.TheVariants.{Step, End, Done}

-- ---- the next step

-- behind the last test: wish 1's end step, which "drops all that is held"; none where nothing is held
unfoldable pub look_end : ℕ → NextStep
look_end zero = Done
look_end (suc h) = End (suc h)

-- "A look gives the drops and loads of the next step": with h held, at a position of steps that want ws. The end step's position is their number; behind it all
-- is done.
unfoldable pub look_at : (capacity h : ℕ) → ℕ → List ℕ → NextStep
look_at capacity h zero [] = look_end h
look_at capacity h (suc k) [] = Done
look_at capacity h zero (w ∷ ws) = Step (next (furthest 64) capacity h w ws)
look_at capacity h (suc k) (w ∷ ws) = look_at capacity h k ws

-- whether a look says done
unfoldable pub is_done : NextStep → Bool
is_done (Step s) = false
is_done (End d) = false
is_done Done = true

-- what is held when a step is carried out: "the drops leave, the loads enter"
unfoldable pub held_behind : ℕ → NextStep → ℕ
held_behind h (Step s) = moved h s
held_behind h (End d) = h ∖ d
held_behind h Done = h

-- "A commit names a step position, carries it out and answers the same sets as the look": where k steps are committed. "Turned away: 15, a commit whose
-- position is not the next one, or after done, with the number of steps committed; it is the first check"
unfoldable pub commit_at : (capacity h k : ℕ) → List ℕ → ℕ → Outcome NextStep
commit_at capacity h k ws position = do
  demand (eqb position k && not (is_done (look_at capacity h k ws))) 15 k
  done (look_at capacity h k ws)

-- ---- states

-- the wants of a state's steps, "the order giving the steps' tests"
abbrev pub step_wants : State → List ℕ
step_wants s = take s.tests s.wants

-- a look at a state; it "changes nothing"
abbrev pub look : State → NextStep
look s = look_at s.capacity s.held s.committed (step_wants s)

-- what a commit answers
abbrev pub commit : State → ℕ → Outcome NextStep
commit s position = commit_at s.capacity s.held s.committed (step_wants s) position

-- the state when a commit came to an outcome; 15 "leaves the state unchanged"
unfoldable pub state_after : State → Outcome NextStep → State
state_after s (done l) =
    record {
      capacity = s.capacity;
      held = held_behind s.held l;
      committed = suc s.committed;
      tests = s.tests;
      wants = s.wants;
    }
state_after s (refused k i) = s

-- the state that a commit leaves
abbrev pub after_commit : State → ℕ → State
after_commit s position = state_after s (commit s position)

-- ---- a made state

-- "The state is made from a list, an order and a holding, refused as in planning": with no step committed. A state has 256 entries for wants, those behind the
-- last step 0.
unfoldable pub making : Job → ℕ → List ℕ → Outcome State
making j held order = do
  planning_known j held order
  done (record {
    capacity = capacity j.rig;
    held = held;
    committed = 0;
    tests = length j.wants;
    wants = overwritten (in_order j.wants order) (replicate 256 0);
  })

-- the number of its tests, or the refusal
abbrev pub tests_made : Outcome State → Outcome ℕ
tests_made o = mapped (λ s. s.tests) o

-- a state that is done, with nothing in it
abbrev pub nothing : State
nothing = record { capacity = 0; held = 0; committed = 0; tests = 0; wants = replicate 256 0 }

-- the state itself; in the place of one that is not made, one that is done
unfoldable pub state_made : Outcome State → State
state_made (done s) = s
state_made (refused k i) = nothing
