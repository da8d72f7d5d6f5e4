-- 02, wish 7, for C: a state in 260 numbers at fixed places, which the host lends, and the next step in three.
use Rattle.std.specs.Prelude.{List, ◌∷◌, ℕ, get_or, drop}
use Rattle.job.specs.Refusal.{Outcome, done, refused}
use Rattle.stepping.specs.declared.State.{State}
use Rattle.stepping.specs.declared.NextStep.{NextStep}
use Rattle.stepping.specs.declared.NextStep.TheVariants.{Step, End, Done}
use Rattle.exports.specs.Numbers.{numbered}
use Rattle.exports.specs.declared.StepShown.{StepShown}

-- what a look shows, and a commit answers: 1 for the step of a test, 2 for the end step, 0 for none, or the refusal; the drops and the loads
unfoldable pub step_of : Outcome NextStep → StepShown
step_of (done (Step s)) = record { answer = 1; drops = s.drops; loads = s.loads }
step_of (done (End d)) = record { answer = 2; drops = d; loads = 0 }
step_of (done Done) = record { answer = 0; drops = 0; loads = 0 }
step_of (refused k i) = record { answer = numbered (refused k i); drops = 0; loads = 0 }

-- the numbers of a state: its capacity, what is held, how many steps are committed, how many tests there are, and the wants of the steps ..
abbrev pub numbers_of : State → List ℕ
numbers_of s = s.capacity ∷ s.held ∷ s.committed ∷ s.tests ∷ s.wants

-- .. and the state of such numbers
abbrev pub state_of : List ℕ → State
state_of ns =
    record {
      capacity = get_or ns 0 0;
      held = get_or ns 1 0;
      committed = get_or ns 2 0;
      tests = get_or ns 3 0;
      wants = drop 4 ns;
    }

-- what the lent numbers are when a state was to be made: "Nothing lent changes under a refusal"
unfoldable pub leaves_state : Outcome State → List ℕ → List ℕ
leaves_state (done s) old = numbers_of s
leaves_state (refused k i) old = old
