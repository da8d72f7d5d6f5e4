-- WISH 7, the statement: "From a made state, committing in turn yields exactly the plan's steps, end step included; then a look says done."
use Rattle.std.specs.Prelude.{◌≡◌, List, [], ◌∷◌, ℕ, zero, suc, ◌≤◌, ◌<◌, length, get_or, take}
use Rattle.job.specs.Refusal.{done, refused}
use Rattle.planning.specs.Plan.{Plan}
use Rattle.stepping.specs.declared.State.{State}
use Rattle.stepping.specs.declared.NextStep.{NextStep}
use Rattle.stepping.specs.declared.NextStep.TheVariants.{Step, End, Done}
use Rattle.stepping.specs.Stepping.{held_behind, look, commit, after_commit}

-- ---- a plan's steps, as looks show them

-- the end step, "0 for none"
unfoldable pub end_step : ℕ → List NextStep
end_step zero = []
end_step (suc e) = End (suc e) ∷ []

-- the steps of two lists and an end set, as far as each list has an entry
unfoldable pub shown_of : List ℕ → List ℕ → ℕ → List NextStep
shown_of [] ls e = end_step e
shown_of (d ∷ ds) [] e = end_step e
shown_of (d ∷ ds) (l ∷ ls) e = Step (record { drops = d; loads = l }) ∷ shown_of ds ls e

-- those of a plan that is handed over
abbrev pub shown : Plan → List NextStep
shown p = shown_of p.drops p.loads p.end

-- ---- commits one after the other

-- the state when the positions 0, 1, .. k - 1 were committed "in turn"
unfoldable pub in_turn : State → ℕ → State
in_turn s zero = s
in_turn s (suc k) = after_commit (in_turn s k) k

-- the state when some positions were tried, right and wrong
unfoldable pub tried : State → List ℕ → State
tried s [] = s
tried s (p ∷ ps) = tried (after_commit s p) ps

-- "What is held follows from those sets alone": behind some steps, of h held before the first
unfoldable pub held_through : ℕ → List NextStep → ℕ
held_through h [] = h
held_through h (l ∷ ls) = held_through (held_behind h l) ls

-- of a state and the steps of a plan
pub record InTurn (s : State) (plan : List NextStep) : Type 0 where
  -- behind k commits in turn a look shows step k of the plan, and behind the last it says done. (A look leaves no other state: "Looks may be repeated.")
  pub looks : (k : ℕ) → look (in_turn s k) ≡ get_or plan k Done
  -- the commit of the next position "answers the same sets as the look"
  pub commits : (k : ℕ) → k < length plan → commit (in_turn s k) k ≡ done (look (in_turn s k))
  -- the state's own numbers are true: so many steps are committed, and what is held follows from their sets; behind the last step nothing is
  pub counts : (k : ℕ) → k ≤ length plan → (in_turn s k).committed ≡ k
  pub holds : (k : ℕ) → (in_turn s k).held ≡ held_through s.held (take k plan)
  pub empties : (in_turn s (length plan)).held ≡ 0
  -- 15 is answered for every other position, and for every position behind the last step; its figure is "the number of steps committed", the end step among
  -- them
  pub others : (k position : ℕ) → k ≤ length plan → (position ≡ k → k ≡ length plan) → commit (in_turn s k) position ≡ refused 15 k
  -- whatever positions are tried, the list stands behind some commits in turn
  pub states : (positions : List ℕ) → (k : ℕ) × (k ≤ length plan) × (tried s positions ≡ in_turn s k)
