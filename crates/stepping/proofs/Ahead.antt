-- The steps that are still to come, from any state: a look shows the first, and when it is carried out the others are to come.
use mathlib.Core.Path.{◌≡◌, refl, sym}
use mathlib.Core.Bool.{true, false, false≢true}
use mathlib.Core.List.{List, [], ◌∷◌}
use Prim.Native.Nat.{ℕ, zero, suc}
use lib.ListN.{get_or}
use Rattle.bitset.proofs.Laws.{∖-self}
use Rattle.drive.specs.Steps.{moved, held_after}
use Rattle.drive.specs.Plan.{furthest, next, plan_from}
use Rattle.planning.specs.Plan.{handed}
use Rattle.stepping.specs.declared.State.{State}
use Rattle.stepping.specs.declared.NextStep.{NextStep}
use Rattle.stepping.specs.declared.NextStep.TheVariants.{Done}
use Rattle.stepping.specs.Stepping.{look_end, look_at, is_done, held_behind, step_wants}
use Rattle.stepping.specs.InTurn.{end_step, shown_of, shown, held_through}

module _ (capacity : ℕ) where
  -- with h held, from a position of steps that want ws on: the plan of those that are left
  unfoldable pub ahead : ℕ → ℕ → List ℕ → List NextStep
  ahead h zero ws = shown (handed h (plan_from (furthest 64) capacity h ws))
  ahead h (suc k) [] = []
  ahead h (suc k) (w ∷ ws) = ahead h k ws

  pub look_first : (h k : ℕ) (ws : List ℕ) → look_at capacity h k ws ≡ get_or (ahead h k ws) 0 Done
  unfolding ahead look_at look_end plan_from held_after shown_of end_step
  look_first zero zero [] = refl
  look_first (suc h) zero [] = refl
  look_first h (suc k) [] = refl
  look_first h zero (w ∷ ws) = refl
  look_first h (suc k) (w ∷ ws) = look_first h k ws

  pub ahead_step : (h k : ℕ) (ws : List ℕ) → is_done (look_at capacity h k ws) ≡ false
      → ahead h k ws ≡ look_at capacity h k ws ∷ ahead (held_behind h (look_at capacity h k ws)) (suc k) ws
  unfolding ahead look_at look_end is_done held_behind plan_from held_after shown_of end_step
  ahead_step zero zero [] e = absurd (false≢true (sym e))
  ahead_step (suc h) zero [] e = refl
  ahead_step h (suc k) [] e = absurd (false≢true (sym e))
  ahead_step h zero (w ∷ ws) e = refl
  ahead_step h (suc k) (w ∷ ws) e = ahead_step h k ws e

  pub ahead_done : (h k : ℕ) (ws : List ℕ) → is_done (look_at capacity h k ws) ≡ true → ahead h k ws ≡ []
  unfolding ahead look_at look_end is_done plan_from held_after shown_of end_step
  ahead_done zero zero [] e = refl
  ahead_done (suc h) zero [] e = absurd (false≢true e)
  ahead_done h (suc k) [] e = refl
  ahead_done h zero (w ∷ ws) e = absurd (false≢true e)
  ahead_done h (suc k) (w ∷ ws) e = ahead_done h k ws e

  -- when all are carried out, nothing is held
  all_through : (h : ℕ) (ws : List ℕ) → held_through h (shown (handed h (plan_from (furthest 64) capacity h ws))) ≡ 0
  unfolding plan_from held_after shown_of end_step held_through held_behind
  all_through zero [] = refl
  all_through (suc h) [] = ∖-self (suc h)
  all_through h (w ∷ ws) = all_through (moved h (next (furthest 64) capacity h w ws)) ws

  pub ahead_empties : (h : ℕ) (ws : List ℕ) → held_through h (ahead h 0 ws) ≡ 0
  unfolding ahead
  ahead_empties h ws = all_through h ws

-- from a state on
abbrev pub to_come : State → List NextStep
to_come s = ahead s.capacity s.held s.committed (step_wants s)
