-- FROM A MADE STATE the commits in turn are the steps of the plan; and a state is refused as planning is.
use mathlib.Core.Path.{◌≡◌, refl, sym, ap, ◌∙◌, subst}
use mathlib.Core.Logic.{◌↔◌}
use mathlib.Core.List.{List}
use Prim.Native.Nat.{ℕ, ◌≤◌}
use native.Mathlib.Omega.{arith}
use lib.ListN.{length, replicate, length-replicate}
use lib.Seq.{sets}
use Rattle.lists.specs.Lent.{overwritten}
use Rattle.lists.proofs.Overwritten.{front, sets_whole}
use Rattle.std.specs.Prelude.{Result, Ok, Err}
use Rattle.std.specs.Result.{result_unwrap_or}
use Rattle.job.specs.declared.Refusal.{Refusal}
use Rattle.job.specs.Refusal.{Outcome, done, refused, outcome}
use Rattle.job.specs.Words.{Job, capacity}
use Rattle.job.specs.Calls.{planning_known}
use Rattle.job.proofs.Laws.{done_same, both_done, done_both, refused≢done}
use Rattle.job.proofs.Examination.{refused_both}
use Rattle.drive.specs.declared.Sets.{Sets}
use Rattle.drive.specs.Plan.{furthest, plan_from}
use Rattle.planning.specs.declared.CountEnd.{CountEnd}
use Rattle.planning.specs.Plan.{Plan, handed, SetLists, first, in_order}
use Rattle.planning.specs.Planning.{our_plan, planning, plan_answer, plan_lists}
use Rattle.planning.proofs.Sequence.{known_exact, planning_parts, steps_length, plan_refused, plan_done}
use Rattle.planning.proofs.Planned.{ours}
use Rattle.planning.proofs.Demand3.{demand3}
use Rattle.stepping.specs.declared.State.{State}
use Rattle.stepping.specs.Stepping.{step_wants, making, nothing, state_made}
use Rattle.stepping.specs.InTurn.{shown, InTurn}
use Rattle.stepping.proofs.Ahead.{ahead, to_come}
use Rattle.stepping.proofs.InTurn.{in_turn_lem}

-- what is taken of an answer: in the place of a state that is refused, one that is done
pub state_taken : (r : Result State Refusal) (o : Outcome State) → outcome r ≡ o → result_unwrap_or r nothing ≡ state_made o
unfolding outcome state_made
state_taken (Ok s) o e = rw (← e) refl
state_taken (Err x) o e = rw (← e) refl

module _ (j : Job) (held : ℕ) (order : List ℕ) where
  -- the state that is made of them
  abbrev pub first_state : State
  first_state =
      record {
        capacity = capacity j.rig;
        held = held;
        committed = 0;
        tests = length j.wants;
        wants = overwritten (in_order j.wants order) (replicate 256 0);
      }

  pub made_done : planning_known j held order ≡ done tt → making j held order ≡ done first_state
  unfolding making
  made_done e = done_both _ _ e

  pub made_refused : (k i : ℕ) → planning_known j held order ≡ refused k i → making j held order ≡ refused k i
  unfolding making
  made_refused k i e = refused_both _ _ k i e

  -- ---- the state that is answered
  pub is_made : planning_known j held order ≡ done tt → (most : ℕ) (wants : List ℕ) → most ≡ capacity j.rig
      → wants ≡ sets (replicate 256 0) 0 (in_order j.wants order)
      → done (record { capacity = most; held = held; committed = 0; tests = length j.wants; wants = wants }) ≡ making j held order
  is_made e most wants m w =
      let known = (planning_parts j held order e).0 in
      let few = (known_exact j held order known).0.tests_bound in
      let long = steps_length j held order known in
      let whole = sets_whole (in_order j.wants order) (replicate 256 0) (omega (arith, length-replicate {A = ℕ} 256 0)) in
      rw (m, w, whole) (sym (made_done e))

  -- "refused as in planning"
  pub refused_as_planning : (lent : ℕ) → length j.wants ≤ lent → (k i : ℕ) → making j held order ≡ refused k i ↔ planning j held order lent ≡ refused k i
  refused_as_planning lent l k i = (there (planning_known j held order) refl, back (planning_known j held order) refl)
    where
      there : (o : Outcome (Unit {0})) → planning_known j held order ≡ o → making j held order ≡ refused k i → planning j held order lent ≡ refused k i
      there (done tt) o e = absurd (refused≢done (sym e ∙ made_done o))
      there (refused n f) o e =
          let same = sym (made_refused n f o) ∙ e in
          let number : n ≡ k = cc in
          let figure : f ≡ i = cc in
          rw (← number, ← figure) (plan_refused j held order lent n f o)

      back : (o : Outcome (Unit {0})) → planning_known j held order ≡ o → planning j held order lent ≡ refused k i → making j held order ≡ refused k i
      back (done tt) o e = absurd (refused≢done (sym e ∙ plan_done j held order lent o l))
      back (refused n f) o e =
          let same = sym (plan_refused j held order lent n f o) ∙ e in
          let number : n ≡ k = cc in
          let figure : f ≡ i = cc in
          rw (← number, ← figure) (made_refused n f o)

  module _ (s : State) (made : making j held order ≡ done s) where
    known : planning_known j held order ≡ done tt
    unfolding making
    known = (both_done (planning_known j held order) _ s made).0

    is_first : first_state ≡ s
    is_first = done_same (sym (made_done known) ∙ made)

    -- its steps want what the tests want, in their order
    first_steps : step_wants first_state ≡ in_order j.wants order
    first_steps = front (in_order j.wants order) (replicate 256 0) (length j.wants) (steps_length j held order (planning_parts j held order known).0)

    -- so our plan is to come
    plan_to_come : to_come first_state ≡ shown (handed held (our_plan j held order))
    unfolding ahead
    plan_to_come =
        ap (λ (ws : List ℕ). shown (handed held (plan_from (furthest 64) (capacity j.rig) held ws))) first_steps
        ∙ ap (λ (ss : List Sets). shown (handed held ss)) (ours j held order known)

    pub made_in_turn : InTurn s (shown (handed held (our_plan j held order)))
    made_in_turn = rw (← is_first, ← plan_to_come) (in_turn_lem first_state refl)

    -- THE COMMITS IN TURN are what planning leaves in the first entries of the drops and loads lent to it, and its end set
    pub as_planned : (lent : SetLists) (a : CountEnd) → plan_answer j held order lent ≡ done a
        → InTurn s (shown (first (length j.wants) (plan_lists j held order lent) a.end))
    as_planned lent a e = subst (λ (p : Plan). InTurn s (shown p)) (sym ((demand3 j held order lent).ours a e)) made_in_turn
