-- `commit` meets its contract: a step that is answered is carried out, and a refusal leaves the state as it was.
use mathlib.Core.Path.{◌≡◌, sym, ap, ◌∙◌}
use mathlib.Core.List.{List}
use Prim.Native.Nat.{ℕ}
use native.Mathlib.Omega.{arith}
use lib.ListN.{length, take}
use Rattle.job.specs.Refusal.{Outcome, outcome, number, figure}
use Rattle.job.proofs.Laws.{handed_on}
use Rattle.stepping.specs.declared.NextStep.{NextStep}
use Rattle.stepping.specs.Stepping.{commit_at, commit}
use Rattle.stepping.proofs.Entries.{first_entries, few_wants}
use Rattle.stepping.proofs.Exact.{carried_within, moved_on, unchanged}
use Rattle.stepping.proofs.commit.Goals.{Start, After-steps_of-end}
use Rattle.stepping.proofs.commit.Goals as goal

-- a state has 256 entries
entries : (c : Start) → length c.args.state.now.wants ≡ 256
entries c = omega arith

-- what is answered
answers : (c : After-steps_of-end) (o : Outcome NextStep)
    → let s = c.args.state.now in
    o ≡ commit_at s.capacity s.held s.committed (take c.steps_of-end.result s.wants) c.args.position → o ≡ commit s c.args.position
answers c o e =
    let s = c.args.state.now in
    e ∙ ap (λ (ws : List ℕ). commit_at s.capacity s.held s.committed ws c.args.position)
    (first_entries s.wants s.tests c.steps_of-end.result (entries (goal.at.After-steps_of-end c).Start) c.steps_of-end.ensures)

pub returns-in_err-step : goal.returns-in_err-step
unfolding outcome
returns-in_err-step c =
    let x = c.in_err-step.field-0.0 in
    let e = answers (goal.at.returns-in_err-step c).After-steps_of-end _ c.in_err-step.ensures in
    record {
      answer = handed_on _ _ c.from_residual.ensures.1 ∙ e;
      state = sym (unchanged c.args.state.now c.args.position (number x) (figure x) (sym e));
    }

pub overflow_add-state : goal.overflow_add-state
unfolding outcome
overflow_add-state c =
    let s = c.args.state.now in
    let n = c.steps_of-end in
    let at = goal.at.overflow_add-state c in
    let e = answers at.After-steps_of-end _ c.in_ok-step.ensures in
    omega (arith, carried_within s c.args.position _ (sym e), few_wants s.wants s.tests n.result (entries at.Start) n.ensures)

pub returns : goal.returns
unfolding outcome
returns c =
    let a = c.args in
    let e = answers (goal.at.returns c).After-steps_of-end _ c.in_ok-step.ensures in
    record { answer = e; state = moved_on a.state.now a.position _ _ (sym e) c.held_behind-state.ensures }
