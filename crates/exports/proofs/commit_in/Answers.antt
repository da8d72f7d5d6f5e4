-- `commit_in` meets its contract.
use mathlib.Core.Path.{◌≡◌, refl, sym, ap, ◌∙◌}
use mathlib.Core.List.{List}
use Prim.Native.Nat.{ℕ}
use native.Mathlib.Omega.{arith}
use lib.ListN.{get_or, drop, length-drop}
use Rattle.job.specs.Refusal.{Outcome, outcome, number, figure}
use Rattle.job.proofs.Laws.{handed_on}
use Rattle.stepping.specs.declared.NextStep.{NextStep}
use Rattle.stepping.specs.Stepping.{commit_at, commit}
use Rattle.stepping.proofs.Entries.{few_wants}
use Rattle.stepping.proofs.Exact.{carried_within, moved_on, unchanged}
use Rattle.exports.specs.States.{numbers_of, state_of}
use Rattle.exports.proofs.States.{numbers_back, numbers_moved}
use Rattle.exports.proofs.commit_in.Goals.{After-step_wants}
use Rattle.exports.proofs.commit_in.Goals as goal

-- what is answered
answers : (c : After-step_wants) (o : Outcome NextStep)
    → let a = c.args in
    let ns = a.state.now in
    o ≡ commit_at (get_or ns 0 0) (get_or ns 1 0) (get_or ns 2 0) c.step_wants.result.now a.position → o ≡ commit (state_of ns) a.position
answers c o e =
    let ns = c.args.state.now in
    e ∙ ap (λ (ws : List ℕ). commit_at (get_or ns 0 0) (get_or ns 1 0) (get_or ns 2 0) ws c.args.position) c.step_wants.ensures

pub returns-in_err-step : goal.returns-in_err-step
unfolding outcome
returns-in_err-step c =
    let ns = c.args.state.now in
    let x = c.in_err-step.field-0.0 in
    let e = answers (goal.at.returns-in_err-step c).After-step_wants _ c.in_err-step.ensures in
    record {
      answer = handed_on _ _ c.from_residual.ensures.1 ∙ e;
      state = sym (numbers_back ns (omega arith)) ∙ ap numbers_of (sym (unchanged (state_of ns) c.args.position (number x) (figure x) (sym e)));
    }

pub overflow_add-state : goal.overflow_add-state
unfolding outcome
overflow_add-state c =
    let ns = c.args.state.now in
    let e = answers (goal.at.overflow_add-state c).After-step_wants _ c.in_ok-step.ensures in
    omega (arith, carried_within (state_of ns) c.args.position _ (sym e), few_wants (drop 4 ns) (get_or ns 3 0) _ (omega (arith, length-drop 4 ns)) refl)

pub returns : goal.returns
unfolding outcome
returns c =
    let ns = c.args.state.now in
    let e = answers (goal.at.returns c).After-step_wants _ c.in_ok-step.ensures in
    record {
      answer = e;
      state = numbers_moved ns _ _ (omega arith)
          ∙ ap numbers_of (moved_on (state_of ns) c.args.position _ _ (sym e) c.held_behind.ensures);
    }
