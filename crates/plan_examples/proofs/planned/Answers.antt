-- `plan_examples::planned` meets its contract: the numbers are those of the answer.
use mathlib.Core.Path.{◌≡◌, refl, sym, ap, ◌∙◌}
use lib.ListN.{get_or}
use Rattle.job.specs.Refusal.{outcome}
use Rattle.job.proofs.Laws.{refused≢done, done_same}
use Rattle.planning.specs.Plan.{SetLists}
use Rattle.plan_examples.proofs.Laws.{refusal_is}
use Rattle.plan_examples.proofs.planned.Goals as goal

pub returns-in-Ok-clause-done : goal.returns-in-Ok-clause-done
unfolding outcome
returns-in-Ok-clause-done g c = λ a e.
    let s : c.in-Ok.plan ≡ a = done_same (c.in-Ok.ensures.answer ∙ e) in
    let d = c.entry.ensures ∙ ap (λ (p : SetLists). get_or p.drops c.args.step 0) c.in-Ok.ensures.lists in
    rw (s, d) refl

pub returns-in-Ok-clause-refused : goal.returns-in-Ok-clause-refused
unfolding outcome
returns-in-Ok-clause-refused g c = λ number figure e. absurd (refused≢done (sym (c.in-Ok.ensures.answer ∙ e)))

pub returns-in-Err-clause-done : goal.returns-in-Err-clause-done
unfolding outcome
returns-in-Err-clause-done g c = λ a e. absurd (refused≢done (c.in-Err.ensures.answer ∙ e))

pub returns-in-Err-clause-refused : goal.returns-in-Err-clause-refused
returns-in-Err-clause-refused g c = λ number figure e.
    let r = refusal_is _ _ number figure c.in-Err.ensures.answer e in
    rw (c.number_of.ensures ∙ r.0, c.figure_of.ensures ∙ r.1) refl
