-- `plan_bytes::examine_plan` meets its contract: 10, and then the steps.
use mathlib.Core.Path.{sym, ap, refl, ◌∙◌}
use Rattle.job.specs.Refusal.{outcome, mapped}
use Rattle.job.proofs.Laws.{handed_on}
use Rattle.job.proofs.Examination.{counts_bounds}
use Rattle.plan_bytes.proofs.Steps.{counts_refused, counts_passed}
use Rattle.plan_bytes.proofs.examine_plan.Goals as goal

pub returns-in_err-examine_counts : goal.returns-in_err-examine_counts
unfolding outcome mapped
returns-in_err-examine_counts c =
    rw (handed_on _ _ c.from_residual.ensures.1, counts_refused _ _ c.args.plan.now _ _ (sym c.in_err-examine_counts.ensures)) refl

pub examine_steps-requires : goal.examine_steps-requires
unfolding outcome
examine_steps-requires c = (counts_bounds _ _ (sym c.in_ok-examine_counts.ensures)).0

pub returns : goal.returns
unfolding outcome
returns c = c.examine_steps.ensures ∙ ap (mapped (λ c. c.end)) (sym (counts_passed _ _ _ (sym c.in_ok-examine_counts.ensures)))
