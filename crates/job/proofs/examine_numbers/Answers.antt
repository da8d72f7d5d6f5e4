-- `job::examine_numbers` meets its contract.
use mathlib.Core.Path.{sym, ◌∙◌}
use Rattle.job.specs.Refusal.{outcome}
use Rattle.job.proofs.Examination.{bad_places, numbers_counts}
use Rattle.job.proofs.examine_numbers.Goals as goal

pub returns-then-not-in_bounds : goal.returns-then-not-in_bounds
unfolding outcome
returns-then-not-in_bounds c = sym (bad_places _ _ (sym c.in_bounds.ensures ∙ c.if-not-in_bounds.true))

pub returns : goal.returns
returns c = c.examine_counts.ensures ∙ sym (numbers_counts _ _ (sym c.in_bounds.ensures ∙ c.if-not-in_bounds.false))
