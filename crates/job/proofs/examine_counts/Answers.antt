-- `job::examine_counts` meets its contract.
use mathlib.Core.Path.{sym, ◌∙◌}
use Rattle.job.specs.Refusal.{outcome}
use Rattle.job.proofs.Examination.{counts_curves, counts_many, counts_known_lem}
use Rattle.job.proofs.examine_counts.Goals as goal

pub returns-then-not-in_bounds : goal.returns-then-not-in_bounds
unfolding outcome
returns-then-not-in_bounds c = sym (counts_curves _ _ (sym c.in_bounds.ensures ∙ c.if-not-in_bounds.true))

pub returns-then-tests-gt-MOST_TESTS : goal.returns-then-tests-gt-MOST_TESTS
unfolding outcome
returns-then-tests-gt-MOST_TESTS c = sym (counts_many _ _ (sym c.in_bounds.ensures ∙ c.if-not-in_bounds.false) c.if-tests-gt-MOST_TESTS.true)

pub returns : goal.returns
unfolding outcome
returns c = sym (counts_known_lem _ _ (sym c.in_bounds.ensures ∙ c.if-not-in_bounds.false) c.if-tests-gt-MOST_TESTS.false)
