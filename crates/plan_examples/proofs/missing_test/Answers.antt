-- `plan_examples::missing_test` is true: the rule computes to it.
use mathlib.Core.Path.{refl}
use Rattle.examples.proofs.Rules.{rules}
use Rattle.plan_examples.proofs.missing_test.Goals as goal

pub returns : goal.returns
unfolding rules
returns c = rw (c.eq.ensures, c.planned.ensures.refused 8 2 refl) refl
