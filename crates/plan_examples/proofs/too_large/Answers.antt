-- `plan_examples::too_large` is true: the rule computes to it.
use mathlib.Core.Path.{refl}
use Rattle.examples.proofs.Rules.{rules}
use Rattle.plan_examples.proofs.too_large.Goals as goal

pub returns : goal.returns
unfolding rules
returns c = rw (c.eq.ensures, c.planned.ensures.refused 7 0 refl) refl
