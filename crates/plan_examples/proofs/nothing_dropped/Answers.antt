-- `plan_examples::nothing_dropped` is true: the rule computes to it.
use mathlib.Core.Path.{refl}
use Rattle.examples.proofs.Rules.{rules}
use Rattle.plan_examples.proofs.nothing_dropped.Goals as goal

pub returns : goal.returns
unfolding rules
returns c = rw (c.eq.ensures, c.planned.ensures.done (record { count = 3; end = 5 }) refl) refl
