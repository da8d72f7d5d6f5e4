-- `plan_examples::from_halfway` is true: the rule computes to it.
use mathlib.Core.Path.{refl}
use Rattle.examples.proofs.Rules.{rules}
use Rattle.plan_examples.proofs.from_halfway.Goals as goal

pub returns : goal.returns
unfolding rules
returns c = rw (c.eq.ensures, c.planned.ensures.done (record { count = 2; end = 24 }) refl) refl
