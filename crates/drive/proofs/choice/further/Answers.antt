-- The cases of the rule.
use mathlib.Core.Bool.{false}
use mathlib.Core.Path.{◌≡◌, refl}
use Rattle.drive.specs.declared.choice.NextUse.{NextUse}
use Rattle.drive.specs.declared.choice.NextUse.TheVariants.{At, Never}
use Rattle.drive.specs.Uses.{further}
use Rattle.drive.proofs.choice.further.Goals as goal

than_never : (u : NextUse) → false ≡ further u Never
unfolding further
than_never Never = refl
than_never (At m) = refl

pub returns-in_default-Never : goal.returns-in_default-Never
returns-in_default-Never c = rw c.in_default-Never.is-1 (than_never c.args.a.next)

pub returns-in-Never-At : goal.returns-in-Never-At
unfolding further
returns-in-Never-At c = let p = c.in-Never-At in rw (p.is-0, p.is-1)

pub returns-in-At-At : goal.returns-in-At-At
unfolding further
returns-in-At-At c = let p = c.in-At-At in rw (p.is-0, p.is-1)
