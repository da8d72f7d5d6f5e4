-- `packages::as_listed` meets its contract. The loop's invariant: the tests below t are written, and nothing else.
use mathlib.Core.Path.{◌≡◌}
use Rattle.job.specs.Refusal.{overwritten}
use Rattle.packages.specs.Tests.{up_to}
use Rattle.packages.proofs.as_listed.Given as goal

abbrev pub invariant-loop-t : goal.invariant-loop-t
invariant-loop-t l = l.order ≡ overwritten (up_to l.t) l.initial.order
