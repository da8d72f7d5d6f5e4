use mathlib.Core.Path.{sym, ap, ◌∙◌}
use native.Mathlib.Omega.{arith}
use lib.ListN.{set}
use Rattle.packages.specs.Tests.{up_to}
use Rattle.packages.proofs.Written.{overwritten_none}
use Rattle.packages.proofs.Listed.{up_to_more}
use Rattle.packages.proofs.as_listed.Goals as goal

pub loop-t-init : goal.loop-t-init
loop-t-init c = sym (unfold up_to in overwritten_none c.args.order.now)

pub loop-t-preserved : goal.loop-t-preserved
loop-t-preserved c = let q = c.loop-t in ap (λ l. set l q.t q.t) q.invariant ∙ up_to_more q.t c.args.order.now (omega arith)
