use mathlib.Core.Path.{sym, ap, ◌∙◌}
use native.Mathlib.Omega.{arith}
use lib.ListN.{get_or, set}
use Rattle.packages.specs.Tests.{common}
use Rattle.packages.proofs.Written.{overwritten_none, mapped_more}
use Rattle.packages.proofs.write_common.Goals as goal

pub loop-j-init : goal.loop-j-init
loop-j-init c = sym (overwritten_none c.args.counts.now)

pub loop-j-preserved : goal.loop-j-preserved
loop-j-preserved c =
    let q = c.loop-j in
    let a = c.args in
    let f = common a.set in
    ap (λ l. set l q.j (f (get_or a.others.now q.j 0))) q.invariant ∙ mapped_more f a.others.now a.counts.now q.j (omega arith) (omega (arith, c.requires))
