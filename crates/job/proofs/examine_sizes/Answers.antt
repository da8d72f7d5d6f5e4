use mathlib.Core.Path.{sym, ap, ◌∙◌}
use Prim.Native.Nat.{ℕ}
use native.Mathlib.Omega.{arith}
use borrow.Author.Tests.{le-leb, lt-leb}
use lib.ListN.{get_or}
use lib.Dec.{leb}
use Rattle.bitset.specs.Set.{size}
use Rattle.job.specs.Refusal.{refused, outcome}
use Rattle.job.specs.Handed.{wants_fit}
use Rattle.job.proofs.Laws.{each_pass, each_fail, each_end}
use Rattle.job.proofs.examine_sizes.Goals as goal

pub returns-then-most-size : goal.returns-then-most-size
unfolding outcome wants_fit
returns-then-most-size c =
    sym (c.loop-t.invariant
    ∙ each_fail (λ w. leb (size w) c.args.most) 7 0 c.args.wants.now c.loop-t.t c.loop-t-test.true
    (lt-leb (size (get_or c.args.wants.now c.loop-t.t 0)) _ (omega arith)) ∙ ap (λ (x : ℕ). refused 7 x) (omega arith))

pub loop-t-preserved : goal.loop-t-preserved
loop-t-preserved c =
    c.loop-t.invariant
    ∙ each_pass (λ w. leb (size w) c.args.most) 7 0 c.args.wants.now c.loop-t.t c.loop-t-test.true
    (le-leb (size (get_or c.args.wants.now c.loop-t.t 0)) _ (omega arith))

pub returns : goal.returns
unfolding outcome wants_fit
returns c =
    sym (c.loop-t.invariant ∙ each_end (λ w. leb (size w) c.args.most) 7 0 c.args.wants.now c.loop-t.t c.loop-t-test.false)
