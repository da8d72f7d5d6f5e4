use native.Mathlib.Omega.{arith}
use borrow.Author.Tests.{le-leb, lt-leb}
use Rattle.every_size.proofs.Loads.{sum_from, sum_le}
use Rattle.every_size.proofs.Sizes.{entered_start, entered_count, entered_mark}
use Rattle.every_size.proofs.entries.Goals.{then-most-p, else-most-p}
use Rattle.every_size.proofs.entries.Goals as goal

pub loop-p-init : goal.loop-p-init
loop-p-init c = entered_start _ _ c.told-loads

pub overflow_add-total : goal.overflow_add-total
overflow_add-total c =
    let q = c.loop-p in
    let xs = c.args.loads.now in
    omega (arith, q.invariant.summed, sum_from xs q.p (omega (arith, q.auto.p, c.told-loads)), sum_le xs q.p, c.requires)

pub loop-p-preserved : goal.loop-p-preserved
loop-p-preserved c =
    let q = c.loop-p in
    let few = q.auto.p in
    elim c.if-most-p.branch [
      | then-most-p w ↦ rw w.counts-is (entered_count q.invariant c.loop-p-test.true few c.told-loads (le-leb c.args.most q.p w.if-most-p.true))
      | else-most-p w ↦ rw w.counts-is (entered_mark q.invariant c.loop-p-test.true few c.told-loads (lt-leb c.args.most q.p w.if-most-p.false))
    ]
