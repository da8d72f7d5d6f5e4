use mathlib.Core.Path.{◌≡◌, refl, sym, ◌∙◌}
use Prim.Native.Nat.{◌<◌}
use native.Mathlib.Omega.{arith}
use native.Mathlib.Numerals.{add-one}
use borrow.Author.Rules.{set_long}
use borrow.Author.Tests.{lt-leb, le-leb}
use lib.Dec.{leb}
use lib.ListN.{length, get_or, take}
use lib.Seq.{take-suc}
use Rattle.job.specs.Refusal.{outcome, demand}
use Rattle.job.specs.Order.{order_known}
use Rattle.job.proofs.Marks.{unmarked, marked}
use Rattle.job.proofs.OrderTurns.{order_surplus, order_range, order_again, order_pass, order_end}
use Rattle.job.proofs.examine_order.Goals.{After-loop-i}
use Rattle.job.proofs.examine_order.Goals as goal

pub loop-i-init : goal.loop-i-init
loop-i-init c = record { long = refl; marks = unmarked 256; goes = refl }

pub returns-then-tests-i : goal.returns-then-tests-i
unfolding outcome
returns-then-tests-i c =
    let a = c.args in
    sym (c.loop-i.invariant.goes ∙ order_surplus a.tests a.order.now c.loop-i.i c.loop-i-test.true c.if-tests-i.true)

pub overflow_cast-t : goal.overflow_cast-t
overflow_cast-t c = omega (arith, c.type_inv.order c.loop-i.i)

pub returns-then-tests-t : goal.returns-then-tests-t
unfolding outcome
returns-then-tests-t c =
    let a = c.args in
    sym (c.loop-i.invariant.goes ∙ order_range a.tests a.order.now c.loop-i.i (omega arith) (omega arith) c.if-tests-t.true)

pub returns-then-seen-t : goal.returns-then-seen-t
unfolding outcome
returns-then-seen-t c =
    let a = c.args in
    sym (c.loop-i.invariant.goes
    ∙ order_again a.tests a.order.now c.loop-i.i (omega arith) (omega arith) (omega arith) (sym (c.loop-i.invariant.marks _) ∙ c.if-seen-t.true))

pub loop-i-preserved : goal.loop-i-preserved
loop-i-preserved c =
    let a = c.args in
    let o = a.order.now in
    let q = c.loop-i in
    let h : q.i < length o = c.loop-i-test.true in
    record {
      long = set_long _ q.seen _ _ _ q.invariant.long;
      marks = rw (add-one, take-suc o q.i 0 h) (marked q.seen (take q.i o) (get_or o q.i 0) (omega (arith, q.invariant.long)) q.invariant.marks);
      goes = q.invariant.goes ∙ order_pass a.tests o q.i h (omega arith) (omega arith) (sym (q.invariant.marks _) ∙ c.if-seen-t.false);
    }

-- behind the last position
end : (c : After-loop-i) →
    let a = c.args in
    order_known a.tests a.order.now ≡ demand (leb a.tests (length a.order.now)) 8 (length a.order.now)
end c =
    let a = c.args in
    let l = c.loop-i in
    let e : l.i ≡ length a.order.now = omega arith in
    rw e at (l.invariant.goes ∙ order_end a.tests a.order.now l.i (omega arith) (omega arith))

pub returns-then-order-tests : goal.returns-then-order-tests
unfolding outcome demand
returns-then-order-tests c = sym (end (goal.at.returns-then-order-tests c).After-loop-i ∙ rw (lt-leb c.args.tests _ c.if-order-tests.true) refl)

pub returns : goal.returns
unfolding outcome demand
returns c = sym (end (goal.at.returns c).After-loop-i ∙ rw (le-leb c.args.tests _ c.if-order-tests.false) refl)
