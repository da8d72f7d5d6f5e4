use native.Mathlib.Omega.{arith}
use Rattle.report.specs.Report.{text}
use Rattle.report.proofs.Curves.{curves_lowest, curves_none, fewer, set_none, set_some}
use Rattle.report.proofs.Writing.{rest_put, rest_none, ◌then◌}
use Rattle.report.proofs.Text.set.Goals as goal

pub returns-then-s-eq0 : goal.returns-then-s-eq0
unfolding text
returns-then-s-eq0 c = rw (set_none c.args.s c.if-s-eq0.true) c.text.ensures

pub loop-c-init : goal.loop-c-init
loop-c-init c =
    rw (c.into_iter-c-iterator.ensures.into_iter_gives, c.elements-c-items.ensures)
    record { range = omega arith; rest = rw (set_some c.args.s c.if-s-eq0.false) (λ end w. w) }

-- the lowest curve is put next
pub loop-c-preserved : goal.loop-c-preserved
loop-c-preserved c =
    let l = c.loop-c in
    let s = c.in-Some.ensures.steps in
    rw s.2
    record {
      range = rw s.1 (omega (arith, fewer 64 l.c-iterator.left s.0 l.invariant.range));
      rest =
          rest_put (rw (curves_lowest 64 l.c-iterator.left s.0 l.invariant.range, ← s.1) at l.invariant.rest)
          (c.byte.ensures then c.decimal.ensures);
    }

pub returns : goal.returns
returns c = let l = c.loop-c in rest_none (rw (c.in-None.ensures.steps.0, curves_none 64 0) at l.invariant.rest)
