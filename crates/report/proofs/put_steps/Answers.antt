use native.Mathlib.Omega.{arith}
use lib.ListN.{drop_of_length-le}
use Rattle.report.proofs.Lines.{steps_next, steps_end}
use Rattle.report.proofs.Writing.{rest_put, rest_none}
use Rattle.report.proofs.put_steps.Goals as goal

pub loop-i-preserved : goal.loop-i-preserved
loop-i-preserved c =
    let l = c.loop-i in
    let a = c.args in
    rest_put (rw (steps_next l.i a.order.now a.drops.now a.loads.now (omega arith) (omega arith) (omega arith)) at l.invariant) c.put_step.ensures

pub returns : goal.returns
returns c =
    let l = c.loop-i in
    rest_none (rw (drop_of_length-le c.args.order.now {i = l.i} (omega arith), steps_end) at l.invariant)
