use native.Mathlib.Omega.{arith}
use lib.ListN.{get_or}
use Rattle.report.proofs.TableLines.{sizes_last, sizes_more, sizes_end}
use Rattle.report.proofs.Writing.{rest_put, rest_none}
use Rattle.report.proofs.sizes.put_sizes.Goals as goal

-- the line of entry i is the last
pub returns-then-entry-least : goal.returns-then-entry-least
returns-then-entry-least c =
    let l = c.loop-i in
    let counts = c.args.counts.now in
    rest_none (rest_put (rw (sizes_last (get_or counts 63 0) counts l.i (omega (arith, c.loop-i-test.true)) c.if-entry-least.true) at l.invariant)
    c.put_size.ensures)

pub loop-i-preserved : goal.loop-i-preserved
loop-i-preserved c =
    let l = c.loop-i in
    let counts = c.args.counts.now in
    rest_put (rw (sizes_more (get_or counts 63 0) counts l.i (omega (arith, c.loop-i-test.true)) c.if-entry-least.false) at l.invariant)
    c.put_size.ensures

pub returns : goal.returns
returns c =
    let l = c.loop-i in
    let counts = c.args.counts.now in
    rest_none (rw (sizes_end (get_or counts 63 0) counts l.i (omega (arith, c.loop-i-test.false))) at l.invariant)
