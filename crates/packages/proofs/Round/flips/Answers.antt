-- `Round::flips` meets its contract.
use Rattle.packages.proofs.Runs as runs
use Rattle.packages.proofs.Round.flips.Goals as goal

pub returns : goal.returns
returns c =
    runs.flips_as c.args.self.now.wants.now c.args.self.now.places c.args.a.now c.args.b.now _ _ _ _
    c.head-a_head.ensures c.tail-a_tail.ensures c.head-b_head.ensures c.tail-b_tail.ensures _ _ _ _ _ _ _
    c.of.ensures c.of-2.ensures c.of-3.ensures c.of-4.ensures c.or_more.ensures c.or_more-2.ensures c.or_more-3.ensures
