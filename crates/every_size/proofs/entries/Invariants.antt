-- `entries` meets its contract. The invariant: the sum of the loads of all slots above p, and the entries of all sizes above p.
use Rattle.every_size.proofs.Sizes.{Entered}
use Rattle.every_size.proofs.entries.Given as goal

abbrev pub invariant-loop-p : goal.invariant-loop-p
invariant-loop-p l = Entered l.most l.p l.total l.loads l.counts
