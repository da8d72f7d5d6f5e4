-- A step of the walk leaves one element less.
use native.Mathlib.Omega.{arith}
use lib.Count.{count_trailing_zeros}
use Rattle.bitset.proofs.Element.{lowest_in, size_remove}
use Rattle.bitset.proofs.RisingIterator.next.Goals as goal

pub returns-clause-goes : goal.returns-clause-goes
returns-clause-goes c =
    let s = c.args.self.now.left in
    let one = size_remove (count_trailing_zeros 64 s) s (lowest_in 64 s (omega (arith, c.if-self-eq0.false)) (omega arith)) in
    record { on = λ f. (_, _, rw c.without_lowest-self.ensures (omega (arith, one))); keeps = _; rests = λ f. _ }
