-- `job::in_bounds` meets its contract.
use borrow.Author.Tests.{le-leb, lt-leb}
use Rattle.job.specs.Handed.{between}
use Rattle.job.proofs.in_bounds.Goals as goal

pub returns-then-x-lt1 : goal.returns-then-x-lt1
unfolding between
returns-then-x-lt1 c = rw (lt-leb _ _ c.if-x-lt1.true)

pub returns-else-x-lt1 : goal.returns-else-x-lt1
unfolding between
returns-else-x-lt1 c = rw (le-leb _ _ c.if-x-lt1.false)
