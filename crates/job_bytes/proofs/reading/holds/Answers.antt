-- `job_bytes::reading::holds` meets its contract.
use Rattle.std.proofs.Common.{arith}
use Rattle.std.proofs.lemmas.Bool.Decides.{nat_tests}
use Rattle.job.specs.Handed.{between}
use Rattle.job_bytes.proofs.reading.holds.Goals as goal

pub returns-then-contains : goal.returns-then-contains
unfolding between
returns-then-contains c = let v = c.contains.ensures in grind (arith, nat_tests)

pub returns-else-contains : goal.returns-else-contains
unfolding between
returns-else-contains c = let v = c.contains.ensures in grind (arith, nat_tests)
