use native.Mathlib.Omega.{arith}
use Rattle.bitset.proofs.Element.{drop_lowest}
use Rattle.bitset.proofs.without_lowest.Goals as goal

pub returns-else-s-eq0 : goal.returns-else-s-eq0
returns-else-s-eq0 c = drop_lowest 64 c.args.s (omega arith) (omega arith)
