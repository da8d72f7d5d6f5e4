use native.Mathlib.Omega.{arith}
use Rattle.bitset.proofs.Element.{and_not}
use Rattle.bitset.proofs.without.Goals as goal

pub returns : goal.returns
returns c = and_not 64 c.args.a c.args.b (omega arith) (omega arith)
