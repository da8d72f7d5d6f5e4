use native.Mathlib.Omega.{arith}
use mathlib.Core.Path.{sym}
use Rattle.bitset.proofs.Element.{shl_none}
use Rattle.bitset.proofs.single.Goals as goal

pub returns-else-k-lt64 : goal.returns-else-k-lt64
returns-else-k-lt64 c = sym (shl_none 64 c.args.k (omega arith))
