use mathlib.Core.Path.{ap}
use Prim.Native.Nat.{ℕ}
use lib.Dec.{eqb}
use Rattle.bitset.specs.Set.{inside}
use Rattle.bitset.proofs.inside.Goals as goal

pub returns : goal.returns
unfolding inside
returns c = ap (λ (x : ℕ). eqb x 0) c.without.ensures
