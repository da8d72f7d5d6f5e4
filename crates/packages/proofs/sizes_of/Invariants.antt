-- `packages::sizes_of` meets its contract. Invariant: the sizes of the first k are written.
use mathlib.Core.Path.{◌≡◌}
use mathlib.Core.List.{map}
use lib.ListN.{length, take}
use Rattle.bitset.specs.Set.{size}
use Rattle.packages.proofs.sizes_of.Given as goal

abbrev pub invariant-loop-k : goal.invariant-loop-k
invariant-loop-k l = (length l.sizes ≡ 256) × (take l.k l.sizes ≡ map size (take l.k l.curves))
