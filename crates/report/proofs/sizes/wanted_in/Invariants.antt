-- `report::sizes::wanted_in` meets its contract. The invariant: the number of the whole word is that of the digits behind n; and n has as many digits as were
-- read.
use mathlib.Core.Path.{◌≡◌}
use Prim.Native.Nat.{◌^◌, ◌<◌}
use lib.ListN.{drop}
use Rattle.report.specs.SizeTable.{number_in}
use Rattle.report.proofs.sizes.wanted_in.Given as goal

abbrev pub invariant-loop-b : goal.invariant-loop-b
invariant-loop-b l = record { digits : l.n < 10 ^ l.b-index; goes : number_in 0 l.word ≡ number_in l.n (drop l.b-index l.word) }
