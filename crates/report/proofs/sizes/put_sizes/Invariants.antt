-- `report::sizes::put_sizes` meets its contract. The invariant: the lines of the sizes from entry i on are still to be put.
use Prim.Native.Nat.{◌+◌}
use lib.ListN.{get_or, drop}
use Rattle.report.specs.SizeTable.{sizes_text}
use Rattle.report.proofs.Writing.{Rest}
use Rattle.report.proofs.sizes.put_sizes.Given as goal

abbrev pub invariant-loop-i : goal.invariant-loop-i
invariant-loop-i l = let least = get_or l.counts 63 0 in Rest l.initial.to (sizes_text least 1 l.counts) l.to (sizes_text least (l.i + 1) (drop l.i l.counts))
