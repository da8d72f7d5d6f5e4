-- `packages::write_common` meets its contract. The loop's invariant: the counts of the first j others are written, and nothing else.
use mathlib.Core.Path.{◌≡◌}
use mathlib.Core.List.{map}
use lib.ListN.{take}
use Rattle.job.specs.Refusal.{overwritten}
use Rattle.packages.specs.Tests.{common}
use Rattle.packages.proofs.write_common.Given as goal

abbrev pub invariant-loop-j : goal.invariant-loop-j
invariant-loop-j l = l.counts ≡ overwritten (map (common l.set) (take l.j l.others)) l.initial.counts
