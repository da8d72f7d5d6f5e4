-- `packages::count_behind` meets its contract.
use lib.ListN.{get_or}
use Rattle.packages.specs.Tests.{common}
use Rattle.packages.proofs.Counts.{mapped_behind}
use Rattle.packages.proofs.count_behind.Goals as goal

pub returns : goal.returns
returns c =
    let a = c.args in
    λ j l h.
    mapped_behind (common (get_or a.curves.now a.k 0)) a.curves.now a.counts.now c.write_common.new.counts a.k j l h
    c.requires.1 c.write_common.ensures
