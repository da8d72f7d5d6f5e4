-- `Table::best_partner` meets its contract. Invariant: the second is the best of those before j, 0 for none, and most is one more than what it has in common
-- with the first.
use mathlib.Core.Path.{◌≡◌}
use Prim.Native.Nat.{◌≤◌, ◌<◌}
use Rattle.packages.specs.ContractWords.{within}
use Rattle.packages.proofs.Rows as rows
use Rattle.packages.proofs.Table.best_partner.Given as goal

abbrev pub invariant-loop-j : goal.invariant-loop-j
invariant-loop-j l = record {
  row : rows.row_to (within l.self.bound) l.self.curves.now l.first l.j ≡ rows.chosen l.first l.best.partner;
  count : l.best.score ≡ rows.score l.self.curves.now l.first l.best.partner;
  few : l.best.score ≤ 65;
  low : l.best.partner < l.j;
}
