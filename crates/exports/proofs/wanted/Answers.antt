-- `exports::wanted` meets its contract.
use mathlib.Core.Path.{sym}
use Rattle.report.specs.SizeTable.{wanted_found}
use Rattle.exports.proofs.Sizes.{asks_none, asks_some}
use Rattle.exports.proofs.wanted.Goals as goal

pub returns-then-asked-eq0 : goal.returns-then-asked-eq0
unfolding wanted_found
returns-then-asked-eq0 c = let a = c.args in sym (asks_none a.asked a.loads c.if-asked-eq0.true)

pub returns-else-asked-eq0 : goal.returns-else-asked-eq0
unfolding wanted_found
returns-else-asked-eq0 c = let a = c.args in sym (asks_some a.asked a.loads c.if-asked-eq0.false)
