-- `Round::tail` meets its contract: the run over the tests from the end.
use mathlib.Core.List.{reverse}
use Rattle.std.proofs.lemmas.Iterator.Adapters.{YieldsList-from_rev_slice}
use Rattle.packages.proofs.Round.tail.Goals as goal

pub returns : goal.returns
returns c = c.longest_run.ensures (reverse c.args.tests.now) (YieldsList-from_rev_slice c.args.tests.now cc).runs
