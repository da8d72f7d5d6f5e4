-- `Round::head` meets its contract: the run over the tests from the front.
use Rattle.std.proofs.lemmas.Iterator.{YieldsList-from_slice}
use Rattle.packages.proofs.Round.head.Goals as goal

pub returns : goal.returns
returns c = c.longest_run.ensures c.args.tests.now (YieldsList-from_slice c.args.tests.now cc).runs
