-- `report::sizes::put_wanted` meets its contract: no line where no count is asked for.
use Rattle.report.specs.SizeTable.{wanted_found}
use Rattle.report.proofs.TableLines.{no_line}
use Rattle.report.proofs.Writing.{appended_nil}
use Rattle.report.proofs.sizes.put_wanted.Goals as goal

pub returns-in-Some : goal.returns-in-Some
unfolding wanted_found
returns-in-Some c = rw c.in-Some.is c.put_fewest.ensures

pub returns-in-None : goal.returns-in-None
unfolding wanted_found
returns-in-None c = rw (c.in-None.is, no_line c.args.counts.now) (appended_nil c.args.to.now)
