-- `report::write_text` meets its contract: the first pass measures the text, the second writes it.
use Rattle.report.proofs.Fitted.{fill_short, fill_whole}
use Rattle.report.proofs.write_text.Goals as goal

pub returns-then-out-needed : goal.returns-then-out-needed
returns-then-out-needed g c = λ t p l. fill_short t c.args.out.now (c.put_text-needed.ensures t p l) c.if-out-needed.true

pub returns : goal.returns
returns g c = λ t p l. fill_whole t c.args.out.now (c.put_text-needed.ensures t p l) c.if-out-needed.false (c.put_text.ensures t p l)
