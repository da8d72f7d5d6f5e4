-- `report::put_refusal` meets its contract.
use Rattle.report.specs.Report.{text}
use Rattle.report.proofs.Lines.{refusal_line}
use Rattle.report.proofs.Writing.{◌then◌}
use Rattle.report.proofs.put_refusal.Goals as goal

pub returns : goal.returns
unfolding text
returns c =
    rw (refusal_line c.args.number c.args.figure)
    (c.text.ensures then (c.text-2.ensures then c.number.ensures then c.number-2.ensures))
