-- `report::write_refusal` meets its contract: the text is short enough to be counted.
use Rattle.std.proofs.Common.{rules}
use native.Mathlib.Omega.{arith}
use lib.ListN.{length-append}
use Rattle.job.specs.Refusal.{refused}
use Rattle.report.specs.Report.{printed}
use Rattle.report.proofs.Lines.{refusal_digits}
use Rattle.report.proofs.write_refusal.Goals as goal

pub returns : goal.returns
returns c =
    let k = c.number_of in
    let i = c.figure_of in
    rw (← k.ensures, ← i.ensures)
    (c.write_text.ensures _ (λ before after called. search rules)
    (omega (
      arith,
      length-append c.args.of.now (printed (refused k.result i.result)),
      refusal_digits 19 19 k.result i.result (omega arith) (omega arith),
    )))
