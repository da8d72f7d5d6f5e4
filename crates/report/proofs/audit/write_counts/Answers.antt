-- `report::audit::write_counts` meets its contract: the text is short enough to be counted.
use Rattle.std.proofs.Common.{rules}
use native.Mathlib.Omega.{arith}
use Rattle.report.proofs.AuditLongest.{counts_short}
use Rattle.report.proofs.audit.write_counts.Goals as goal

pub returns : goal.returns
returns c =
    let a = c.args in
    c.write_text.ensures _ (λ before after called. search rules) (omega (arith, counts_short 19 a.loads a.fewest (omega arith) c.requires))
