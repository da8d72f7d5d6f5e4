-- No byte behind the buffer changes a sheet (`sheet_prefix`).
use native.Mathlib.Omega.{arith}
use lib.ListN.{length}
use Rattle.report.specs.Report.{sheet}
use Rattle.report.proofs.Inputs.{enough, sheet_prefix}
use Rattle.sheet.proofs.read_input.Goals as goal

pub returns-clause-enough : goal.returns-clause-enough
returns-clause-enough g c =
    let r = c.read_full in
    let b = r.new.buf in
    enough sheet r.result b (λ whole. sheet_prefix (length b) whole (omega (arith, r.auto.buf, c.told-job)))
