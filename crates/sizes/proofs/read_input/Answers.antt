-- No byte behind the buffer changes a table (`table_prefix`).
use native.Mathlib.Omega.{arith}
use lib.ListN.{length}
use Rattle.report.specs.SizeTable.{size_table}
use Rattle.report.proofs.Inputs.{enough, table_prefix}
use Rattle.sizes.proofs.read_input.Goals as goal

pub returns-clause-enough : goal.returns-clause-enough
returns-clause-enough g c =
    let r = c.read_full in
    let b = r.new.buf in
    λ wanted. enough (λ whole. size_table whole wanted) r.result b (λ whole. table_prefix (length b) whole wanted (omega (arith, r.auto.buf, c.told-job)))
