-- `job_bytes::fields::row` meets its contract: the code's table is the rule's.
use native.Mathlib.Omega.{arith}
use native.Mathlib.Numerals.{add-one}
use lib.Seq.{drop-cons}
use Rattle.job_bytes.specs.declared.fields.Field.{Field}
use Rattle.job_bytes.specs.JobBytes.{fields}
use Rattle.job_bytes.proofs.Heads.{rows}
use Rattle.job_bytes.proofs.Spans.{width_le}
use Rattle.job_bytes.proofs.fields.row.Goals as goal

pub offset_bounds-j : goal.offset_bounds-j
offset_bounds-j c = omega (arith, rows)

pub bounds-j-j : goal.bounds-j-j
bounds-j-j c = omega (arith, rows)

pub returns : goal.returns
unfolding fields
returns c =
    let j = c.args.j in
    let none : Field = record { width = 0; low = 0; high = 0; absent = 0 } in
    rw (add-one j) (drop-cons fields j none c.requires, omega (arith, width_le fields j none))
