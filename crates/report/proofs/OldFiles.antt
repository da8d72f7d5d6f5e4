-- 02, wish 8: "the sheet shows 1": of an old job file with method 2 the sheet, the audit of a plan and the table of drive sizes are those with 1 in its place.
use mathlib.Core.Path.{◌≡◌, refl}
use mathlib.Core.List.{List}
use Prim.Native.Nat.{ℕ}
use Rattle.lists.specs.Choice.{Found}
use Rattle.job_bytes.specs.OldFiles.{upgraded}
use Rattle.job_bytes.proofs.OldFiles.{old_read}
use Rattle.planned.proofs.Composed.{old_planned}
use Rattle.report.specs.Report.{sheet}
use Rattle.report.specs.Audit.{audit}
use Rattle.report.specs.SizeTable.{size_job, size_table}

-- THE SHEET
pub old_sheet : (bs : List ℕ) → sheet bs ≡ sheet (upgraded bs)
unfolding sheet
old_sheet bs = rw (← (old_planned bs)) refl

-- THE AUDIT
pub old_audit : (job plan : List ℕ) → audit job plan ≡ audit (upgraded job) plan
unfolding audit
old_audit job plan = rw (← (old_read job)) refl

-- THE TABLE
pub old_table : (bs : List ℕ) (wanted : Found ℕ) → size_table bs wanted ≡ size_table (upgraded bs) wanted
unfolding size_table size_job
old_table bs wanted = rw (← (old_read bs)) refl
