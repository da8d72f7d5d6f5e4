-- 02, wish 3: "A job with no tests now reads: .. a sheet of its first and last line."
use mathlib.Core.Path.{◌≡◌, refl, ap}
use mathlib.Core.List.{List, [], ◌++◌, append_assoc, append-nil}
use Prim.Native.Nat.{ℕ}
use native.Mathlib.Omega.{arith}
use lib.ListN.{length}
use Rattle.job.specs.Refusal.{done}
use Rattle.job.specs.Words.{capacity}
use Rattle.job.proofs.Faults.{none_too_large}
use Rattle.job_bytes.specs.JobBytes.{Request, read_bytes}
use Rattle.job_bytes.proofs.ReadExact.{read_exact}
use Rattle.job_bytes.proofs.SetRoundTrip.{Bytes}
use Rattle.drive.specs.Steps.{held_after, curve_count}
use Rattle.planning.specs.Plan.{steps}
use Rattle.planned.proofs.Composed.{order_empty, plan_empty, job_planned}
use Rattle.report.specs.Report.{text, high_digits, decimal, steps_text, end_text, head_text, plan_text, printed, sheet}

-- the load count behind the first line, with no step and no end step between them
last_line : (first : List ℕ) → first ++ text "\n" ++ [] ++ [] ++ text "loads " ++ decimal 0 ++ text "\n" ≡ first ++ text "\nloads 0\n"
unfolding text decimal high_digits
last_line first =
    rw (append-nil (first ++ text "\n"), append-nil (first ++ text "\n"))
    (rw (append_assoc first (text "\n") (text "loads "), append_assoc first (text "\nloads ") (text "0"), append_assoc first (text "\nloads 0") (text "\n"))
    refl)

two_lines : (places method : List ℕ)
    → decimal 0 ++ text " tests, " ++ places ++ text " places, method " ++ method ++ text "\n" ++ [] ++ [] ++ text "loads " ++ decimal 0 ++ text "\n"
    ≡ text "0 tests, " ++ places ++ text " places, method " ++ method ++ text "\nloads 0\n"
unfolding text decimal high_digits
two_lines places method = last_line (text "0 tests, " ++ places ++ text " places, method " ++ method)

-- THE SHEET OF A JOB WITHOUT TESTS is its first and its last line
pub sheet_none : (bs : List ℕ) (q : Request) → Bytes bs → read_bytes bs ≡ done q → q.wants ≡ []
    → sheet bs ≡ text "0 tests, " ++ decimal (capacity q.head.rig) ++ text " places, method " ++ decimal q.head.method ++ text "\nloads 0\n"
unfolding sheet printed plan_text head_text steps steps_text end_text held_after curve_count
sheet_none bs q all read none =
    let n : q.head.tests ≡ 0 = omega (arith, (read_exact bs q all read).tests, ap length none) in
    rw (job_planned bs q all read (none_too_large (capacity q.head.rig) q.wants none), plan_empty q none, order_empty q none, n)
    (two_lines (decimal (capacity q.head.rig)) (decimal q.head.method))
