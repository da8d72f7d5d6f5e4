-- The sheet of a job's bytes, of what was planned.
use mathlib.Core.Path.{◌≡◌}
use mathlib.Core.List.{List}
use Prim.Native.Nat.{ℕ}
use Rattle.job.specs.declared.Head.{Head}
use Rattle.job.specs.Refusal.{Outcome, done, refused}
use Rattle.planning.specs.Plan.{plan_of}
use Rattle.planned.specs.Planned.{Planned, plan_job}
use Rattle.report.specs.Report.{plan_text, head_text, printed, sheet, write_sheet, sheet_answer, sheet_buffer}
use Rattle.report.specs.ContractWords.{shown, Filled}

module _ (job old : List ℕ) {answer : Outcome ℕ} {new : List ℕ} where
  pub sheet_refused : (k i : ℕ) → plan_job job ≡ refused k i → Filled (printed (refused k i)) old answer new
      → record { answer : answer ≡ sheet_answer job old; bytes : new ≡ sheet_buffer job old }
  unfolding sheet_answer sheet_buffer write_sheet sheet
  sheet_refused k i e f = rw e (record { answer = f.answers; bytes = f.holds })

  -- the text shows the head, the order and the plan
  pub sheet_planned : (p : Planned) (h : Head) (order drops loads : List ℕ) (end : ℕ) → plan_job job ≡ done p → p.request.head ≡ h → order ≡ p.order
      → plan_of drops loads end ≡ p.plan
      → Filled (plan_text (shown h order drops loads end)) old answer new
      → record { answer : answer ≡ sheet_answer job old; bytes : new ≡ sheet_buffer job old }
  unfolding sheet_answer sheet_buffer write_sheet sheet printed plan_text head_text
  sheet_planned p h order drops loads end e f g k l = rw (e, f, ← g, ← k) (record { answer = l.answers; bytes = l.holds })
