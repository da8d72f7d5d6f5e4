-- "my sheet has 41 loads; can the same list be run with 40?": a plan from anywhere, beside the fewest loads that its order allows.
use Rattle.std.specs.Prelude.{Result, List, ◌++◌, ℕ, ◌-◌, length}
use Rattle.job.specs.declared.Refusal.{Refusal}
use Rattle.job.specs.Refusal.{Outcome, done, refused, ◌>>=◌, mapped, fitting, leaves, outcome}
use Rattle.job_bytes.specs.JobBytes.{Request, job_in, read_bytes}
use Rattle.drive.specs.Steps.{load_count}
use Rattle.planning.specs.Plan.{Plan}
use Rattle.planning.specs.Planning.{checking, planning}
use Rattle.plan_bytes.specs.PlanBytes.{tests_of, plan_in, plan_steps}
use Rattle.report.specs.declared.audit.LoadCounts.{LoadCounts}
use Rattle.report.specs.Report.{text, decimal, printed}

-- `LoadCounts`, the load count of the plan and that of our plan for the same job and order, is declared in the code.

-- the steps of a plan for a job, from an empty drive: 8, 12, then planning the same order (which refuses nothing then: `Fewest`)
unfoldable pub audit_steps : Request → List ℕ → Plan → Outcome LoadCounts
audit_steps q order p = do
  count ← checking (job_in q) 0 order p
  sets ← planning (job_in q) 0 order q.head.tests
  done (record { loads = count; fewest = load_count sets })

-- a plan's bytes for a job: 11 before that
unfoldable pub audit_plan : Request → List ℕ → Outcome LoadCounts
audit_plan q plan = do
  c ← plan_steps q.head.rig.curves q.head.tests plan
  audit_steps q (tests_of c) (plan_in c)

-- a job's bytes and a plan's bytes: what comes of reading the job, 1 to 6, and within it what comes of the plan, so that a refusal tells which of the two it
-- is of
unfoldable pub audit : List ℕ → List ℕ → Outcome (Outcome LoadCounts)
audit job plan = mapped (λ q. audit_plan q plan) (read_bytes job)

-- what the function answers
unfoldable pub audited_outcome : Result (Result LoadCounts Refusal) Refusal → Outcome (Outcome LoadCounts)
audited_outcome r = mapped outcome (outcome r)

-- the text: "loads 41", "fewest 40", "shorter by 1"; a refusal of the plan "plan refused 11 at 5", and one of the job as on the sheet, "refused 1 at 0"
unfoldable pub audit_text : Outcome (Outcome LoadCounts) → List ℕ
audit_text (done (done a)) =
    text "loads " ++ decimal a.loads ++ text "\nfewest " ++ decimal a.fewest ++ text "\nshorter by " ++ decimal (a.loads - a.fewest) ++ text "\n"
audit_text (done (refused k i)) = text "plan " ++ printed (refused k i)
audit_text (refused k i) = printed (refused k i)

-- the same text in a lent buffer: 9 where it is too short
unfoldable pub write_audit : List ℕ → List ℕ → ℕ → Outcome (List ℕ)
write_audit job plan lent = fitting (audit_text (audit job plan)) lent

-- what writing answers: the count of bytes
unfoldable pub audit_answer : List ℕ → List ℕ → List ℕ → Outcome ℕ
audit_answer job plan old = mapped length (write_audit job plan (length old))

-- what the lent buffer holds afterwards
unfoldable pub audit_buffer : List ℕ → List ℕ → List ℕ → List ℕ
audit_buffer job plan old = leaves (write_audit job plan (length old)) old
