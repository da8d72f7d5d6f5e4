-- "The rig's host is written in C: one call takes the job's bytes and fills the plan's bytes." "The C call: reading, ordering, planning, writing."
use Rattle.std.specs.Prelude.{List, ℕ, ◌+◌, ◌*◌, length}
use Rattle.job.specs.Refusal.{Outcome, done, refused, ◌>>=◌, leaves}
use Rattle.job_bytes.specs.JobBytes.{job_in}
use Rattle.plan_bytes.specs.PlanBytes.{write_plan}
use Rattle.planned.specs.Planned.{Planned, plan_job}

-- writing, into a buffer of so many bytes
unfoldable pub written : ℕ → Planned → Outcome (List ℕ)
written lent p = write_plan (job_in p.request) 0 p.order p.plan lent

-- "reading, ordering, planning, writing"
unfoldable pub job_to_plan : List ℕ → ℕ → Outcome (List ℕ)
job_to_plan bs lent = do
  p ← plan_job bs
  written lent p

-- "It answers one number: the count of plan bytes, or on a refusal its number × 65,536 plus its figure."
unfoldable pub number_of : Outcome (List ℕ) → ℕ
number_of (done bytes) = length bytes
number_of (refused number figure) = number * 65536 + figure

-- what the call answers
unfoldable pub call_answer : List ℕ → List ℕ → ℕ
call_answer bs old = number_of (job_to_plan bs (length old))

-- what the lent plan holds afterwards
unfoldable pub call_plan : List ℕ → List ℕ → List ℕ
call_plan bs old = leaves (job_to_plan bs (length old)) old
