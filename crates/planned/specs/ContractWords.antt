-- What the stages answer together, and what the lists hold afterwards that are lent to them: each stage fills its own, and nothing changes where it is not
-- reached. Words that only contracts of functions cite which a caller of the library does not see.
use Rattle.std.specs.Prelude.{List, ℕ, min, length}
use Rattle.job.specs.Refusal.{Outcome, done, refused, ◌>>=◌, ◌>>◌, mapped, room, leaves}
use Rattle.job_bytes.specs.JobBytes.{read_bytes}
use Rattle.drive.specs.Steps.{curve_count}
use Rattle.planning.specs.declared.CountEnd.{CountEnd}
use Rattle.planning.specs.Plan.{SetLists, entries, leaves_plan}
use Rattle.planned.specs.declared.JobPlan.{JobPlan}
use Rattle.planned.specs.Planned.{Planned, order_request, plan_job}

-- the load count and the end set of a plan
abbrev pub counted : Planned → CountEnd
counted p = record { count = curve_count p.plan.loads; end = p.plan.end }

-- what the function answers of a planned job
abbrev pub told : Planned → JobPlan
told p = record { head = p.request.head; loads = curve_count p.plan.loads; end = p.plan.end }

-- what the stages leave in a list of wants, an order and the drops and loads of a plan
pub record Lists : Type 0 where
  pub wants : List ℕ
  pub order : List ℕ
  pub sets : SetLists

-- the lists of one call together
abbrev pub lists_of : List ℕ → List ℕ → SetLists → Lists
lists_of wants order sets = record { wants = wants; order = order; sets = sets }

-- the lists after a call: each stage that succeeds fills its own
unfoldable pub leaves_lists : List ℕ → Lists → Lists
leaves_lists bs old =
    lists_of (leaves (mapped (λ q. q.wants) (read_bytes bs)) old.wants) (leaves (◌>>=◌ (read_bytes bs) order_request) old.order)
    (leaves_plan (λ p. p.plan) (plan_job bs) old.sets)

-- the lists take the 256 entries that a job can need, else 9 whatever the job, and nothing changes
abbrev pub shortest : Lists → ℕ
shortest l = min (min (length l.wants) (length l.order)) (entries l.sets)

-- the answer of the call: 9 where a list has no room for 256 tests, then what reading, ordering and planning come to
unfoldable pub plan_job_answer : List ℕ → Lists → Outcome JobPlan
plan_job_answer bs old = do
  room (shortest old) 256
  mapped told (plan_job bs)

-- the new lists, or under a refusal the old
unfoldable pub kept_unless : Outcome (Unit {0}) → Lists → Lists → Lists
kept_unless (done tt) old new = new
kept_unless (refused k i) old new = old

-- the lists after the call
unfoldable pub plan_job_lists : List ℕ → Lists → Lists
plan_job_lists bs old = kept_unless (room (shortest old) 256) old (leaves_lists bs old)
