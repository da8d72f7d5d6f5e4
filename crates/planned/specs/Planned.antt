-- "The C call: reading, ordering, planning": the stages before writing, which the call and the sheet share.
use Rattle.std.specs.Prelude.{List, ℕ}
use Rattle.job.specs.Refusal.{Outcome, done, ◌>>=◌}
use Rattle.job_bytes.specs.JobBytes.{Request, job_in, read_bytes}
use Rattle.ordering.specs.Ordering.{ordering}
use Rattle.planning.specs.Plan.{Plan, handed}
use Rattle.planning.specs.Planning.{planning}

-- what was read, with an order of its tests and a plan for it
pub record Planned : Type 0 where
  pub request : Request
  pub order : List ℕ
  pub plan : Plan

-- the lists that the stages fill have an entry for each test
unfoldable pub order_request : Request → Outcome (List ℕ)
order_request q = ordering q.head.method (job_in q) q.head.tests

-- the plan for an order of the tests: "The drive is empty before step 0", so nothing is held
unfoldable pub plan_in_order : Request → List ℕ → Outcome Planned
plan_in_order q order = do
  sets ← planning (job_in q) 0 order q.head.tests
  done (record { request = q; order = order; plan = handed 0 sets })

-- the order by the method, then the plan for it
unfoldable pub order_and_plan : Request → Outcome Planned
order_and_plan q = do
  order ← order_request q
  plan_in_order q order

-- reading, ordering, planning
unfoldable pub plan_job : List ℕ → Outcome Planned
plan_job bs = do
  q ← read_bytes bs
  order_and_plan q
