-- What a call is handed is examined before anything is made: "Handed lists and counts: .. 10 in its own order, then for ordering 7, 9; planning 8, 7, 9;
-- writing a job 9; checking 8, 12", with 02's 13 "after 10", and 14 "after 13". As far as nothing is lent: 9, and 12, which is of the plan, come behind.
use Rattle.std.specs.Prelude.{List, ℕ, length}
use Rattle.job.specs.Refusal.{Outcome, ◌>>◌}
use Rattle.job.specs.Words.{Job, capacity}
use Rattle.job.specs.Handed.{tests_known, wants_known, held_known, wants_fit, job_known_by, job_known, counts_known}
use Rattle.job.specs.Order.{order_known}

-- "for ordering 7" behind 10, which the method belongs to, and 13
unfoldable pub ordering_known : ℕ → Job → Outcome (Unit {0})
ordering_known method j = do
  job_known_by method j
  wants_fit (capacity j.rig) j.wants

-- "checking 8" behind 10, 13 and 14
unfoldable pub checking_known : Job → ℕ → List ℕ → Outcome (Unit {0})
checking_known j held order = do
  job_known j
  held_known j.rig.curves held
  order_known (length j.wants) order

-- "planning 8, 7" behind 10, 13 and 14
unfoldable pub planning_known : Job → ℕ → List ℕ → Outcome (Unit {0})
planning_known j held order = do
  checking_known j held order
  wants_fit (capacity j.rig) j.wants

-- of an order alone, for as many tests as it has entries: of 10 the number of tests, then 8
unfoldable pub order_alone_known : List ℕ → Outcome (Unit {0})
order_alone_known order = do
  tests_known (length order)
  order_known (length order) order

-- 02, wish 9, all sizes and the fewest places: "apart from 7, the walk refuses as planning does". It is handed curves, wants and an order, and no places,
-- booked places or holding: of 10 the curves, the number of tests and the wants, then 8
unfoldable pub sizing_known : ℕ → List ℕ → List ℕ → Outcome (Unit {0})
sizing_known curves wants order = do
  counts_known curves (length wants)
  wants_known curves wants
  order_known (length wants) order
