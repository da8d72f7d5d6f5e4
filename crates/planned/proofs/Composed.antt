-- What reading, ordering and planning come to in turn. Once a job is read, only 7 can follow.
use mathlib.Core.Path.{◌≡◌, refl, ap, ◌∙◌}
use mathlib.Core.List.{List, []}
use Prim.Native.Nat.{ℕ}
use native.Mathlib.Omega.{arith}
use lib.Pow.{pow_pos}
use lib.ListN.{length}
use Rattle.job.specs.Refusal.{Outcome, done, refused, ◌>>=◌}
use Rattle.job.specs.Words.{capacity}
use Rattle.job.specs.Handed.{wants_fit}
use Rattle.job.specs.Calls.{ordering_known, planning_known}
use Rattle.job_bytes.specs.JobBytes.{Request, job_in, read_bytes}
use Rattle.job_bytes.specs.OldFiles.{upgraded}
use Rattle.job.proofs.Laws.{done_both}
use Rattle.job.proofs.JobExact.{job_by_exact}
use Rattle.job.proofs.Orders.{no_order}
use Rattle.job_bytes.proofs.SetRoundTrip.{Bytes}
use Rattle.job_bytes.proofs.OldFiles.{old_read}
use Rattle.job_bytes.proofs.ReadExact.{ReadJob, read_exact}
use Rattle.ordering.specs.Methods.{order_by}
use Rattle.ordering.proofs.Complete.{order_complete}
use Rattle.ordering.proofs.Ordered.{not_known, ordered}
use Rattle.drive.specs.declared.Sets.{Sets}
use Rattle.drive.specs.Steps.{load_count}
use Rattle.planning.specs.Plan.{handed}
use Rattle.planning.specs.Planning.{our_plan, planning, checking}
use Rattle.planning.proofs.Sequence.{exact_known, planning_known_lem, plan_done}
use Rattle.planning.proofs.Demand3.{our_check}
use Rattle.planning.proofs.WithoutTests.{no_steps}
use Rattle.planned.specs.Planned.{order_request, plan_in_order, order_and_plan, plan_job}

-- 02, wish 8: an old job file with method 2 is planned as with 1 in its place
pub old_planned : (bs : List ℕ) → plan_job bs ≡ plan_job (upgraded bs)
unfolding plan_job
old_planned bs = rw (← (old_read bs)) refl

-- the order and the plan of a job
abbrev pub order_of : Request → List ℕ
order_of q = order_by q.head.method (capacity q.head.rig) q.wants

abbrev pub sets_of : Request → List Sets
sets_of q = our_plan (job_in q) 0 (order_of q)

-- 02, wish 3: "A job with no tests .. empty order": and so an empty plan
module _ (q : Request) (none : q.wants ≡ []) where
  pub order_empty : order_of q ≡ []
  order_empty = no_order _ (order_of q) (ap length none) (order_complete q.head.method (capacity q.head.rig) q.wants)

  pub plan_empty : sets_of q ≡ []
  plan_empty = ap (our_plan (job_in q) 0) order_empty ∙ no_steps (job_in q) 0

module _ (q : Request) (r : ReadJob q) where
  abbrev fits : Outcome (Unit {0})
  fits = wants_fit (capacity q.head.rig) q.wants

  -- ordering and planning ask for sizes only: each method's order passes the examination of orders, so planning never answers 8 after ordering
  ordering_fits : ordering_known q.head.method (job_in q) ≡ fits
  unfolding ordering_known
  ordering_fits = done_both _ _ ((job_by_exact (job_in q) q.head.method).1 (r.is_job, r.method))

  planning_fits : planning_known (job_in q) 0 (order_of q) ≡ fits
  planning_fits =
      planning_known_lem (job_in q) 0 (order_of q) (exact_known (job_in q) 0 (order_of q) r.is_job (pow_pos q.head.rig.curves)
      (order_complete q.head.method (capacity q.head.rig) q.wants))

  order_done : fits ≡ done tt → order_request q ≡ done (order_of q)
  unfolding order_request
  order_done f = ordered q.head.method (job_in q) q.head.tests (ordering_fits ∙ f) (omega (arith, r.tests))

  too_large : (k i : ℕ) → fits ≡ refused k i → order_request q ≡ refused k i
  unfolding order_request
  too_large k i f = not_known q.head.method (job_in q) q.head.tests k i (ordering_fits ∙ f)

  planned : fits ≡ done tt → planning (job_in q) 0 (order_of q) q.head.tests ≡ done (sets_of q)
  planned f = plan_done (job_in q) 0 (order_of q) q.head.tests (planning_fits ∙ f) (omega (arith, r.tests))

  pub checked : fits ≡ done tt → checking (job_in q) 0 (order_of q) (handed 0 (sets_of q)) ≡ done (load_count (sets_of q))
  checked f = our_check (job_in q) 0 (order_of q) (planning_fits ∙ f)

-- ---- the whole, of bytes that read
module _ (bs : List ℕ) (q : Request) (all : Bytes bs) (read : read_bytes bs ≡ done q) where
  is : ReadJob q
  is = read_exact bs q all read

  pub job_planned : wants_fit (capacity q.head.rig) q.wants ≡ done tt
      → plan_job bs ≡ done (record { request = q; order = order_of q; plan = handed 0 (sets_of q) })
  unfolding plan_job order_and_plan plan_in_order ◌>>=◌
  job_planned f = rw (read, order_done q is f, planned q is f) refl

  pub job_too_large : (k i : ℕ) → wants_fit (capacity q.head.rig) q.wants ≡ refused k i → plan_job bs ≡ refused k i
  unfolding plan_job order_and_plan plan_in_order ◌>>=◌
  job_too_large k i f = rw (read, too_large q is k i f) refl
