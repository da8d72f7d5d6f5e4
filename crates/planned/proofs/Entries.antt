-- The first entries of the lists that the stages filled: the order and the plan of what was read.
use mathlib.Core.Path.{◌≡◌, refl, sym, ap, ◌∙◌, subst}
use mathlib.Core.List.{List}
use Prim.Native.Nat.{ℕ, ◌≤◌}
use native.Mathlib.Omega.{arith}
use lib.ListN.{length, take, get_or, length-map}
use Rattle.std.specs.Prelude.{Ok, Err}
use Rattle.std.proofs.Common.{Fits, w8}
use Rattle.job.specs.declared.Refusal.{Refusal}
use Rattle.job.specs.Refusal.{Outcome, done, refused, number, figure, ◌>>=◌, ◌>>◌, mapped, leaves, outcome}
use Rattle.job.specs.Words.{capacity}
use Rattle.job.proofs.Laws.{done_same, bind_done, mapped_done, mapped_refused, leaves_done, done_room}
use Rattle.job_bytes.specs.JobBytes.{Request, job_in, read_bytes}
use Rattle.job_bytes.proofs.SetRoundTrip.{Bytes}
use Rattle.job_bytes.proofs.ReadExact.{ReadJob, read_exact}
use Rattle.drive.specs.declared.Sets.{Sets}
use Rattle.drive.specs.Steps.{drops_of, loads_of, curve_count}
use Rattle.lists.proofs.Overwritten.{front}
use Rattle.planning.specs.Plan.{handed, first}
use Rattle.planning.specs.Planning.{planning}
use Rattle.planning.proofs.Demand3.{plan_length}
use Rattle.planned.specs.declared.JobPlan.{JobPlan}
use Rattle.planned.specs.Planned.{Planned, order_request, plan_in_order, order_and_plan, plan_job}
use Rattle.planned.specs.ContractWords.{told}
use Rattle.planned.specs.ContractWords.{Lists, leaves_lists, shortest, plan_job_answer, kept_unless, plan_job_lists}
use Rattle.planned.proofs.Reading.{bytes_of}
use Rattle.planned.proofs.Stages.{order_long}

pub record First (p : Planned) (l : Lists) : Type 0 where
  pub read : ReadJob p.request
  pub order : take p.request.head.tests l.order ≡ p.order
  pub drops : take p.request.head.tests l.sets.drops ≡ p.plan.drops
  pub loads : take p.request.head.tests l.sets.loads ≡ p.plan.loads
  -- an entry for each test
  pub order_long : length p.order ≡ p.request.head.tests
  pub drops_long : length p.plan.drops ≡ p.request.head.tests
  pub loads_long : length p.plan.loads ≡ p.request.head.tests

-- what `plan_job` gave: in the first entries of the lists, with the end set
pub record Given (bs : List ℕ) (made : JobPlan) (new : Lists) : Type 0 where
  pub planned : Planned
  pub is : plan_job bs ≡ done planned
  pub head : planned.request.head ≡ made.head
  pub count : made.loads ≡ curve_count (take made.head.tests new.sets.loads)
  pub few : made.head.tests ≤ 256
  pub room : capacity made.head.rig ≤ 64
  pub method : made.head.method ≤ 3
  pub order : take made.head.tests new.order ≡ planned.order
  pub plan : first made.head.tests new.sets made.end ≡ planned.plan
  pub order_long : length (take made.head.tests new.order) ≡ made.head.tests
  pub drops_long : length (take made.head.tests new.sets.drops) ≡ made.head.tests
  pub loads_long : length (take made.head.tests new.sets.loads) ≡ made.head.tests

module _ (bs : List ℕ) (all : Bytes bs) where
  module _ (old : Lists) (q : Request) (os : List ℕ) (sets : List Sets) (read : read_bytes bs ≡ done q) (ordered : order_request q ≡ done os)
      (planned : planning (job_in q) 0 os q.head.tests ≡ done sets) where
    abbrev n : ℕ
    n = q.head.tests

    abbrev here : Planned
    here = record { request = q; order = os; plan = handed 0 sets }

    is : plan_job bs ≡ done here
    unfolding plan_job order_and_plan plan_in_order ◌>>=◌
    is = rw (read, ordered, planned) refl

    os_left : ◌>>=◌ (read_bytes bs) order_request ≡ done os
    unfolding ◌>>=◌
    os_left = rw (read, ordered) refl

    first_of : First here (leaves_lists bs old)
    unfolding leaves_lists leaves
    first_of =
        let r : ReadJob q = read_exact bs q all read in
        let lo = order_long q r.tests os ordered in
        let lp = plan_length (job_in q) 0 os n sets planned ∙ r.tests in
        let ld = length-map sets (λ s. s.drops) ∙ lp in
        let ll = length-map sets (λ s. s.loads) ∙ lp in
        record {
          read = r;
          order = ap (λ (o : Outcome (List ℕ)). take n (leaves o old.order)) os_left ∙ front os old.order n lo;
          drops = ap (take n) (leaves_done (λ p. p.plan.drops) (plan_job bs) here old.sets.drops is) ∙ front (drops_of sets) old.sets.drops n ld;
          loads = ap (take n) (leaves_done (λ p. p.plan.loads) (plan_job bs) here old.sets.loads is) ∙ front (loads_of sets) old.sets.loads n ll;
          order_long = lo;
          drops_long = ld;
          loads_long = ll;
        }

  -- what was planned is in the first entries
  pub entries_first : (old : Lists) (p : Planned) → plan_job bs ≡ done p → First p (leaves_lists bs old)
  unfolding plan_job order_and_plan plan_in_order
  entries_first old p e =
      let a = bind_done (read_bytes bs) _ p e in
      let b = bind_done (order_request a.0) _ p a.2 in
      let c = bind_done (planning (job_in a.0) 0 b.0 a.0.head.tests) _ p b.2 in
      subst (λ (p : Planned). First p (leaves_lists bs old)) (done_same c.2) (first_of old a.0 b.0 c.0 a.1 b.1 c.1)

-- of what `plan_job` answered, and left in lists that are long enough
module _ (bs : List ℕ) (old : Lists) (all : (k : ℕ) → Fits w8 (get_or bs k 0)) (long : 256 ≤ shortest old) where
  whole : {o : Outcome JobPlan} → o ≡ plan_job_answer bs old → o ≡ mapped told (plan_job bs)
  unfolding plan_job_answer ◌>>◌
  whole answer = answer ∙ rw (done_room (shortest old) 256 long) refl

  pub refused_job : (r : Refusal) → outcome (Err r) ≡ plan_job_answer bs old → plan_job bs ≡ refused (number r) (figure r)
  unfolding outcome
  refused_job r answer = mapped_refused told (plan_job bs) _ _ (sym (whole answer))

  given : (p : Planned) (made : JobPlan) (new : Lists) → plan_job bs ≡ done p → told p ≡ made → First p new → Given bs made new
  given p made new e t f =
      rw (← t) (record {
        planned = p;
        is = e;
        head = refl;
        count = ap curve_count (sym f.loads);
        few = omega (arith, f.read.tests, f.read.is_job.tests_bound);
        room = omega (arith, f.read.is_job.places_bounds.1);
        method = f.read.method.0;
        order = f.order;
        plan = rw (f.drops, f.loads) refl;
        order_long = ap length f.order ∙ f.order_long;
        drops_long = ap length f.drops ∙ f.drops_long;
        loads_long = ap length f.loads ∙ f.loads_long;
      })

  pub planned_job : {made : JobPlan} {new : Lists} → outcome (Ok made) ≡ plan_job_answer bs old → new ≡ plan_job_lists bs old → Given bs made new
  unfolding plan_job_lists kept_unless outcome
  planned_job {made = made} {new = new} answer l =
      let d = mapped_done told (plan_job bs) made (sym (whole answer)) in
      let k : new ≡ leaves_lists bs old = l ∙ rw (done_room (shortest old) 256 long) refl in
      given d.0 made new d.1 d.2 (rw k (entries_first bs (bytes_of bs all) old d.0 d.1))
