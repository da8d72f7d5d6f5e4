-- Ordering and planning, by what each function answered and left in lists that are long enough.
use mathlib.Core.Path.{◌≡◌, refl, sym, ap, ◌∙◌}
use mathlib.Core.List.{List}
use Prim.Native.Nat.{ℕ, ◌≤◌, ◌<◌}
use native.Mathlib.Omega.{arith}
use lib.Pow.{pow_pos}
use lib.ListN.{length, take}
use borrow.Author.Tests.{lt-leb}
use Rattle.job.specs.declared.Head.{Head}
use Rattle.job.specs.Refusal.{Outcome, done, refused, ◌>>=◌, ◌>>◌, mapped, demand, room, leaves}
use Rattle.job.specs.Words.{Job, capacity}
use Rattle.job.specs.Handed.{job_known_by}
use Rattle.job.specs.Calls.{ordering_known, planning_known}
use Rattle.job.proofs.Laws.{both_done, done_room, mapped_done, mapped_refused, done_mapped, refused_mapped, refused≢done, done_same}
use Rattle.job.proofs.JobExact.{job_by_exact}
use Rattle.job_bytes.specs.JobBytes.{Request, job_in, read_bytes}
use Rattle.lists.proofs.Overwritten.{front}
use Rattle.ordering.specs.Methods.{order_by}
use Rattle.ordering.specs.Ordering.{ordering, order_answer, order_list}
use Rattle.ordering.proofs.Complete.{order_complete}
use Rattle.ordering.proofs.Ordered.{order_entries}
use Rattle.drive.specs.declared.Sets.{Sets}
use Rattle.planning.specs.declared.CountEnd.{CountEnd}
use Rattle.planning.specs.Plan.{handed, SetLists, entries, leaves_plan}
use Rattle.planning.specs.Planning.{planning, plan_answer, plan_lists}
use Rattle.planning.proofs.Sequence.{exact_known, planning_known_lem}
use Rattle.planned.specs.declared.JobPlan.{JobPlan}
use Rattle.planned.specs.Planned.{Planned, order_request, plan_in_order, order_and_plan, plan_job}
use Rattle.planned.specs.ContractWords.{counted, told}
use Rattle.planned.specs.ContractWords.{Lists, lists_of, leaves_lists, shortest, plan_job_answer, kept_unless, plan_job_lists}

-- lists that are long enough make no difference
ordering_room : (m : ℕ) (j : Job) (a b : ℕ) → length j.wants ≤ a → length j.wants ≤ b → ordering m j a ≡ ordering m j b
unfolding ordering
ordering_room m j a b l k = rw (done_room a (length j.wants) l, done_room b (length j.wants) k) refl

pub planning_room : (j : Job) (held : ℕ) (order : List ℕ) (a b : ℕ) → length j.wants ≤ a → length j.wants ≤ b
    → planning j held order a ≡ planning j held order b
unfolding planning
planning_room j held order a b l k = rw (done_room a (length j.wants) l, done_room b (length j.wants) k) refl

-- what a value becomes after another step
mapped_after : {A B C : Type 0} (f : B → C) (g : A → B) (o : Outcome A) → mapped (λ x. f (g x)) o ≡ mapped f (◌>>=◌ o (λ x. done (g x)))
unfolding mapped ◌>>=◌
mapped_after f g (done x) = refl
mapped_after f g (refused k i) = refl

module _ (q : Request) (tests : length q.wants ≡ q.head.tests) where
  abbrev n : ℕ
  n = q.head.tests

  abbrev j : Job
  j = job_in q

  -- ---- ordering

  abbrev order : List ℕ
  order = order_by q.head.method (capacity j.rig) q.wants

  -- what ordering gives is the method's order, behind its examinations
  by_method : (os : List ℕ) → order_request q ≡ done os → (ordering_known q.head.method j ≡ done tt) × (order ≡ os)
  unfolding order_request ordering ◌>>=◌
  by_method os e = let a = both_done (ordering_known q.head.method j) _ os e in (a.0, go (room n (length q.wants)) a.1)
    where
      go : (r : Outcome (Unit {0})) → ◌>>=◌ r (λ ready. done order) ≡ done os → order ≡ os
      go (done tt) e = done_same e
      go (refused k i) e = absurd (refused≢done e)

  -- it has an entry for each test
  pub order_long : (os : List ℕ) → order_request q ≡ done os → length os ≡ n
  order_long os e = ap length (sym (by_method os e).1) ∙ order_entries q.head.method (capacity j.rig) q.wants ∙ tests

  -- and nothing is left that planning could refuse
  pub order_known_lem : (os : List ℕ) → order_request q ≡ done os → planning_known j 0 os ≡ done tt
  unfolding ordering_known
  order_known_lem os e =
      let g = by_method os e in
      let b = both_done (job_known_by q.head.method j) _ tt g.0 in
      let is = (job_by_exact j q.head.method).0 b.0 in
      let k = exact_known j 0 order is.0 (pow_pos j.rig.curves) (order_complete q.head.method (capacity j.rig) q.wants) in
      rw (sym g.1) (planning_known_lem j 0 order k ∙ b.1)

  module _ (O : List ℕ) (long : n ≤ length O) where
    there : ordering q.head.method j (length O) ≡ order_request q
    unfolding order_request
    there = ordering_room q.head.method j (length O) n (omega arith) (omega arith)

    pub order_left : order_list q.head.method j O ≡ leaves (order_request q) O
    unfolding order_list
    order_left = rw there refl

    pub order_refused : (k i : ℕ) → order_answer q.head.method j O ≡ refused k i → order_request q ≡ refused k i
    unfolding order_answer
    order_refused k i e = sym there ∙ mapped_refused length (ordering q.head.method j (length O)) k i e

    -- the order that ordering left in the first entries
    pub order_given : (m : ℕ) (O' : List ℕ) → order_answer q.head.method j O ≡ done m → O' ≡ order_list q.head.method j O
        → (order_request q ≡ done (take n O')) × (length (take n O') ≡ n)
    unfolding order_answer leaves
    order_given m O' e w =
        let d = mapped_done length (ordering q.head.method j (length O)) m e in
        let os = d.0 in
        let r : order_request q ≡ done os = sym there ∙ d.1 in
        let first : take n O' ≡ os = ap (take n) (w ∙ order_left ∙ rw r refl) ∙ front os O n (order_long os r) in
        (rw first r, ap length first ∙ order_long os r)

  -- ---- planning in a given order
  module _ (order : List ℕ) (lent : SetLists) (long : n ≤ entries lent) where
    plan_there : planning j 0 order (entries lent) ≡ planning j 0 order n
    plan_there = planning_room j 0 order (entries lent) n (omega arith) (omega arith)

    pub plan_answer_lem : plan_answer j 0 order lent ≡ mapped counted (plan_in_order q order)
    unfolding plan_answer plan_in_order
    plan_answer_lem = rw plan_there (mapped_after counted (λ sets. record { request = q; order = order; plan = handed 0 sets }) (planning j 0 order n))

    pub plan_left : plan_lists j 0 order lent ≡ leaves_plan (λ p. p.plan) (plan_in_order q order) lent
    unfolding plan_lists plan_in_order
    plan_left =
        rw (
          plan_there,
          mapped_after (λ (p : Planned). p.plan.drops) (λ sets. record { request = q; order = order; plan = handed 0 sets }) (planning j 0 order n),
          mapped_after (λ (p : Planned). p.plan.loads) (λ sets. record { request = q; order = order; plan = handed 0 sets }) (planning j 0 order n),
        ) refl

  -- ---- both
  pub not_ordered : (k i : ℕ) → order_request q ≡ refused k i → order_and_plan q ≡ refused k i
  unfolding order_and_plan ◌>>=◌
  not_ordered k i e = rw e refl

  pub ordered : (os : List ℕ) → order_request q ≡ done os → order_and_plan q ≡ plan_in_order q os
  unfolding order_and_plan ◌>>=◌
  ordered os e = rw e refl

-- ---- reading before that

pub unread : (bs : List ℕ) (k i : ℕ) → read_bytes bs ≡ refused k i → plan_job bs ≡ refused k i
unfolding plan_job ◌>>=◌
unread bs k i e = rw e refl

pub was_read : (bs : List ℕ) (q : Request) → read_bytes bs ≡ done q → plan_job bs ≡ order_and_plan q
unfolding plan_job ◌>>=◌
was_read bs q e = rw e refl

module _ (bs : List ℕ) (old : Lists) (wants : List ℕ) (w : wants ≡ leaves (mapped (λ q. q.wants) (read_bytes bs)) old.wants) where
  -- nothing more is filled for bytes that do not read
  pub unread_lists : (k i : ℕ) → read_bytes bs ≡ refused k i → lists_of wants old.order old.sets ≡ leaves_lists bs old
  unfolding leaves_lists mapped leaves ◌>>=◌
  unread_lists k i e = rw (w, unread bs k i e, e) refl

  pub read_lists : (q : Request) (order : List ℕ) (sets : SetLists) → read_bytes bs ≡ done q → order ≡ leaves (order_request q) old.order
      → sets ≡ leaves_plan (λ p. p.plan) (order_and_plan q) old.sets
      → lists_of wants order sets ≡ leaves_lists bs old
  unfolding leaves_lists ◌>>=◌
  read_lists q order sets e o p = rw (w, o, p, was_read bs q e, e) refl

-- ---- the answer, of the load count and the end set that were answered
module _ (bs : List ℕ) (q : Request) (e : read_bytes bs ≡ done q) where
  -- what is planned is what was asked
  asked : (o : Outcome (List Sets)) (order : List ℕ) (p : Planned)
      → ◌>>=◌ o (λ sets. done (record { request = q; order = order; plan = handed 0 sets })) ≡ done p → p.request ≡ q
  unfolding ◌>>=◌
  asked (done sets) os p e = sym (ap (λ (p : Planned). p.request) (done_same e))
  asked (refused k i) os p e = absurd (refused≢done e)

  same_request : (o : Outcome (List ℕ)) (p : Planned) → ◌>>=◌ o (plan_in_order q) ≡ done p → p.request ≡ q
  unfolding ◌>>=◌ plan_in_order
  same_request (done order) p e = asked (planning (job_in q) 0 order q.head.tests) order p e
  same_request (refused k i) p e = absurd (refused≢done e)

  pub tells_refusal : (k i : ℕ) → mapped counted (order_and_plan q) ≡ refused k i → mapped told (plan_job bs) ≡ refused k i
  tells_refusal k i r = sym (refused_mapped told (plan_job bs) k i (was_read bs q e ∙ mapped_refused counted (order_and_plan q) k i r))

  pub tells_count : (a : CountEnd) → mapped counted (order_and_plan q) ≡ done a
      → done (record { head = q.head; loads = a.count; end = a.end }) ≡ mapped told (plan_job bs)
  unfolding order_and_plan
  tells_count a c =
      let m = mapped_done counted (order_and_plan q) a c in
      let s = same_request (order_request q) m.0 m.1 in
      same (ap (λ (q : Request). q.head) (sym s)) (sym m.2) ∙ done_mapped told (plan_job bs) m.0 (was_read bs q e ∙ m.1)
    where
      same : {h g : Head} {a b : CountEnd} → h ≡ g → a ≡ b
          → ◌≡◌ {A = Outcome JobPlan} (done (record { head = h; loads = a.count; end = a.end })) (done (record { head = g; loads = b.count; end = b.end }))
      same p q i = done (record { head = p i; loads = (q i).count; end = (q i).end })

-- ---- lists of at least 256 entries, and shorter ones
module _ (bs : List ℕ) (old : Lists) where
  pub too_short : shortest old < 256 → (refused 9 256 ≡ plan_job_answer bs old) × (old ≡ plan_job_lists bs old)
  unfolding plan_job_answer plan_job_lists kept_unless room demand ◌>>◌
  too_short h = (rw (lt-leb 256 (shortest old) h) refl, rw (lt-leb 256 (shortest old) h) refl)

  pub long_enough : 256 ≤ shortest old → (answer : Outcome JobPlan) (new : Lists) → answer ≡ mapped told (plan_job bs) → new ≡ leaves_lists bs old
      → (answer ≡ plan_job_answer bs old) × (new ≡ plan_job_lists bs old)
  unfolding plan_job_answer plan_job_lists kept_unless ◌>>◌
  long_enough h answer new a l = (rw (done_room (shortest old) 256 h) a, rw (done_room (shortest old) 256 h) l)
