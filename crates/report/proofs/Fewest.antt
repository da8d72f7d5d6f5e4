-- What an audit says: the plan passes the check with the loads answered, a plan for the same job and order has the fewest that are answered, and none has
-- fewer. Planning refuses nothing there, since every test of a plan that passes fits the places.
use mathlib.Core.Path.{◌≡◌, refl, sym, ap, ◌∙◌}
use mathlib.Core.Bool.{Bool, true, false}
use mathlib.Core.List.{List, [], ◌∷◌}
use Prim.Native.Nat.{ℕ, ◌+◌, ◌≤◌, ◌<◌}
use native.Mathlib.Omega.{arith}
use lib.ListN.{length, get_or}
use lib.Dec.{leb, eqb}
use borrow.Author.Tests.{le-leb, eqb-true}
use Rattle.bitset.specs.Set.{size}
use Rattle.bitset.proofs.Laws.{⊆-by_bits, size_mono}
use Rattle.job.specs.Refusal.{Outcome, done, refused, ◌>>=◌}
use Rattle.job.specs.Words.{Job, capacity, digit, count}
use Rattle.job.specs.Handed.{wants_fit}
use Rattle.job.specs.Calls.{planning_known}
use Rattle.job_bytes.specs.JobBytes.{Request, job_in, read_bytes}
use Rattle.job.proofs.Laws.{bind_done, mapped_done, true_each, done_same, refused≢done}
use Rattle.job_bytes.proofs.ReadExact.{read_exact}
use Rattle.job_bytes.proofs.SetRoundTrip.{Bytes}
use Rattle.drive.specs.Steps.{Move, moved, wants_of, load_count}
use Rattle.drive.proofs.CheckExact.{AllKept}
use Rattle.drive.proofs.Moves.{wants_of_lem}
use Rattle.planning.specs.Plan.{Plan, handed, in_order}
use Rattle.planning.specs.Planning.{our_plan, planning, checking}
use Rattle.planning.proofs.CheckExact.{passed, check_count}
use Rattle.planning.proofs.Sequence.{exact_known, planning_known_lem, plan_done}
use Rattle.planning.proofs.Demand3.{our_check, our_least}
use Rattle.plan_bytes.specs.PlanBytes.{Contents, tests_of, plan_in, plan_steps}
use Rattle.report.specs.declared.audit.LoadCounts.{LoadCounts}
use Rattle.report.specs.Audit.{audit_steps, audit_plan, audit}

abbrev Small : ℕ → List ℕ → Type 0
Small p [] = Unit {0}
Small p (w ∷ ws) = (size w ≤ p) × Small p ws

-- a drive that holds the wants and at most its places has a place for each
steps_small : {p all h : ℕ} {ms : List Move} → AllKept p all h ms → Small p (wants_of ms)
steps_small AllKept.none = tt
steps_small (AllKept.step {h = h} {m = m} ok r) =
    (omega (arith, size_mono m.want (moved h m.sets) (⊆-by_bits m.want (moved h m.sets) ok.wants), ok.room), steps_small r)

listed_small : (p : ℕ) (wants order : List ℕ) → Small p (in_order wants order) → (t : ℕ) → 0 < count t order → size (get_or wants t 0) ≤ p
unfolding in_order count digit
listed_small p wants [] s t h = absurd (omega arith)
listed_small p wants (o ∷ os) s t h = go (eqb o t) refl h (listed_small p wants os s.1 t)
  where
    go : (b : Bool) → eqb o t ≡ b → 0 < digit b + count t os → (0 < count t os → size (get_or wants t 0) ≤ p) → size (get_or wants t 0) ≤ p
    go true e g r = rw (eqb-true o t e) at s.0
    go false e g r = r (omega arith)

module _ (j : Job) (held : ℕ) (order : List ℕ) (p : Plan) (m : ℕ) (e : checking j held order p ≡ done m) where
  -- EVERY TEST OF A PLAN THAT PASSES FITS
  pub passed_fits : wants_fit (capacity j.rig) j.wants ≡ done tt
  unfolding wants_fit
  passed_fits =
      let ok = passed j held order p m e in
      true_each (λ w. leb (size w) (capacity j.rig)) 7 0 j.wants
      (λ t l. le-leb (size (get_or j.wants t 0)) (capacity j.rig)
      (listed_small (capacity j.rig) j.wants order (rw (wants_of_lem (in_order j.wants order) p.drops p.loads) at (steps_small ok.steps)) t
      (omega (arith, ok.is_order.once t l))))

  passed_known : planning_known j held order ≡ done tt
  passed_known =
      let ok = passed j held order p m e in
      planning_known_lem j held order (exact_known j held order ok.is_job ok.is_holding ok.is_order) ∙ passed_fits

  -- so planning the same order is done
  pub passed_planned : (n : ℕ) → length j.wants ≤ n → planning j held order n ≡ done (our_plan j held order)
  passed_planned n l = plan_done j held order n passed_known l

  -- THE FEWEST: our plan for the order passes, and no plan that passes has fewer loads
  pub ours_passes : checking j held order (handed held (our_plan j held order)) ≡ done (load_count (our_plan j held order))
  ours_passes = our_check j held order passed_known

pub ours_least : (j : Job) (held : ℕ) (order : List ℕ) (p : Plan) (m : ℕ) → checking j held order p ≡ done m → load_count (our_plan j held order) ≤ m
ours_least j held order p m e = omega (arith, our_least j held order p m e, check_count j held order p m e)

-- ---- what an audit says that is done

pub record Says (job plan : List ℕ) (a : LoadCounts) : Type 0 where
  pub request : Request
  pub contents : Contents
  pub job_read : read_bytes job ≡ done request
  pub plan_read_lem : plan_steps request.head.rig.curves request.head.tests plan ≡ done contents
  -- the plan passes, with the loads answered
  pub passes : checking (job_in request) 0 (tests_of contents) (plan_in contents) ≡ done a.loads
  -- a plan for the same job and order passes with the fewest loads answered
  pub reached : (other : Plan) × (checking (job_in request) 0 (tests_of contents) other ≡ done a.fewest)
  -- and none that passes has fewer
  pub least : (other : Plan) (m : ℕ) → checking (job_in request) 0 (tests_of contents) other ≡ done m → a.fewest ≤ m

-- a job that was read, and steps of which the check passes
said : (q : Request) (order : List ℕ) (p : Plan) (a : LoadCounts) → length q.wants ≤ q.head.tests → audit_steps q order p ≡ done a
    → (checking (job_in q) 0 order p ≡ done a.loads) × (a.fewest ≡ load_count (our_plan (job_in q) 0 order))
unfolding audit_steps ◌>>=◌
said q order p a l e = go (checking (job_in q) 0 order p) refl e
  where
    go : (o : Outcome ℕ) → checking (job_in q) 0 order p ≡ o
        → ◌>>=◌ o (λ count. ◌>>=◌ (planning (job_in q) 0 order q.head.tests) (λ sets. done (record { loads = count; fewest = load_count sets }))) ≡ done a
        → (checking (job_in q) 0 order p ≡ done a.loads) × (a.fewest ≡ load_count (our_plan (job_in q) 0 order))
    go (done m) h f =
        let g : done (record { loads = m; fewest = load_count (our_plan (job_in q) 0 order) }) ≡ done a =
        rw (passed_planned (job_in q) 0 order p m h q.head.tests l) at f in
        let same = done_same g in
        (h ∙ ap (λ (x : LoadCounts). done x.loads) same, sym (ap (λ (x : LoadCounts). x.fewest) same))
    go (refused k i) h f = absurd (refused≢done f)

-- AN AUDIT THAT IS DONE answers the plan's loads and the fewest
pub audit_says : (job plan : List ℕ) (a : LoadCounts) → Bytes job → audit job plan ≡ done (done a) → Says job plan a
unfolding audit audit_plan
audit_says job plan a all e =
    let r = mapped_done (λ q. audit_plan q plan) (read_bytes job) (done a) e in
    let q = r.0 in
    let s = bind_done (plan_steps q.head.rig.curves q.head.tests plan) (λ ss. audit_steps q (tests_of ss) (plan_in ss)) a r.2 in
    let t = said q (tests_of s.0) (plan_in s.0) a (omega (arith, (read_exact job q all r.1).tests)) s.2 in
    record {
      request = q;
      contents = s.0;
      job_read = r.1;
      plan_read_lem = s.1;
      passes = t.0;
      reached = (
        handed 0 (our_plan (job_in q) 0 (tests_of s.0)),
        ours_passes (job_in q) 0 (tests_of s.0) (plan_in s.0) a.loads t.0 ∙ ap done (sym t.1),
      );
      least = λ other m h. omega (arith, ours_least (job_in q) 0 (tests_of s.0) other m h, t.1);
    }

pub audit_fewer : (job plan : List ℕ) (a : LoadCounts) → Bytes job → audit job plan ≡ done (done a) → a.fewest ≤ a.loads
audit_fewer job plan a all e = let s = audit_says job plan a all e in s.least (plan_in s.contents) a.loads s.passes
