-- WHAT C IS ANSWERED TELLS THE OUTCOME, of each function of `curveplan.h` that answers a count or a refusal, whatever it is handed: no count and no figure
-- reaches 2^48.
use mathlib.Core.Path.{◌≡◌, refl, ap, ◌∙◌, subst}
use mathlib.Core.Logic.{inl, inr}
use mathlib.Core.Bool.{not, ◌&&◌}
use mathlib.Core.List.{List, [], ◌∷◌, ◌++◌}
use Prim.Native.Nat.{ℕ, zero, suc, ◌/◌, ◌%◌, ◌^◌, ◌≤◌, ◌<◌, min}
use native.Mathlib.Omega.{arith}
use borrow.Author.Tests.{ltb-true}
use lib.Dec.{ltb}
use lib.ListN.{length, length-append}
use Rattle.std.specs.Prelude.{Result, Ok, Err}
use Rattle.lists.specs.Choice.{Found, nobody, found}
use Rattle.job.specs.declared.Head.{Head}
use Rattle.job.specs.Refusal.{Outcome, done, refused, ◌>>◌, mapped, demand, room}
use Rattle.job.specs.Words.{Job, capacity}
use Rattle.job.specs.Handed.{listed, curves_known, tests_known, wants_known, held_known, wants_fit, job_known_by, counts_known, all_curves}
use Rattle.job.specs.Order.{order_from}
use Rattle.job.specs.Calls.{ordering_known, checking_known, planning_known, sizing_known}
use Rattle.job.proofs.Laws.{both, demand_true, both_done, bind_done, mapped_done, done_same, done_both, done_room}
use Rattle.job.proofs.JobExact.{job_by_exact}
use Rattle.job.proofs.Refuses.{Refuses, refuses, refuses_more, refuses_demand, refuses_both, refuses_then, refuses_bind, refuses_mapped, refuses_each}
use Rattle.job.proofs.Refuses.{HandedRefusal, job_by_refuses, HeldRefusal, held_refuses, OfWants, wants_refuse}
use Rattle.job.proofs.Examination.{counts_bounds}
use Rattle.job_bytes.specs.JobBytes.{Request, request, read_bytes, read_job, read_job_answer, job_bytes, write_job, write_job_answer}
use Rattle.job_bytes.proofs.JobBounds.{Bounded, read, read_bounded, figure_short, written_short}
use Rattle.job_bytes.proofs.ReadRefuses.{ByReading, number_between, read_refuses}
use Rattle.job_bytes.proofs.SetRoundTrip.{Bytes}
use Rattle.ordering.specs.Methods.{order_by}
use Rattle.ordering.specs.Ordering.{ordering, order_answer}
use Rattle.ordering.proofs.Ordered.{order_entries}
use Rattle.drive.specs.Steps.{Move}
use Rattle.drive.specs.Check.{check_from}
use Rattle.drive.proofs.CheckExact.{fault_within}
use Rattle.drive.proofs.Moves.{length_moves}
use Rattle.planning.specs.declared.CountEnd.{CountEnd}
use Rattle.planning.specs.Plan.{Plan, SetLists, entries, in_order}
use Rattle.planning.specs.Planning.{sets_known, checked_outcome, plan_moves, end_known, checking, planning, plan_answer}
use Rattle.planning.proofs.CheckExact.{passed, check_few}
use Rattle.planning.proofs.Demand3.{demand3}
use Rattle.planning.proofs.Sequence.{known_exact, planning_parts, steps_length}
use Rattle.stepping.specs.declared.State.{State}
use Rattle.stepping.specs.Stepping.{commit, making, tests_made}
use Rattle.stepping.proofs.Exact.{not_next_exact}
use Rattle.plan_bytes.specs.PlanBytes.{Contents, plan_bytes, write_plan, write_plan_answer, read_plan_bytes, plan_steps, read_plan, plan_read, read_plan_answer}
use Rattle.plan_bytes.proofs.PlanBounds.{plan_figure, plan_eleven}
use Rattle.plan_bytes.proofs.PlanLength.{passed_length, written_length}
use Rattle.plan_bytes.proofs.ReadPlan.{plan_count}
use Rattle.every_size.specs.Sizes.{fewest_places}
use Rattle.sizing.specs.Sizing.{sizing, fewest}
use Rattle.sizing.proofs.EverySize.{sizes_exact}
use Rattle.report.specs.Report.{sheet, write_sheet, sheet_answer}
use Rattle.report.specs.Audit.{audit, audit_text, write_audit, audit_answer}
use Rattle.report.specs.SizeTable.{size_table, write_table, table_answer}
use Rattle.report.proofs.Longest.{sheet_longest}
use Rattle.report.proofs.AuditLongest.{audit_longest}
use Rattle.report.proofs.TableLines.{Word}
use Rattle.report.proofs.TableLongest.{table_longest}
use Rattle.exports.specs.Numbers.{numbered, count_of, places_number, asks}
use Rattle.exports.specs.States.{step_of}
use Rattle.exports.proofs.Numbers.{numbered_tells}

-- the number that stands for an outcome tells it
pub record Told (o : Outcome ℕ) : Type 0 where
  pub count : (n : ℕ) → o ≡ done n → (numbered o ≡ n) × (n < 2 ^ 48)
  pub refusal : (k i : ℕ) → o ≡ refused k i → (2 ^ 48 ≤ numbered o) × (numbered o / 2 ^ 48 ≡ k) × (numbered o % 2 ^ 48 ≡ i)

-- .. where counts and figures are small
abbrev Figures : ℕ → ℕ → Type 0
Figures k i = (1 ≤ k) × (i < 2 ^ 48)

told : (o : Outcome ℕ) → ((n : ℕ) → o ≡ done n → n < 2 ^ 48) → Refuses Figures o → Told o
told o few r =
    record {
      count = λ n e. (ap numbered e ∙ (numbered_tells.0 n (few n e)).0, few n e);
      refusal = λ k i e. let f = refuses Figures o k i r e in rw e (numbered_tells.1 k i f.0 f.1);
    }

-- ---- the examinations

asked : {A : Type 0} (lent needed : ℕ) (b : Outcome A) → needed < 2 ^ 48 → Refuses Figures b → Refuses Figures (◌>>◌ (room lent needed) b)
unfolding room
asked lent needed b l q = refuses_both Figures _ b (refuses_demand Figures _ 9 needed (omega arith, l)) q

counts_told : (curves tests : ℕ) → Refuses Figures (counts_known curves tests)
unfolding counts_known curves_known tests_known
counts_told curves tests =
    refuses_both Figures _ _ (refuses_demand Figures _ 10 1 (omega arith, omega arith)) (refuses_demand Figures _ 10 2 (omega arith, omega arith))

fit_told : (capacity : ℕ) (wants : List ℕ) → length wants ≤ 256 → Refuses Figures (wants_fit capacity wants)
unfolding wants_fit
fit_told capacity wants l = refuses_each Figures _ 7 0 wants (λ t h. (omega arith, omega arith))

module _ (method : ℕ) (j : Job) where
  few : job_known_by method j ≡ done tt → length j.wants ≤ 256
  few e = ((job_by_exact j method).0 e).0.tests_bound

  job_told : Refuses Figures (job_known_by method j)
  job_told = refuses_more HandedRefusal Figures (job_known_by method j) small (job_by_refuses method j)
    where
      small : (k i : ℕ) → HandedRefusal k i → Figures k i
      small k i (inl n) = (omega (arith, n.0), omega (arith, n.1))
      small k i (inr n) = (omega (arith, n.0), omega (arith, n.1))

-- 14 names a curve
held_told : (curves held : ℕ) → Refuses Figures (held_known curves held)
held_told curves held =
    refuses_more HeldRefusal Figures (held_known curves held) (λ k i n. (omega (arith, n.0), omega (arith, n.1))) (held_refuses curves held)

-- 8 names one of the positions, or the one behind them
order_told : (n : ℕ) (before rest : List ℕ) → n ≤ 256 → length before ≤ n → Refuses Figures (order_from n before rest)
unfolding order_from
order_told n before [] l m = refuses_demand Figures _ 8 (length before) (omega arith, omega arith)
order_told n before (t ∷ ts) l m =
    refuses_then Figures (demand (ltb (length before) n && ltb t n && not (listed before t)) 8 (length before)) _
    (refuses_demand Figures _ 8 (length before) (omega arith, omega arith))
    (λ e.
    let a = both (ltb (length before) n && ltb t n) (not (listed before t)) (demand_true _ 8 (length before) e) in
    let b = both (ltb (length before) n) (ltb t n) a.0 in
    order_told n (before ++ (t ∷ [])) ts l (omega (arith, length-append before (t ∷ []), ltb-true (length before) n b.0)))

steps_told : (places all held : ℕ) (ms : List Move) → length ms ≤ 256 → Refuses Figures (checked_outcome (check_from places all 0 held ms))
unfolding checked_outcome
steps_told places all held ms l = go (check_from places all 0 held ms) refl
  where
    go : (c : Result ℕ ℕ) → check_from places all 0 held ms ≡ c → Refuses Figures (checked_outcome c)
    go (Ok h) e = tt
    go (Err i) e = (omega arith, omega (arith, fault_within places all 0 held ms i e))

-- ---- jobs and orders

module _ (bs old : List ℕ) where
  read_few : (j : Request) → read_bytes bs ≡ done j → j.head.tests ≤ 256
  read_few j e = of (subst (Bounded bs) e (read_bounded bs))
    where
      of : {j : Request} → Bounded bs (done j) → j.head.tests ≤ 256
      of (read j l t) = t

  read_told : Refuses Figures (read_bytes bs)
  read_told = go (read_bytes bs) refl
    where
      go : (o : Outcome Request) → read_bytes bs ≡ o → Refuses Figures o
      go (done j) e = tt
      go (refused k i) e = ((number_between k i (refuses ByReading (read_bytes bs) k i (read_refuses bs) e)).0, omega (arith, (figure_short bs k i e).0))

  pub read_job_told : Told (mapped (λ h. h.tests) (read_job_answer bs old))
  unfolding read_job_answer read_job
  read_job_told =
      told _
      (λ n e.
      let h = mapped_done (λ (h : Head). h.tests) (read_job_answer bs old) n e in
      let j = mapped_done (λ (j : Request). j.head) (read_job bs (length old)) h.0 h.1 in
      let b = bind_done (read_bytes bs) _ j.0 j.1 in
      let r = both_done (room (length old) b.0.head.tests) (done b.0) j.0 b.2 in
      omega (arith, read_few b.0 b.1, ap (λ (j : Request). j.head.tests) (done_same r.1), ap (λ (h : Head). h.tests) j.2, h.2))
      (refuses_mapped Figures _ _ (refuses_mapped Figures _ _
      (refuses_bind Figures (read_bytes bs) _ read_told (λ j e. asked (length old) j.head.tests (done j) (omega (arith, read_few j e)) tt))))

-- what every call is examined for before anything is made
module _ (j : Job) where
  ordering_told : (method : ℕ) → Refuses Figures (ordering_known method j)
  unfolding ordering_known
  ordering_told method = refuses_then Figures _ _ (job_told method j) (λ e. fit_told (capacity j.rig) j.wants (few method j e))

  module _ (held : ℕ) (order : List ℕ) where
    checking_told : Refuses Figures (checking_known j held order)
    unfolding checking_known
    checking_told =
        refuses_then Figures _ _ (job_told 0 j)
        (λ e. refuses_both Figures _ _ (held_told j.rig.curves held) (order_told (length j.wants) [] order (few 0 j e) (omega arith)))

    planning_told : Refuses Figures (planning_known j held order)
    unfolding planning_known
    planning_told = refuses_then Figures _ _ checking_told (λ e. fit_told (capacity j.rig) j.wants (known_exact j held order e).0.tests_bound)

module _ (method : ℕ) (j : Job) (old : List ℕ) where
  pub write_job_told : Told (write_job_answer method j old)
  unfolding write_job_answer
  write_job_told =
      told _
      (λ n e. let b = mapped_done length (write_job method j (length old)) n e in
      omega (arith, b.2, written_short method j (length old) b.0 b.1))
      (refuses_mapped Figures _ _ writing)
    where
      bytes : List ℕ
      bytes = job_bytes (request method j)

      short : job_known_by method j ≡ done tt → length bytes ≤ 2311
      short e = written_short method j (length bytes) bytes
          (unfold write_job in (done_both _ _ e ∙ done_both _ _ (done_room (length bytes) (length bytes) (omega arith))))

      writing : Refuses Figures (write_job method j (length old))
      writing =
          unfold write_job in
          refuses_then Figures _ _ (job_told method j) (λ e. asked (length old) (length bytes) (done bytes) (omega (arith, short e)) tt)

  pub order_tests_told : Told (order_answer method j old)
  unfolding order_answer ordering_known ordering
  order_tests_told = told _ (λ n e. counted n (mapped_done length (ordering method j (length old)) n e)) (refuses_mapped Figures _ _ refusing)
    where
      counted : (n : ℕ) → (order : List ℕ) × (ordering method j (length old) ≡ done order) × (length order ≡ n) → n < 2 ^ 48
      counted n x =
          let a = both_done (ordering_known method j) _ x.0 x.1 in
          let k = both_done (job_known_by method j) _ tt a.0 in
          let c = bind_done (room (length old) (length j.wants)) (λ _. done (order_by method (capacity j.rig) j.wants)) x.0 a.1 in
          omega (arith, x.2, ap length (done_same c.2), order_entries method (capacity j.rig) j.wants, few method j k.0)

      refusing : Refuses Figures (ordering method j (length old))
      refusing =
          unfold ordering room in refuses_then Figures _ _ (ordering_told j method)
          (λ e. let l = few method j (both_done (job_known_by method j) _ tt e).0 in
          refuses_bind Figures _ _ (refuses_demand Figures _ 9 (length j.wants) (omega arith, omega arith)) (λ _ e. tt))

-- ---- plans

module _ (j : Job) (held : ℕ) (order : List ℕ) (p : Plan) where
  few_loads : (n : ℕ) → checking j held order p ≡ done n → n < 2 ^ 48
  few_loads n e = omega (arith, check_few j held order p n e, (passed j held order p n e).is_job.tests_bound)

  check_refuses : Refuses Figures (checking j held order p)
  unfolding checking sets_known end_known
  check_refuses =
      refuses_then Figures _ _ (checking_told j held order)
      (λ e. let l = (known_exact j held order e).0.tests_bound in
      refuses_both Figures _ _ (refuses_demand Figures _ 12 (min (min (length p.drops) (length p.loads)) (length j.wants)) (omega arith, omega arith))
      (refuses_both Figures _ _ (steps_told (capacity j.rig) (all_curves j.rig.curves) held (plan_moves j order p)
      (omega (arith, length_moves (in_order j.wants order) p.drops p.loads, steps_length j held order e)))
      (refuses_both Figures _ _ (refuses_demand Figures _ 12 (length j.wants) (omega arith, omega arith)) tt)))

  pub check_told : Told (checking j held order p)
  check_told = told _ few_loads check_refuses

  pub write_plan_told : (old : List ℕ) → Told (write_plan_answer j held order p old)
  unfolding write_plan_answer
  write_plan_told old =
      told _
      (λ n e. let b = mapped_done length (write_plan j held order p (length old)) n e in
      omega (arith, b.2, written_length j held order p (length old) b.0 b.1))
      (refuses_mapped Figures _ _ (unfold write_plan in refuses_bind Figures (checking j held order p) _ check_refuses
      (λ m e. asked (length old) (length (plan_bytes order p)) _ (omega (arith, passed_length j held order p m e)) tt)))

module _ (j : Job) (held : ℕ) (order : List ℕ) (lent : SetLists) where
  -- a plan that was made passes the check
  pub plan_told : Told (count_of (plan_answer j held order lent))
  plan_told =
      told _
      (λ n e. let x = mapped_done (λ (a : CountEnd). a.count) (plan_answer j held order lent) n e in
      omega (arith, few_loads j held order _ x.0.count ((demand3 j held order lent).passes x.0 x.1), x.2))
      (refuses_mapped Figures _ _ (unfold plan_answer planning room in refuses_mapped Figures _ _
      (refuses_then Figures _ _ (planning_told j held order)
      (λ e. let l = (known_exact j held order (planning_parts j held order e).0).0.tests_bound in
      refuses_bind Figures _ _ (refuses_demand Figures _ 9 (length j.wants) (omega arith, omega arith)) (λ _ e. tt)))))

module _ (curves tests : ℕ) (bs order : List ℕ) (lent : SetLists) where
  bytes_told : tests ≤ 256 → Refuses Figures (read_plan_bytes curves tests bs)
  bytes_told l = go (read_plan_bytes curves tests bs) refl
    where
      go : (o : Outcome Contents) → read_plan_bytes curves tests bs ≡ o → Refuses Figures o
      go (done ss) e = tt
      go (refused k i) e = (
        omega (arith, refuses (λ (k i : ℕ). k ≡ 11) (read_plan_bytes curves tests bs) k i (plan_eleven curves tests bs) e),
        omega (arith, plan_figure curves tests bs k i e),
      )

  steps_few : (ss : Contents) → plan_steps curves tests bs ≡ done ss → (length ss.steps ≡ tests) × (tests ≤ 256)
  unfolding plan_steps
  steps_few ss e = let c = both_done (counts_known curves tests) _ ss e in (plan_count curves tests bs ss c.1, (counts_bounds curves tests c.0).1)

  pub read_plan_told : Told (count_of (read_plan_answer curves tests bs order lent))
  unfolding read_plan_answer read_plan
  read_plan_told =
      told _
      (λ n e.
      let a = mapped_done (λ (a : CountEnd). a.count) (read_plan_answer curves tests bs order lent) n e in
      let x = mapped_done steps_end (plan_read curves tests bs order lent) a.0 a.1 in
      let s = bind_done (plan_steps curves tests bs) _ x.0 x.1 in
      let c = both_done (room (min (length order) (entries lent)) tests) (done s.0) x.0 s.2 in
      let f = steps_few s.0 s.1 in
      omega (arith, a.2, ap (λ (a : CountEnd). a.count) x.2, ap (λ (s : Contents). length s.steps) (done_same c.1), f.0, f.1))
      (refuses_mapped Figures _ _ (refuses_mapped Figures _ _ (refuses_bind Figures (plan_steps curves tests bs) _ steps_refuse
      (λ ss e. let l : tests < 2 ^ 48 = omega (arith, (steps_few ss e).1) in
      asked (min (length order) (entries lent)) tests (done ss) l tt))))
    where
      steps_end : Contents → CountEnd
      steps_end c = record { count = length c.steps; end = c.end }

      steps_refuse : Refuses Figures (plan_steps curves tests bs)
      steps_refuse = unfold plan_steps in refuses_then Figures _ _ (counts_told curves tests) (λ e. bytes_told (counts_bounds curves tests e).1)

-- ---- look, then commit

module _ (j : Job) (held : ℕ) (order : List ℕ) where
  pub state_told : Told (tests_made (making j held order))
  unfolding making
  state_told =
      told _
      (λ n e.
      let x = mapped_done (λ (s : State). s.tests) (making j held order) n e in
      let m = both_done (planning_known j held order) _ x.0 x.1 in
      let l = (known_exact j held order (planning_parts j held order m.0).0).0.tests_bound in
      omega (arith, x.2, ap (λ (s : State). s.tests) (done_same m.1)))
      (refuses_mapped Figures _ _ (refuses_both Figures _ _ (planning_told j held order) tt))

-- 15 is told where the number of steps committed is below 2^48, as in every state that is reached from a made one
pub commit_told : (s : State) (position : ℕ) → s.committed < 2 ^ 48 → (k i : ℕ) → commit s position ≡ refused k i
    → let answer = (step_of (commit s position)).answer in (2 ^ 48 ≤ answer) × (answer / 2 ^ 48 ≡ k) × (answer % 2 ^ 48 ≡ i)
unfolding step_of
commit_told s position l k i e =
    let x = (not_next_exact s position k i).0 e in
    rw e (numbered_tells.1 k i (omega (arith, x.0)) (omega (arith, x.1)))

-- ---- every drive size

module _ (curves : ℕ) (wants order : List ℕ) where
  sizing_refuses : Refuses Figures (sizing curves wants order)
  unfolding sizing sizing_known
  sizing_refuses =
      refuses_both Figures _ _
      (refuses_then Figures _ _ (counts_told curves (length wants))
      (λ e. let l = (counts_bounds curves (length wants) e).1 in
      refuses_both Figures _ _
      (refuses_more OfWants Figures (wants_known curves wants) (λ k i n. (omega (arith, n.0), omega (arith, n.2))) (wants_refuse curves wants l))
      (order_told (length wants) [] order l (omega arith)))) tt

  pub all_sizes_told : Told (mapped (λ _. 0) (sizing curves wants order))
  all_sizes_told =
      told _ (λ n e. omega (arith, (mapped_done (λ _. 0) (sizing curves wants order) n e).2)) (refuses_mapped Figures _ _ sizing_refuses)

  module _ (loads : ℕ) where
    -- the fewest places are 1 to 64: so 0 tells that there are none ..
    pub places_told : (p : ℕ) → fewest curves wants order loads ≡ done (found p) → (1 ≤ p) × (p ≤ 64)
    unfolding fewest
    places_told p e =
        let m = mapped_done (fewest_places loads) (sizing curves wants order) (found p) e in
        let s = (sizes_exact curves wants order m.0 m.1).serving loads p m.2 in
        (s.0, s.1)

    -- .. and the number tells them, or the refusal
    pub fewest_places_told : Told (mapped places_number (fewest curves wants order loads))
    unfolding places_number
    fewest_places_told =
        told _ (λ n e. let m = mapped_done places_number (fewest curves wants order loads) n e in few_places m.0 m.1 n m.2)
        (refuses_mapped Figures _ _ (unfold fewest in refuses_mapped Figures _ _ sizing_refuses))
      where
        few_places : (f : Found ℕ) → fewest curves wants order loads ≡ done f → (n : ℕ) → places_number f ≡ n → n < 2 ^ 48
        few_places nobody e n g = omega arith
        few_places (found p) e n g = omega (arith, (places_told p e).1)

-- ---- texts

text_told : (text : List ℕ) (lent : ℕ) → length text < 2 ^ 48 → Told (mapped length (◌>>◌ (room lent (length text)) (done text)))
text_told text lent l =
    told _
    (λ n e.
    let x = mapped_done length (◌>>◌ (room lent (length text)) (done text)) n e in
    omega (arith, x.2, ap length (done_same (both_done (room lent (length text)) (done text) x.0 x.1).1)))
    (refuses_mapped Figures _ _ (asked lent (length text) (done text) l tt))

pub sheet_told : (job old : List ℕ) → Bytes job → Told (sheet_answer job old)
unfolding sheet_answer write_sheet
sheet_told job old all = text_told (sheet job) (length old) (omega (arith, sheet_longest job all))

pub audit_told : (job plan old : List ℕ) → Bytes job → Told (audit_answer job plan old)
unfolding audit_answer write_audit
audit_told job plan old all = text_told (audit_text (audit job plan)) (length old) (omega (arith, audit_longest job plan all))

pub table_told : (job old : List ℕ) (asked loads : ℕ) → Bytes job → loads < 2 ^ 64 → Told (table_answer job (asks asked loads) old)
unfolding table_answer write_table
table_told job old asked loads all l =
    text_told (size_table job (asks asked loads)) (length old) (omega (arith, table_longest job (asks asked loads) all (word asked)))
  where
    word : (asked : ℕ) → Word (asks asked loads)
    word zero = unfold asks in tt
    word (suc n) = unfold asks in l
