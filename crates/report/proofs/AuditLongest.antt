-- Which refusals an audit prints, and the longest: so the program's buffer is long enough.
use mathlib.Core.Path.{◌≡◌, refl, ap, subst}
use mathlib.Core.Logic.{◌⊎◌, inl, inr}
use mathlib.Core.List.{List, [], ◌∷◌, ◌++◌}
use Prim.Native.Nat.{ℕ, suc, ◌+◌, ◌-◌, ◌*◌, ◌^◌, ◌≤◌, ◌<◌, min}
use native.Mathlib.Omega.{arith}
use lib.Pow.{pow_pos}
use lib.ListN.{length, length-append, length-map}
use Rattle.std.specs.Prelude.{Result, Ok, Err}
use Rattle.job.specs.Refusal.{Outcome, done, refused, ◌>>=◌, ◌>>◌}
use Rattle.job.specs.Handed.{job_known, held_known, counts_known, all_curves}
use Rattle.job.proofs.Laws.{done_both, done_room, both_done, mapped_done}
use Rattle.job.proofs.Refuses.{Refuses, refuses, refuses_demand, refuses_both, refuses_bind, refuses_mapped}
use Rattle.job.proofs.JobExact.{job_exact, job_counts}
use Rattle.job.proofs.HeldExact.{held_exact}
use Rattle.job.specs.Words.{capacity}
use Rattle.job.specs.Order.{order_from, order_known}
use Rattle.job.specs.Calls.{checking_known}
use Rattle.job_bytes.specs.JobBytes.{Request, job_in, read_bytes}
use Rattle.job_bytes.proofs.JobBounds.{figure_short}
use Rattle.job_bytes.proofs.ReadExact.{ReadJob, read_exact}
use Rattle.job_bytes.proofs.SetRoundTrip.{Bytes}
use Rattle.drive.specs.Steps.{Move}
use Rattle.drive.specs.Check.{check_from}
use Rattle.drive.proofs.CheckExact.{fault_within}
use Rattle.drive.proofs.Moves.{length_moves}
use Rattle.planning.specs.Plan.{Plan, in_order}
use Rattle.planning.specs.Planning.{sets_known, checked_outcome, plan_moves, end_known, checking}
use Rattle.planning.proofs.CheckExact.{check_few}
use Rattle.planning.proofs.Turns.{length_in_order}
use Rattle.plan_bytes.specs.PlanBytes.{Contents, tests_of, plan_in, read_plan_bytes, plan_steps}
use Rattle.plan_bytes.proofs.ReadPlan.{plan_count}
use Rattle.plan_bytes.proofs.PlanBounds.{plan_figure, plan_eleven}
use Rattle.job_bytes.proofs.ReadRefuses.{ByReading, number_between, read_refuses}
use Rattle.report.specs.Report.{text, decimal, printed}
use Rattle.report.specs.declared.audit.LoadCounts.{LoadCounts}
use Rattle.report.specs.Audit.{audit_steps, audit_plan, audit, audit_text, write_audit}
use Rattle.report.proofs.Digits.{decimal_length}
use Rattle.report.proofs.Lines.{refusal_short}
use Rattle.report.proofs.Auditing.{counts_lines}
use Rattle.report.proofs.Fewest.{passed_planned, audit_says, audit_fewer}

-- ---- which refusals an audit prints

-- of the job: what reading refuses by, with an offset or the input length
abbrev pub OfJob : ℕ → ℕ → Type 0
OfJob k i = ByReading k i × (i ≤ 2311)

-- of the plan: 8 with a position, 11 with an offset or the input length, 12 with a step
abbrev pub OfPlan : ℕ → ℕ → Type 0
OfPlan k i = ((k ≡ 8) × (i ≤ 256)) ⊎ ((k ≡ 11) × (i ≤ 5130)) ⊎ ((k ≡ 12) × (i ≤ 256))

at_position : (i : ℕ) → i ≤ 256 → OfPlan 8 i
at_position i l = inl (refl, l)

at_offset : (i : ℕ) → i ≤ 5130 → OfPlan 11 i
at_offset i l = inr (inl (refl, l))

at_step : (i : ℕ) → i ≤ 256 → OfPlan 12 i
at_step i l = inr (inr (refl, l))

order_small : (n : ℕ) (before rest : List ℕ) → length before + length rest ≤ 256 → Refuses OfPlan (order_from n before rest)
unfolding order_from
order_small n before [] l = refuses_demand OfPlan _ 8 (length before) (at_position (length before) (omega arith))
order_small n before (t ∷ ts) l =
    refuses_both OfPlan _ _ (refuses_demand OfPlan _ 8 (length before) (at_position (length before) (omega arith)))
    (order_small n (before ++ (t ∷ [])) ts (omega (arith, length-append before (t ∷ []))))

steps_small : (places all : ℕ) (ms : List Move) → length ms ≤ 256 → Refuses OfPlan (checked_outcome (check_from places all 0 0 ms))
unfolding checked_outcome
steps_small places all ms l = go (check_from places all 0 0 ms) refl
  where
    go : (c : Result ℕ ℕ) → check_from places all 0 0 ms ≡ c → Refuses OfPlan (checked_outcome c)
    go (Ok h) e = tt
    go (Err i) e = at_step i (omega (arith, fault_within places all 0 0 ms i e))

steps_count : (curves tests : ℕ) (plan : List ℕ) (ss : Contents) → plan_steps curves tests plan ≡ done ss → length ss.steps ≡ tests
unfolding plan_steps
steps_count curves tests plan ss e = plan_count curves tests plan ss (both_done (counts_known curves tests) (read_plan_bytes curves tests plan) ss e).1

-- of a job that was read, so that the examinations of its numbers refuse nothing
module _ (j : Request) (r : ReadJob j) where
  abbrev c : ℕ
  c = j.head.rig.curves

  abbrev t : ℕ
  t = j.head.tests

  known : counts_known c t ≡ done tt
  known = rw r.tests at (job_counts (job_in j) r.is_job)

  plan_small : (plan : List ℕ) → Refuses OfPlan (plan_steps c t plan)
  unfolding plan_steps
  plan_small plan = rw (done_both (counts_known c t) (read_plan_bytes c t plan) known) (go (read_plan_bytes c t plan) refl)
    where
      go : (o : Outcome Contents) → read_plan_bytes c t plan ≡ o → Refuses OfPlan o
      go (done ss) e = tt
      go (refused k i) e =
          rw (refuses (λ (k i : ℕ). k ≡ 11) (read_plan_bytes c t plan) k i (plan_eleven c t plan) e)
          (at_offset i (omega (arith, plan_figure c t plan k i e, r.tests, r.is_job.tests_bound)))

  check_small : (order : List ℕ) (p : Plan) → length order ≤ 256 → Refuses OfPlan (checking (job_in j) 0 order p)
  unfolding checking checking_known sets_known end_known
  check_small order p m =
      let n = length j.wants in
      let l : n ≤ 256 = r.is_job.tests_bound in
      refuses_both OfPlan _ _ (rw (
        done_both (job_known (job_in j)) (◌>>◌ (held_known c 0) (order_known n order)) ((job_exact (job_in j)).1 r.is_job),
        done_both (held_known c 0) (order_known n order) ((held_exact c 0).1 (pow_pos c)),
      ) (order_small n [] order (omega arith)))
      (refuses_both OfPlan _ _ (refuses_demand OfPlan _ 12 (min (min (length p.drops) (length p.loads)) n) (at_step _ (omega arith)))
      (refuses_both OfPlan _ _ (steps_small (capacity j.head.rig) (all_curves c) (plan_moves (job_in j) order p)
      (omega (arith, length_moves (in_order j.wants order) p.drops p.loads, length_in_order j.wants order)))
      (refuses_both OfPlan _ _ (refuses_demand OfPlan _ 12 n (at_step n l)) tt)))

  audit_small : (plan : List ℕ) → Refuses OfPlan (audit_plan j plan)
  unfolding audit_plan audit_steps ◌>>=◌
  audit_small plan =
      refuses_bind OfPlan (plan_steps c t plan) _ (plan_small plan)
      (λ ss e.
      refuses_bind OfPlan (checking (job_in j) 0 (tests_of ss) (plan_in ss)) _
      (check_small (tests_of ss) (plan_in ss) (omega
      (arith, steps_count c t plan ss e, length-map ss.steps (λ s. s.step.test), r.tests, r.is_job.tests_bound)))
      (λ m f. rw (passed_planned (job_in j) 0 (tests_of ss) (plan_in ss) m f t (omega (arith, r.tests))) tt))

-- A REFUSED JOB has a number from 1 to 4, 6 or 13 ..
pub audit_job_refuses : (job plan : List ℕ) → Refuses OfJob (audit job plan)
unfolding audit
audit_job_refuses job plan = refuses_mapped OfJob (λ j. audit_plan j plan) (read_bytes job) (go (read_bytes job) refl)
  where
    go : (o : Outcome Request) → read_bytes job ≡ o → Refuses OfJob o
    go (done j) e = tt
    go (refused k i) e = (refuses ByReading (read_bytes job) k i (read_refuses job) e, (figure_short job k i e).0)

-- .. AND A REFUSED PLAN has 8, 11 or 12
pub audit_plan_refuses : (job plan : List ℕ) (o : Outcome LoadCounts) → Bytes job → audit job plan ≡ done o → Refuses OfPlan o
unfolding audit
audit_plan_refuses job plan o all e =
    let x = mapped_done (λ j. audit_plan j plan) (read_bytes job) o e in
    subst (Refuses OfPlan) x.2 (audit_small x.0 (read_exact job x.0 all x.1) plan)

-- ---- the text

job_short : (k i : ℕ) → OfJob k i → length (audit_text (refused k i)) ≤ 128
unfolding audit_text
job_short k i r = omega (arith, refusal_short k i (omega (arith, (number_between k i r.0).1)) (omega arith))

plan_short : (k i : ℕ) → OfPlan k i → length (audit_text (done (refused k i))) ≤ 128
unfolding audit_text text
plan_short k i r = omega (arith, length-append (text "plan ") (printed (refused k i)), go r)
  where
    go : OfPlan k i → length (printed (refused k i)) ≤ 20
    go (inl (e, l)) = refusal_short k i (omega arith) (omega arith)
    go (inr (inl (e, l))) = refusal_short k i (omega arith) (omega arith)
    go (inr (inr (e, l))) = refusal_short k i (omega arith) (omega arith)

-- of counts with at most k + 1 digits
pub counts_short : (k l f : ℕ) → l < 10 ^ suc k → f ≤ l → length (audit_text (done (done (record { loads = l; fewest = f })))) ≤ 3 * k + 30
unfolding text
counts_short k l f m n =
    omega (
      arith,
      ap length (counts_lines l f),
      length-append (text "loads " ++ (decimal l ++ text "\nfewest ") ++ (decimal f ++ text "\nshorter by ")) (decimal (l - f) ++ text "\n"),
      length-append (text "loads " ++ (decimal l ++ text "\nfewest ")) (decimal f ++ text "\nshorter by "),
      length-append (text "loads ") (decimal l ++ text "\nfewest "),
      length-append (decimal l) (text "\nfewest "),
      length-append (decimal f) (text "\nshorter by "),
      length-append (decimal (l - f)) (text "\n"),
      decimal_length k l m,
      decimal_length k f (omega arith),
      decimal_length k (l - f) (omega arith),
    )

-- NO AUDIT has a longer text than 128 bytes
pub audit_longest : (job plan : List ℕ) → Bytes job → length (audit_text (audit job plan)) ≤ 128
audit_longest job plan all = go (audit job plan) refl
  where
    go : (o : Outcome (Outcome LoadCounts)) → audit job plan ≡ o → length (audit_text o) ≤ 128
    go (refused k i) e = job_short k i (refuses OfJob (audit job plan) k i (audit_job_refuses job plan) e)
    go (done (refused k i)) e = plan_short k i (audit_plan_refuses job plan (refused k i) all e)
    go (done (done a)) e =
        let s = audit_says job plan a all e in
        omega (
          arith,
          counts_short 4 a.loads a.fewest
              (omega (
                arith,
                check_few (job_in s.request) 0 (tests_of s.contents) (plan_in s.contents) a.loads s.passes,
                (read_exact job s.request all s.job_read).is_job.tests_bound,
              ))
              (audit_fewer job plan a all e),
        )

-- so a buffer of as many bytes takes every one
pub audit_fits : (job plan : List ℕ) (lent : ℕ) → Bytes job → 128 ≤ lent → write_audit job plan lent ≡ done (audit_text (audit job plan))
unfolding write_audit
audit_fits job plan lent all l = done_both _ _ (done_room lent (length (audit_text (audit job plan))) (omega (arith, audit_longest job plan all)))
