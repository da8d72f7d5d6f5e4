-- The longest sheet: so the program's buffer takes every one.
use mathlib.Core.Path.{◌≡◌, refl, sym, ◌∙◌}
use mathlib.Core.List.{List, []}
use Prim.Native.Nat.{ℕ, ◌≤◌, ◌<◌}
use native.Mathlib.Omega.{arith}
use lib.ListN.{length, get_or, length-append}
use lib.Dec.{leb}
use Rattle.bitset.specs.Set.{size}
use Rattle.job.specs.declared.Head.{Head}
use Rattle.job.specs.Refusal.{Outcome, done, refused, room}
use Rattle.job.specs.Words.{capacity}
use Rattle.job.specs.Handed.{wants_fit}
use Rattle.job_bytes.specs.JobBytes.{Request, job_in, read_bytes}
use Rattle.job.proofs.Laws.{refused≢done, done_both, done_room}
use Rattle.job.proofs.Refuses.{refuses, refuses_each}
use Rattle.job.proofs.Orders.{order_length}
use Rattle.job.proofs.OrderExact.{own_tests}
use Rattle.job_bytes.proofs.JobBounds.{figure_short}
use Rattle.job_bytes.proofs.ReadExact.{ReadJob, read_exact}
use Rattle.job_bytes.proofs.ReadRefuses.{ByReading, number_between, read_refuses}
use Rattle.job_bytes.proofs.SetRoundTrip.{Bytes}
use Rattle.ordering.proofs.Complete.{order_complete}
use Rattle.drive.specs.Steps.{curve_count}
use Rattle.planning.specs.Plan.{handed}
use Rattle.planning.proofs.CheckExact.{check_few}
use Rattle.planned.specs.Planned.{Planned, plan_job}
use Rattle.planned.proofs.Stages.{unread}
use Rattle.planned.proofs.Composed.{order_of, sets_of, checked, job_planned, job_too_large}
use Rattle.report.specs.Report.{text, decimal, head_text, plan_text, sheet, write_sheet, printed}
use Rattle.report.specs.ContractWords.{shown}
use Rattle.report.proofs.Digits.{decimal_length}
use Rattle.report.proofs.Lines.{step_short, steps_short, end_short, head_length, loads_length, plan_length, refusal_short}

-- the text shows no wants
same_text : (p : Planned) → printed (done p) ≡ plan_text (shown p.request.head p.order p.plan.drops p.plan.loads p.plan.end)
unfolding printed plan_text head_text
same_text p = refl

-- a sheet of at most 256 tests: at most 408 bytes for each step, 31 for the head, 206 for the end step and 12 for the load count
bound : (h : Head) (order drops loads : List ℕ) (end : ℕ) → h.tests < 1000 → capacity h.rig < 100 → h.method < 10 → length order ≤ 256
    → ((j : ℕ) → j < length order → get_or order j 0 < 1000) → curve_count loads < 100000
    → length (plan_text (shown h order drops loads end)) ≤ 105000
unfolding text
bound h order drops loads end t p m n o c =
    omega (
      arith,
      plan_length h order drops loads end,
      head_length h [] [] [] 0,
      end_short 2 h.tests end (omega arith),
      length-append (decimal h.tests) (text " tests, "),
      length-append (decimal (capacity h.rig)) (text " places, method "),
      length-append (decimal h.method) (text "\n"),
      decimal_length 2 h.tests (omega arith),
      decimal_length 1 (capacity h.rig) (omega arith),
      decimal_length 0 h.method (omega arith),
      loads_length (curve_count loads),
      length-append (decimal (curve_count loads)) (text "\n"),
      decimal_length 4 (curve_count loads) (omega arith),
      steps_short 1000 408 0 order drops loads (step_short 2) o (omega arith),
    )

-- of a job that was read, all of whose tests fit
planned_bound : (q : Request) → ReadJob q → wants_fit (capacity q.head.rig) q.wants ≡ done tt
    → length (plan_text (shown q.head (order_of q) (handed 0 (sets_of q)).drops (handed 0 (sets_of q)).loads (handed 0 (sets_of q)).end)) ≤ 105000
planned_bound q r f =
    let whole = order_complete q.head.method (capacity q.head.rig) q.wants in
    let long = order_length (length q.wants) (order_of q) whole in
    let tests = r.is_job.tests_bound in
    bound q.head (order_of q) (handed 0 (sets_of q)).drops (handed 0 (sets_of q)).loads (handed 0 (sets_of q)).end
    (omega (arith, r.tests))
    (omega (arith, r.is_job.places_bounds.1))
    (omega (arith, r.method))
    (omega arith)
    (λ i l. omega (arith, own_tests (length q.wants) (order_of q) whole i l))
    (omega (arith, check_few (job_in q) 0 (order_of q) (handed 0 (sets_of q)) _ (checked q r f)))

-- a refused job has a number and a figure of few digits
pub refused_few : (bs : List ℕ) → Bytes bs → (k i : ℕ) → plan_job bs ≡ refused k i → (k < 100) × (i < 10000)
unfolding wants_fit
refused_few bs all k i e = go (read_bytes bs) refl
  where
    fits : (q : Request) → read_bytes bs ≡ done q → (o : Outcome (Unit {0})) → wants_fit (capacity q.head.rig) q.wants ≡ o → (k < 100) × (i < 10000)
    fits q r (done tt) f = absurd (refused≢done (sym e ∙ job_planned bs q all r f))
    fits q r (refused l j) f =
        let is : ReadJob q = read_exact bs q all r in
        let few = refuses (λ (k i : ℕ). (k ≡ 7) × (i < 256)) (wants_fit (capacity q.head.rig) q.wants) l j
        (refuses_each (λ (k i : ℕ). (k ≡ 7) × (i < 256)) (λ w. leb (size w) (capacity q.head.rig)) 7 0 q.wants
        (λ t l. (refl, omega (arith, is.is_job.tests_bound)))) f in
        let same = sym e ∙ job_too_large bs q all r l j f in
        let number : k ≡ l = cc in
        let figure : i ≡ j = cc in
        (omega (arith, few.0), omega (arith, few.1))

    go : (o : Outcome Request) → read_bytes bs ≡ o → (k < 100) × (i < 10000)
    go (done q) r = fits q r (wants_fit (capacity q.head.rig) q.wants) refl
    go (refused l j) r =
        let n = number_between l j (refuses ByReading (read_bytes bs) l j (read_refuses bs) r) in
        let same = sym e ∙ unread bs l j r in
        let number : k ≡ l = cc in
        let figure : i ≡ j = cc in
        (omega (arith, n.1), omega (arith, (figure_short bs l j r).0))

-- NO SHEET is longer than 105,000 bytes
pub sheet_longest : (bs : List ℕ) → Bytes bs → length (sheet bs) ≤ 105000
unfolding sheet
sheet_longest bs all = go (read_bytes bs) refl
  where
    refusal : (k i : ℕ) → plan_job bs ≡ refused k i → length (printed (plan_job bs)) ≤ 105000
    refusal k i e = let f = refused_few bs all k i e in rw e (omega (arith, refusal_short k i f.0 f.1))

    fits : (q : Request) → read_bytes bs ≡ done q → (o : Outcome (Unit {0})) → wants_fit (capacity q.head.rig) q.wants ≡ o
        → length (printed (plan_job bs)) ≤ 105000
    fits q r (done tt) f =
        rw (job_planned bs q all r f) (rw (same_text (record { request = q; order = order_of q; plan = handed 0 (sets_of q) }))
        (planned_bound q (read_exact bs q all r) f))
    fits q r (refused k i) f = refusal k i (job_too_large bs q all r k i f)

    go : (o : Outcome Request) → read_bytes bs ≡ o → length (printed (plan_job bs)) ≤ 105000
    go (done q) r = fits q r (wants_fit (capacity q.head.rig) q.wants) refl
    go (refused k i) r = refusal k i (unread bs k i r)

-- so a buffer of as many bytes takes every sheet
pub sheet_fits : (bs : List ℕ) (lent : ℕ) → Bytes bs → 105000 ≤ lent → write_sheet bs lent ≡ done (sheet bs)
unfolding write_sheet
sheet_fits bs lent all l =
    done_both (room lent (length (sheet bs))) (done (sheet bs)) (done_room lent (length (sheet bs)) (omega (arith, sheet_longest bs all)))
