-- The table beside the sheet: refused alike. And the longest: so the program's buffer takes every one.
use mathlib.Core.Path.{◌≡◌, refl, sym, ◌∙◌}
use mathlib.Core.Logic.{⊎_elim}
use mathlib.Core.List.{List}
use Prim.Native.Nat.{ℕ, ◌+◌, ◌-◌, ◌≤◌}
use native.Mathlib.Omega.{arith}
use lib.ListN.{length}
use Rattle.lists.specs.Choice.{Found}
use Rattle.job.specs.Refusal.{Outcome, done, refused, ◌>>=◌}
use Rattle.job.specs.Words.{IsJob}
use Rattle.job.specs.Calls.{sizing_known}
use Rattle.job.proofs.Laws.{refused≢done, done_same, both_done, done_both, done_room}
use Rattle.job.proofs.SizingExact.{sizing_exact}
use Rattle.job_bytes.specs.JobBytes.{Request, job_in, read_bytes}
use Rattle.job_bytes.proofs.ReadExact.{ReadJob, read_exact}
use Rattle.job_bytes.proofs.SetRoundTrip.{Bytes}
use Rattle.every_size.specs.Sizes.{mark, count_for, all_sizes}
use Rattle.every_size.proofs.LoadCounts.{entry_is, unreached, length_sizes, size_at}
use Rattle.planning.specs.Plan.{in_order, handed}
use Rattle.planning.specs.Planning.{our_plan}
use Rattle.planning.proofs.Sequence.{known_exact, planning_parts, plan_done}
use Rattle.planned.specs.Planned.{order_request, plan_in_order, plan_job}
use Rattle.planned.proofs.Stages.{order_known_lem, unread}
use Rattle.planned.proofs.Stages as plans
use Rattle.sizing.specs.Sizing.{sizing}
use Rattle.sizing.proofs.EverySize.{few, own, short}
use Rattle.report.specs.declared.sizes.JobSizes.{JobSizes}
use Rattle.report.specs.SizeTable.{size_job, sized_text, size_table, write_table}
use Rattle.report.proofs.Lines.{refusal_short}
use Rattle.report.proofs.Longest.{refused_few}
use Rattle.report.proofs.Sizing.{not_ordered, sized, not_read, was_read, sized_by}
use Rattle.report.proofs.TableLines.{Word, Entries, table_short}

-- ---- refusals

-- a list that was ordered is sized: nothing is left that the walk could refuse
ordered_sized : (q : Request) (order : List ℕ) → ReadJob q → order_request q ≡ done order
    → sizing q.head.rig.curves q.wants order ≡ done (all_sizes q.head.rig.curves (in_order q.wants order))
unfolding sizing
ordered_sized q order r e =
    let k = known_exact (job_in q) 0 order (planning_parts (job_in q) 0 order (order_known_lem q r.tests order e)).0 in
    let is : IsJob (record { rig = record { places = 64; booked = 0; curves = q.head.rig.curves }; wants = q.wants }) =
    record {
      places_bounds = (omega arith, omega arith);
      booked_bound = omega arith;
      curves_bounds = k.0.curves_bounds;
      tests_bound = k.0.tests_bound;
      own_curves = k.0.own_curves;
    } in
    done_both _ _ ((sizing_exact 64 q.head.rig.curves q.wants order (omega arith) (omega arith)).1 (is, k.2))

-- .. and planned
ordered_planned : (q : Request) (order : List ℕ) → ReadJob q → order_request q ≡ done order
    → plan_in_order q order ≡ done (record { request = q; order = order; plan = handed 0 (our_plan (job_in q) 0 order) })
unfolding plan_in_order ◌>>=◌
ordered_planned q order r e =
    rw (plan_done (job_in q) 0 order q.head.tests (order_known_lem q r.tests order e) (omega (arith, r.tests))) refl

-- both are done, or refused by the same number and figure
abbrev pub Alike : {A B : Type 0} → Outcome A → Outcome B → Type 0
Alike (done a) (done b) = Unit {0}
Alike (done a) (refused k i) = ⊥
Alike (refused k i) (done b) = ⊥
Alike (refused k i) (refused l j) = (k ≡ l) × (i ≡ j)

-- THE TABLE IS REFUSED AS THE SHEET IS
pub table_as_sheet : (bs : List ℕ) → Bytes bs → Alike (size_job bs) (plan_job bs)
table_as_sheet bs all = go (read_bytes bs) refl
  where
    ordered : (q : Request) → read_bytes bs ≡ done q → (o : Outcome (List ℕ)) → order_request q ≡ o → Alike (size_job bs) (plan_job bs)
    ordered q e (refused k i) f =
        rw (was_read bs q e ∙ not_ordered q k i f, plans.was_read bs q e ∙ plans.not_ordered q (read_exact bs q all e).tests k i f) (refl, refl)
    ordered q e (done order) f =
        let r = read_exact bs q all e in
        rw (
          was_read bs q e ∙ sized q order f _ (ordered_sized q order r f),
          plans.was_read bs q e ∙ plans.ordered q r.tests order f ∙ ordered_planned q order r f,
        ) tt

    go : (o : Outcome Request) → read_bytes bs ≡ o → Alike (size_job bs) (plan_job bs)
    go (done q) e = ordered q e (order_request q) refl
    go (refused k i) e = rw (not_read bs k i e, unread bs k i e) (refl, refl)

refused_alike : {A B : Type 0} (a : Outcome A) (b : Outcome B) (k i : ℕ) → Alike a b → a ≡ refused k i → b ≡ refused k i
refused_alike (done a) b k i s e = absurd (refused≢done (sym e))
refused_alike (refused l j) (done b) k i s e = absurd s
refused_alike (refused l j) (refused m n) k i s e =
    let number : l ≡ k = cc in
    let figure : j ≡ i = cc in
    rw (← s.0, ← s.1, number, figure) refl

-- ---- the entries

-- the counts that were made take two bytes each
entries : (curves : ℕ) (wants order counts : List ℕ) → sizing curves wants order ≡ done counts → Entries counts
unfolding sizing
entries curves wants order counts e =
    let a = both_done (sizing_known curves wants order) _ counts e in
    rw (← (done_same a.1)) (of a.0)
  where
    steps : List ℕ
    steps = in_order wants order

    of : sizing_known curves wants order ≡ done tt → Entries (all_sizes curves steps)
    of known =
        let most : (p : ℕ) → count_for curves steps p ≤ mark =
        λ p. ⊎_elim (λ x. omega
        (arith, x.1, unreached curves steps (own curves wants order known) (few curves wants order known) (short curves wants order known) p))
        (λ x. omega (arith, x.1)) (entry_is curves steps (own curves wants order known) p) in
        record {
          sizes = length_sizes curves steps;
          small = λ j l.
              let z : j + 1 - 1 ≡ j = omega arith in
              omega (arith, rw z at (size_at curves steps (j + 1) (omega arith) (omega (arith, length_sizes curves steps))), most (j + 1));
        }

-- ---- the text

-- NO TABLE is longer than 2,048 bytes
pub table_longest : (bs : List ℕ) (w : Found ℕ) → Bytes bs → Word w → length (size_table bs w) ≤ 2048
unfolding size_table sized_text
table_longest bs w all v = go (size_job bs) refl
  where
    go : (o : Outcome JobSizes) → size_job bs ≡ o → length (sized_text w o) ≤ 2048
    go (done s) e =
        let b = sized_by bs s e in
        let r = read_exact bs b.request all b.read in
        let c = entries b.request.head.rig.curves b.request.wants b.order s.counts b.made in
        rw b.head (table_short w b.request.head s.counts v (omega (arith, r.tests, r.is_job.tests_bound)) (omega (arith, r.method.0)) c)
    go (refused k i) e =
        let f = refused_few bs all k i (refused_alike (size_job bs) (plan_job bs) k i (table_as_sheet bs all) e) in
        omega (arith, refusal_short k i f.0 f.1)

-- so a buffer of as many bytes takes every table
pub table_fits : (bs : List ℕ) (w : Found ℕ) (lent : ℕ) → Bytes bs → Word w → 2048 ≤ lent → write_table bs w lent ≡ done (size_table bs w)
unfolding write_table
table_fits bs w lent all v l = done_both _ _ (done_room lent (length (size_table bs w)) (omega (arith, table_longest bs w all v)))
