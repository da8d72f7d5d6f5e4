-- What the call answers: which refusals come out, that counts and refusals never meet, and that the bytes written are a plan with the fewest loads.
use mathlib.Core.Path.{◌≡◌, refl, sym, ap, ◌∙◌}
use mathlib.Core.Logic.{◌⊎◌, inl, inr, ◌↔◌}
use mathlib.Core.List.{List, []}
use Prim.Native.Nat.{ℕ, ◌+◌, ◌*◌, ◌/◌, ◌%◌, ◌≤◌, ◌<◌}
use native.Mathlib.Omega.{arith}
use native.Mathlib.Nat.{zero-add}
use lib.Dec.{leb}
use lib.ListN.{length, drop_of_length-le}
use Rattle.std.specs.Prelude.{Result, Ok, Err}
use Rattle.bitset.specs.Set.{size}
use Rattle.job.specs.declared.Refusal.{Refusal}
use Rattle.job.specs.Refusal.{Outcome, done, refused, number, figure, outcome, ◌>>=◌, ◌>>◌, mapped, room}
use Rattle.job.specs.Handed.{each, wants_fit}
use Rattle.job.specs.Words.{capacity}
use Rattle.job_bytes.specs.JobBytes.{Request, job_in, read_bytes}
use Rattle.job.proofs.Laws.{refused≢done, done_same, both_done, done_both, done_room, mapped_done, mapped_refused, outcome_done, outcome_refused}
use Rattle.job.proofs.Refuses.{Refuses, refuses, refuses_demand, refuses_both}
use Rattle.job.proofs.Faults.{Examines, faultless, faulty, Fails, each_examines, none_too_large}
use Rattle.job_bytes.proofs.SetRoundTrip.{Bytes}
use Rattle.job_bytes.proofs.ReadExact.{ReadJob, read_exact}
use Rattle.job_bytes.proofs.JobBounds.{figure_short}
use Rattle.drive.specs.Steps.{held_after, load_count}
use Rattle.planning.specs.Plan.{handed, steps}
use Rattle.planning.specs.Planning.{checking}
use Rattle.planning.proofs.Demand3.{our_least}
use Rattle.plan_bytes.specs.PlanBytes.{steps_bytes, end_bytes, write_plan}
use Rattle.plan_bytes.proofs.PlanRoundTrip.{plan_back}
use Rattle.plan_bytes.proofs.PlanLength.{empty_length, no_bytes}
use Rattle.curveplan.specs.Call.{job_to_plan, number_of, call_answer}
use Rattle.curveplan.specs.Library.{WrittenPlan}
use Rattle.planned.proofs.Composed.{order_of, sets_of, order_empty, plan_empty, checked}
use Rattle.curveplan.proofs.Composed.{bytes_of, call_written, call_too_large, call_unread}
use Rattle.job_bytes.proofs.ReadRefuses.{ByReading, read_refuses}

-- a test that wants more curves than there are places, or none
sizes : (capacity : ℕ) (wants : List ℕ) → (wants_fit capacity wants ≡ done tt) ⊎ ((t : ℕ) × (t < length wants) × (wants_fit capacity wants ≡ refused 7 t))
unfolding wants_fit
sizes capacity wants = go (each_examines (λ w. leb (size w) capacity) 7 0 wants)
  where
    go : Examines (Fails (λ w. leb (size w) capacity) wants) 7 0 (each (λ w. leb (size w) capacity) 7 0 wants)
        → (each (λ w. leb (size w) capacity) 7 0 wants ≡ done tt) ⊎ ((t : ℕ) × (t < length wants) × (each (λ w. leb (size w) capacity) 7 0 wants ≡ refused 7 t))
    go (faultless e none) = inl e
    go (faulty t e first) = inr (t, first.0.0, e ∙ ap (refused 7) (zero-add t))

-- 5, 8, 10, 11 and 12 never come out ..
abbrev pub CallNumber : ℕ → Type 0
CallNumber k = ((1 ≤ k) × (k ≤ 7) × (k ≡ 5 → ⊥)) ⊎ (k ≡ 9) ⊎ (k ≡ 13)

of_reading : (k i : ℕ) → ByReading k i → CallNumber k
of_reading k i (inl n) = inl (n.0, omega (arith, n.1), n.2)
of_reading k i (inr n) = inr (inr n)

-- .. and a figure takes no more than 16 bits
abbrev pub CallRefusal : ℕ → ℕ → Type 0
CallRefusal k i = CallNumber k × (i ≤ 5121)

module _ (bs : List ℕ) (all : Bytes bs) (lent : ℕ) where
  pub call_refuses : Refuses CallRefusal (job_to_plan bs lent)
  call_refuses = go (read_bytes bs) refl
    where
      by_size : (j : Request) → read_bytes bs ≡ done j
          → (wants_fit (capacity j.head.rig) j.wants ≡ done tt)
          ⊎ ((t : ℕ) × (t < length j.wants) × (wants_fit (capacity j.head.rig) j.wants ≡ refused 7 t)) → Refuses CallRefusal (job_to_plan bs lent)
      by_size j e (inl f) =
          rw (call_written bs j all e f lent)
          (refuses_both CallRefusal (room lent (length (bytes_of j))) (done (bytes_of j))
          (unfold room in refuses_demand CallRefusal _ 9 (length (bytes_of j)) (inr (inl refl), empty_length _ _ _ _ (checked j (read_exact bs j all e) f))) tt)
      by_size j e (inr x) =
          let r : ReadJob j = read_exact bs j all e in
          rw (call_too_large bs j all e 7 x.0 x.2 lent) (inl (omega arith, omega arith, λ e. omega arith), omega (arith, x.1, r.is_job.tests_bound))

      go : (o : Outcome Request) → read_bytes bs ≡ o → Refuses CallRefusal (job_to_plan bs lent)
      go (refused k i) e =
          rw (call_unread bs k i e lent) (of_reading k i (refuses ByReading (read_bytes bs) k i (read_refuses bs) e), omega (arith, (figure_short bs k i e).0))
      go (done j) e = by_size j e (sizes (capacity j.head.rig) j.wants)

  -- a plan takes no more than 5,121 bytes
  pub call_counts : (plan : List ℕ) → job_to_plan bs lent ≡ done plan → length plan ≤ 5121
  call_counts plan p = go (read_bytes bs) refl
    where
      by_size : (j : Request) → read_bytes bs ≡ done j
          → (wants_fit (capacity j.head.rig) j.wants ≡ done tt)
          ⊎ ((t : ℕ) × (t < length j.wants) × (wants_fit (capacity j.head.rig) j.wants ≡ refused 7 t)) → length plan ≤ 5121
      by_size j e (inr x) = absurd (refused≢done (sym (call_too_large bs j all e 7 x.0 x.2 lent) ∙ p))
      by_size j e (inl f) =
          let w = both_done (room lent (length (bytes_of j))) (done (bytes_of j)) plan (sym (call_written bs j all e f lent) ∙ p) in
          rw (sym (done_same w.1)) (empty_length _ _ _ _ (checked j (read_exact bs j all e) f))

      go : (o : Outcome Request) → read_bytes bs ≡ o → length plan ≤ 5121
      go (refused k i) e = absurd (refused≢done (sym (call_unread bs k i e lent) ∙ p))
      go (done j) e = by_size j e (sizes (capacity j.head.rig) j.wants)

  -- COUNTS AND REFUSALS NEVER MEET: an answer below 65,536 is the count of the bytes written, any other tells the refusal's number and figure
  pub call_tells : ((plan : List ℕ) → job_to_plan bs lent ≡ done plan → (number_of (job_to_plan bs lent) ≡ length plan) × (length plan ≤ 5121))
      × ((k i : ℕ) → job_to_plan bs lent ≡ refused k i
      → (65536 ≤ number_of (job_to_plan bs lent)) × (number_of (job_to_plan bs lent) / 65536 ≡ k) × (number_of (job_to_plan bs lent) % 65536 ≡ i))
  unfolding number_of
  call_tells = (
    (λ plan e. rw e (refl, call_counts plan e)),
    (λ k i e. let r = refuses CallRefusal (job_to_plan bs lent) k i call_refuses e in rw e (told k i r.0 r.1)),
  )
    where
      told : (k i : ℕ) → CallNumber k → i ≤ 5121 → (65536 ≤ k * 65536 + i) × ((k * 65536 + i) / 65536 ≡ k) × ((k * 65536 + i) % 65536 ≡ i)
      told k i (inl b) l = (omega (arith, b.0), omega arith, omega arith)
      told k i (inr (inl b)) l = (omega (arith, b), omega arith, omega arith)
      told k i (inr (inr b)) l = (omega (arith, b), omega arith, omega arith)

  -- THE BYTES WRITTEN read back to a plan that passes the check, for the method's order, and no plan for that order that passes has fewer loads
  pub call_planned : (plan : List ℕ) → job_to_plan bs lent ≡ done plan → WrittenPlan bs plan
  call_planned plan p = go (read_bytes bs) refl
    where
      by_size : (q : Request) → read_bytes bs ≡ done q
          → (wants_fit (capacity q.head.rig) q.wants ≡ done tt)
          ⊎ ((t : ℕ) × (t < length q.wants) × (wants_fit (capacity q.head.rig) q.wants ≡ refused 7 t)) → WrittenPlan bs plan
      by_size q e (inr x) = absurd (refused≢done (sym (call_too_large bs q all e 7 x.0 x.2 lent) ∙ p))
      by_size q e (inl f) =
          let c = checked q (read_exact bs q all e) f in
          let b = plan_back (job_in q) 0 (order_of q) (handed 0 (sets_of q)) lent plan (written c ∙ sym (call_written bs q all e f lent) ∙ p) in
          record {
            request = q;
            read = e;
            contents = b.0;
            reads_back = b.1;
            in_order_lem = b.2;
            count = load_count (sets_of q);
            passes = rw b.3 c;
            least = our_least (job_in q) 0 (order_of q);
          }
        where
          written : checking (job_in q) 0 (order_of q) (handed 0 (sets_of q)) ≡ done (load_count (sets_of q))
              → write_plan (job_in q) 0 (order_of q) (handed 0 (sets_of q)) lent ≡ ◌>>◌ (room lent (length (bytes_of q))) (done (bytes_of q))
          written c = unfold write_plan ◌>>=◌ in (rw c refl)

      go : (o : Outcome Request) → read_bytes bs ≡ o → WrittenPlan bs plan
      go (refused k i) e = absurd (refused≢done (sym (call_unread bs k i e lent) ∙ p))
      go (done q) e = by_size q e (sizes (capacity q.head.rig) q.wants)

-- ---- 02, wish 3: "A job with no tests now reads: .. no plan bytes"

-- THE CALL WRITES NO BYTES exactly for a job without tests
pub call_none : (bs : List ℕ) → Bytes bs → (lent : ℕ) → job_to_plan bs lent ≡ done [] ↔ ((q : Request) × (read_bytes bs ≡ done q) × (q.wants ≡ []))
unfolding steps steps_bytes end_bytes held_after
call_none bs all lent = (
  λ e.
      let w = call_planned bs all lent [] e in
      (w.request, w.read, drop_of_length-le w.request.wants {i = 0} (omega (arith, no_bytes _ _ w.contents w.reads_back))),
  λ x. call_written bs x.0 all x.1 (none_too_large (capacity x.0.head.rig) x.0.wants x.2) lent ∙ written x.0 x.2,
)
  where
    written : (q : Request) → q.wants ≡ [] → ◌>>◌ (room lent (length (bytes_of q))) (done (bytes_of q)) ≡ done []
    written q e = rw (plan_empty q e, order_empty q e) (done_both _ _ (done_room lent 0 (omega arith)))

-- ---- the answer as one number, of what was counted

module _ (bs old : List ℕ) (x : Result ℕ Refusal) (given : outcome x ≡ mapped length (job_to_plan bs (length old))) where
  pub answers_count : (n : ℕ) → x ≡ Ok n → n ≡ call_answer bs old
  unfolding call_answer number_of
  answers_count n e = let m = mapped_done length (job_to_plan bs (length old)) n (outcome_done x _ n e given) in rw m.1 (sym m.2)

  refusal : (r : Refusal) → x ≡ Err r → job_to_plan bs (length old) ≡ refused (number r) (figure r)
  refusal r e = mapped_refused length (job_to_plan bs (length old)) (number r) (figure r) (outcome_refused x _ r e given)

  pub answers_refusal : (r : Refusal) → x ≡ Err r → number r * 65536 + figure r ≡ call_answer bs old
  unfolding call_answer number_of
  answers_refusal r e = rw (refusal r e) refl

  -- it fits in 64 bits
  pub refusal_bounds : Bytes bs → (r : Refusal) → x ≡ Err r → (number r ≤ 13) × (figure r ≤ 5121)
  refusal_bounds all r e = let b =
      refuses CallRefusal (job_to_plan bs (length old)) (number r) (figure r) (call_refuses bs all (length old)) (refusal r e) in (below b.0, b.1)
    where
      below : {k : ℕ} → CallNumber k → k ≤ 13
      below (inl b) = omega (arith, b.1)
      below (inr (inl b)) = omega (arith, b)
      below (inr (inr b)) = omega (arith, b)
