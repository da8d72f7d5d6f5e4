-- Reading the records and the whole job, step by step: what the rules come to at offset i of the whole bytes.
use mathlib.Core.Path.{◌≡◌, refl, sym, ap, ◌∙◌, subst}
use mathlib.Core.Logic.{◌⊎◌, ⊎_elim}
use mathlib.Core.List.{List, [], ◌∷◌, ◌++◌}
use Prim.Native.Nat.{ℕ, suc, ◌+◌, ◌-◌, ◌*◌, ◌≤◌, ◌<◌}
use native.Mathlib.Omega.{arith}
use native.Mathlib.Numerals.{add-one}
use lib.ListN.{length, get_or, take, drop, set, drop_of_length-le}
use lib.Seq.{drop-drop, drop-cons, take-suc-set}
use borrow.Author.Tests.{lt-leb, le-leb}
use Rattle.job.specs.declared.Refusal.{Refusal}
use Rattle.job.specs.declared.Head.{Head}
use Rattle.std.specs.Prelude.{Result, Ok, Err}
use Rattle.job.specs.Refusal.{Outcome, done, refused, number, figure, outcome, ◌>>=◌, ◌>>◌, mapped, demand, room, overwritten, leaves}
use Rattle.job_bytes.specs.SetBytes.{Got, got, byte_at, read_groups}
use Rattle.job_bytes.specs.JobBytes.{Request, read_head, read_record, read_records, at_end, read_bytes, read_job, read_job_answer, read_job_wants}
use Rattle.job.proofs.Laws.{refused≢done, done_same, mapped_done, done_mapped, refused_mapped}
use Rattle.job_bytes.proofs.Spans.{Spans, span_done, records_span}
use Rattle.job_bytes.proofs.Turns.{byte_none, record_next}

-- ---- one record of n; t are read, and the next begins at offset i of the job
byte_first : (o i : ℕ) (bs : List ℕ) → 0 < length bs → byte_at o i bs ≡ done (got (get_or bs 0 0) (i + 1) (drop 1 bs))
unfolding byte_at
byte_first o i [] h = absurd (omega arith)
byte_first o i (b ∷ bs) h = let e : suc i ≡ i + 1 = omega arith in rw e refl

module _ (job : List ℕ) (curves n t i : ℕ) (wants : List ℕ) (more : t < n) where
  abbrev records : Outcome (Got (List ℕ))
  records = read_records curves (n - t) wants i (drop i job)

  pub record_none : length job ≤ i → records ≡ refused 1 i
  unfolding read_record ◌>>=◌
  record_none h = record_next curves n t wants i (drop i job) more ∙ rw (byte_none 1 i i job h) refl

  module _ (bs : List ℕ) (part : bs ≡ drop i job) (some : 0 < length bs) where
    abbrev groups : Outcome (Got ℕ)
    groups = read_groups 1 3 4 curves 8 0 (get_or bs 0 0) 0 (i + 1) (drop 1 bs)

    record_groups : read_record curves i (drop i job) ≡ groups
    unfolding read_record ◌>>=◌
    record_groups = rw (← part, byte_first 1 i bs some) refl

    pub record_fault : (k f : ℕ) → groups ≡ refused k f → records ≡ refused k f
    unfolding ◌>>=◌
    record_fault k f e = record_next curves n t wants i (drop i job) more ∙ rw (record_groups, e) refl

    pub record_read : (s u : ℕ) → groups ≡ done (got s (i + u) (drop u bs))
        → records ≡ read_records curves (n - (t + 1)) (wants ++ (s ∷ [])) (i + u) (drop (i + u) job)
    unfolding ◌>>=◌
    record_read s u e = record_next curves n t wants i (drop i job) more ∙ rw (record_groups, e, part, drop-drop u i job) refl

-- one more set in the list
pub list_more : (l : List ℕ) (t s : ℕ) → t < length l → take (t + 1) (set l t s) ≡ take t l ++ (s ∷ [])
list_more l t s h = rw (add-one, take-suc-set l t s h)

-- ---- where the loops over tests and groups are left: all is read and the answer still stands, or the answer is the reading's refusal
abbrev pub LeftWith : Result (Unit {0}) Refusal → Outcome (Got (List ℕ)) → Got (List ℕ) → Type 0
LeftWith answer o g = ((answer ≡ Ok tt) × (o ≡ done g)) ⊎ ((r : Refusal) × (answer ≡ Err r) × (o ≡ refused (number r) (figure r)))

module _ (answer : Result (Unit {0}) Refusal) (o : Outcome (Got (List ℕ))) (g : Got (List ℕ)) (left : LeftWith answer o g) where
  pub left_refused : (r : Refusal) → answer ≡ Err r → o ≡ refused (number r) (figure r)
  left_refused r e =
      ⊎_elim
      (λ w. let p = w.0 in let z : ◌≡◌ {A = ℕ} 0 1 = cc in absurd (omega arith))
      (λ w. let p = w.1 in let q : w.0 ≡ r = cc in w.2 ∙ ap (λ (x : Refusal). refused (number x) (figure x)) q)
      left

  pub left_passed : answer ≡ Ok tt → o ≡ done g
  left_passed e = ⊎_elim (λ w. w.1) (λ w. let p = w.1 in let z : ◌≡◌ {A = ℕ} 0 1 = cc in absurd (omega arith)) left

-- what `read_records` promises of each
abbrev pub Promised : Result ℕ Refusal → Outcome (Got (List ℕ)) → List ℕ → Type 0
Promised r o sets = (outcome r ≡ mapped (λ (g : Got (List ℕ)). g.next) o) × ((g : Got (List ℕ)) → o ≡ done g → sets ≡ g.value)

pub promise_refused : (r : Refusal) (o : Outcome (Got (List ℕ))) (sets : List ℕ) → o ≡ refused (number r) (figure r) → Promised (Err r) o sets
unfolding outcome
promise_refused r o sets e = (refused_mapped (λ (g : Got (List ℕ)). g.next) o (number r) (figure r) e, λ g d. absurd (refused≢done (sym e ∙ d)))

pub promise_done : (o : Outcome (Got (List ℕ))) (g : Got (List ℕ)) → o ≡ done g → Promised (Ok g.next) o g.value
unfolding outcome
promise_done o g e = (done_mapped (λ (g : Got (List ℕ)). g.next) o g e, λ h d. ap (λ (x : Got (List ℕ)). x.value) (done_same (sym e ∙ d)))

-- ---- the whole job: without a head, and behind a head of n bytes
pub whole_head : (bs : List ℕ) (k f : ℕ) → read_head bs ≡ refused k f → read_bytes bs ≡ refused k f
unfolding read_bytes ◌>>=◌
whole_head bs k f e = rw e refl

module _ (bs : List ℕ) (h : Head) (n : ℕ) (head : read_head bs ≡ done (got h n (drop n bs))) where
  pub whole_fault : (k f : ℕ) → read_records h.rig.curves h.tests [] n (drop n bs) ≡ refused k f → read_bytes bs ≡ refused k f
  unfolding read_bytes ◌>>=◌
  whole_fault k f e = rw (head, e) refl

  module _ (ws : List ℕ) (e : ℕ) (records : read_records h.rig.curves h.tests [] n (drop n bs) ≡ done (got ws e (drop e bs))) where
    to_end : read_bytes bs ≡ ◌>>◌ (at_end 6 e (drop e bs)) (done (record { head = h; wants = ws }))
    unfolding read_bytes ◌>>=◌
    to_end = rw (head, records) refl

    pub whole_more : e < length bs → read_bytes bs ≡ refused 6 e
    unfolding at_end ◌>>◌
    whole_more l = to_end ∙ rw (drop-cons bs e 0 l) refl

    pub whole_read : length bs ≤ e → read_bytes bs ≡ done (record { head = h; wants = ws })
    unfolding at_end ◌>>◌
    whole_read l = to_end ∙ rw (drop_of_length-le bs l) refl

-- what `read_records` promises gives the records' reading whole
pub records_got : (bs : List ℕ) (curves k i e : ℕ) (sets : List ℕ) → i ≤ length bs
    → mapped (λ (g : Got (List ℕ)). g.next) (read_records curves k [] i (drop i bs)) ≡ done e
    → ((g : Got (List ℕ)) → read_records curves k [] i (drop i bs) ≡ done g → sets ≡ g.value)
    → read_records curves k [] i (drop i bs) ≡ done (got sets e (drop e bs))
records_got bs curves k i e sets l p f =
    let x = mapped_done (λ (g : Got (List ℕ)). g.next) (read_records curves k [] i (drop i bs)) e p in
    let s = span_done (subst (Spans (9 * k) i bs) x.1 (records_span bs curves k [] i l)) in
    let v = f x.0 x.1 in
    let n = x.2 in
    let r : x.0.rest ≡ drop e bs = s.behind ∙ ap (λ (y : ℕ). drop y bs) n in
    let g : x.0 ≡ got sets e (drop e bs) = λ j. record { value = sym v j; next = n j; rest = r j } in
    x.1 ∙ ap done g

-- ---- the answer, and what the lent list of wants holds
abbrev pub Answered : List ℕ → List ℕ → Outcome Head → List ℕ → Type 0
Answered bs old o new = (o ≡ read_job_answer bs old) × (new ≡ read_job_wants bs old)

module _ (bs old : List ℕ) where
  pub job_refused : (k f : ℕ) → read_bytes bs ≡ refused k f → Answered bs old (refused k f) old
  unfolding read_job_answer read_job_wants read_job ◌>>=◌ mapped leaves
  job_refused k f e = (rw e refl, rw e refl)

  module _ (j : Request) (read : read_bytes bs ≡ done j) where
    pub job_short : length old < j.head.tests → Answered bs old (refused 9 j.head.tests) old
    unfolding read_job_answer read_job_wants read_job room demand ◌>>=◌ ◌>>◌ mapped leaves
    job_short h = (rw (read, lt-leb j.head.tests (length old) h) refl, rw (read, lt-leb j.head.tests (length old) h) refl)

    pub job_fits : j.head.tests ≤ length old → Answered bs old (done j.head) (j.wants ++ drop (length j.wants) old)
    unfolding read_job_answer read_job_wants read_job room demand ◌>>=◌ ◌>>◌ mapped leaves overwritten
    job_fits h = (rw (read, le-leb j.head.tests (length old) h) refl, rw (read, le-leb j.head.tests (length old) h) refl)
