-- The bounds of job bytes: a head takes at most 7 bytes and each of at most 256 records at most 9. So a job that reads has at most 2,311 bytes, no figure of a
-- refusal is larger than that, and bytes behind the 2,312th never change the answer.
use mathlib.Core.Path.{◌≡◌, refl, sym, ap, ◌∙◌, subst}
use mathlib.Core.Logic.{◌⊎◌, inl, inr}
use mathlib.Core.Bool.{Bool, true, false}
use mathlib.Core.List.{List, [], ◌∷◌, ◌++◌}
use Prim.Native.Nat.{ℕ, zero, suc, ◌+◌, ◌-◌, ◌*◌, ◌/◌, ◌%◌, ◌≤◌}
use native.Mathlib.Omega.{arith}
use native.Mathlib.Decide.{dec_le}
use lib.Dec.{leb}
use lib.ListN.{length, take, drop, length-take, length-drop, take-append-drop}
use lib.Seq.{take_all}
use Rattle.job.specs.declared.Head.{Head}
use Rattle.job.specs.Refusal.{Outcome, done, refused, ◌>>=◌, ◌>>◌, demand, room}
use Rattle.job_bytes.specs.declared.fields.Field.{Field}
use Rattle.job_bytes.specs.SetBytes.{Got, got}
use Rattle.job.specs.Words.{Job}
use Rattle.job.specs.Handed.{booked_below}
use Rattle.job_bytes.specs.JobBytes.{Request, fields, read_number, read_field, read_fields, head_fields, read_head, read_record, read_records, at_end}
use Rattle.job_bytes.specs.JobBytes.{read_bytes, read_job, read_job_answer, read_job_wants, write_job}
use Rattle.job.proofs.Laws.{refused≢done, bind_done, mapped_done, mapped_refused}
use Rattle.job_bytes.proofs.HeadRoundTrip.{head_range}
use Rattle.job_bytes.proofs.Spans.{Ends, Spans, span_done, span_refused, widths, head_span, records_span}
use Rattle.job_bytes.proofs.Behind.{Same, value, fault, same_then, same_test, byte_same, groups_same}
use Rattle.job_bytes.proofs.JobRoundTrip.{job_back}

-- ---- how long, and how large a figure

-- what a reading of the whole job comes to: done within the bound, or a figure within it
pub data Bounded (bs : List ℕ) : Outcome Request → Type 0 where
  read : (j : Request) → length bs ≤ 2311 → j.head.tests ≤ 256 → Bounded bs (done j)
  figure : (k f : ℕ) → f ≤ 2311 → f ≤ length bs → Bounded bs (refused k f)

-- behind the records
at_end_lem : (bs : List ℕ) (e : ℕ) (rest : List ℕ) (j : Request) → e ≤ 2311 → e ≤ length bs → rest ≡ drop e bs → j.head.tests ≤ 256
    → Bounded bs (◌>>◌ (at_end 6 e rest) (done j))
unfolding at_end ◌>>◌
at_end_lem bs e [] j m l r t = read j (omega (arith, ap length r, length-drop e bs)) t
at_end_lem bs e (b ∷ rest) j m l r t = figure 6 e m l

pub read_bounded : (bs : List ℕ) → Bounded bs (read_bytes bs)
unfolding read_bytes ◌>>=◌ ◌>>◌
read_bounded bs = behind (read_head bs) refl (head_span bs)
  where
    all : (h : Head) (n : ℕ) (o : Outcome (Got (List ℕ))) → h.tests ≤ 256 → n ≤ 7 → Spans (9 * h.tests) n bs o
        → Bounded bs (◌>>=◌ o (λ r. ◌>>◌ (at_end 6 r.next r.rest) (done (record { head = h; wants = r.value }))))
    all h n (done g) t m s = let e = span_done s in at_end_lem bs g.next g.rest _ (omega (arith, e.most)) e.within e.behind t
    all h n (refused k f) t m s = let e = span_refused s in figure k f (omega (arith, e.0)) e.1

    records : (h : Head) (n : ℕ) (rest : List ℕ) → h.tests ≤ 256 → Ends 7 0 bs n rest
        → Bounded bs (◌>>=◌ (read_records h.rig.curves h.tests [] n rest)
        (λ r. ◌>>◌ (at_end 6 r.next r.rest) (done (record { head = h; wants = r.value }))))
    records h n rest t s =
        subst (λ (l : List ℕ). Bounded bs (◌>>=◌ (read_records h.rig.curves h.tests [] n l)
        (λ r. ◌>>◌ (at_end 6 r.next r.rest) (done (record { head = h; wants = r.value }))))) (sym s.behind)
        (all h n (read_records h.rig.curves h.tests [] n (drop n bs)) t (omega (arith, s.most))
        (records_span bs h.rig.curves h.tests [] n s.within))

    behind : (o : Outcome (Got Head)) → read_head bs ≡ o → Spans 7 0 bs o
        → Bounded bs (◌>>=◌ o (λ h. ◌>>=◌ (read_records h.value.rig.curves h.value.tests [] h.next h.rest)
        (λ r. ◌>>◌ (at_end 6 r.next r.rest) (done (record { head = h.value; wants = r.value })))))
    behind (refused k f) e s = let x = span_refused s in figure k f (omega (arith, x.0)) x.1
    behind (done g) e s = records g.value g.next g.rest (head_range bs g e).tests (span_done s)

-- A JOB THAT READS HAS AT MOST 2,311 BYTES
pub job_short : (bs : List ℕ) (j : Request) → read_bytes bs ≡ done j → length bs ≤ 2311
job_short bs j e = of (subst (Bounded bs) e (read_bounded bs))
  where
    of : {j : Request} → Bounded bs (done j) → length bs ≤ 2311
    of (read j l t) = l

-- A FIGURE IS AT MOST 2,311, and points into the input or to its end
pub figure_short : (bs : List ℕ) (k f : ℕ) → read_bytes bs ≡ refused k f → (f ≤ 2311) × (f ≤ length bs)
figure_short bs k f e = of (subst (Bounded bs) e (read_bounded bs))
  where
    of : {k f : ℕ} → Bounded bs (refused k f) → (f ≤ 2311) × (f ≤ length bs)
    of (figure k f m l) = (m, l)

-- .. also where the lent list is asked: 9 has the number of tests
pub job_figure : (bs : List ℕ) (lent k f : ℕ) → read_job bs lent ≡ refused k f → (f ≤ 2311) × ((f ≤ length bs) ⊎ ((k ≡ 9) × (f ≤ 256)))
unfolding read_job room demand ◌>>=◌ ◌>>◌
job_figure bs lent k f e = go (read_bounded bs) e
  where
    short : (b : Bool) (j : Request) → j.head.tests ≤ 256 → ◌>>◌ (demand b 9 j.head.tests) (done j) ≡ refused k f
        → (f ≤ 2311) × ((f ≤ length bs) ⊎ ((k ≡ 9) × (f ≤ 256)))
    short true j t e = absurd (refused≢done (sym e))
    short false j t e =
        let n : k ≡ 9 = cc in
        let m : f ≡ j.head.tests = cc in
        (omega arith, inr (n, omega arith))

    go : {o : Outcome Request} → Bounded bs o → ◌>>=◌ o (λ j. ◌>>◌ (room lent j.head.tests) (done j)) ≡ refused k f
        → (f ≤ 2311) × ((f ≤ length bs) ⊎ ((k ≡ 9) × (f ≤ 256)))
    go (read j l t) e = short (leb j.head.tests lent) j t e
    go (figure n i m l) e =
        let q : f ≡ i = cc in
        (omega arith, inl (omega arith))

-- ---- bytes behind

module _ (ys : List ℕ) where
  number_same : (w i m : ℕ) (xs : List ℕ) → w + m ≤ length xs → Same ys m (read_number w i xs) (read_number w i (xs ++ ys))
  unfolding read_number
  number_same zero i m xs l = value 0 i xs (omega arith)
  number_same (suc w) i m xs l =
      same_then ys (w + m) m _ (byte_same ys 1 i (w + m) xs (omega arith))
      (λ b n xs l. same_then ys m m _ (number_same w n m xs l) (λ r n xs l. value _ n xs l))

  field_same : (f : Field) (d i m : ℕ) (xs : List ℕ) → f.width + m ≤ length xs → Same ys m (read_field f d i xs) (read_field f d i (xs ++ ys))
  unfolding read_field
  field_same f zero i m xs l = value f.absent i xs (omega arith)
  field_same f (suc d) i m xs l = same_then ys m m _ (number_same f.width i m xs l) (λ v n xs l. same_test ys m _ 2 i (value v n xs l))

  fields_same : (fs : List Field) (map : ℕ) (vs : List ℕ) (i m : ℕ) (xs : List ℕ) → widths fs + m ≤ length xs
      → Same ys m (read_fields fs map vs i xs) (read_fields fs map vs i (xs ++ ys))
  unfolding read_fields
  fields_same [] map vs i m xs l = value vs i xs (omega arith)
  fields_same (f ∷ fs) map vs i m xs l =
      same_then ys (widths fs + m) m _ (field_same f (map % 2) i (widths fs + m) xs (omega arith))
      (λ v n xs l. fields_same fs (map / 2) (vs ++ (v ∷ [])) n m xs l)

  table_same : (m : ℕ) (xs : List ℕ) → 7 + m ≤ length xs → Same ys m (head_fields xs) (head_fields (xs ++ ys))
  unfolding head_fields fields
  table_same m xs l =
      same_then ys (6 + m) m _ (byte_same ys 1 0 (6 + m) xs (omega arith))
      (λ map n xs l. same_test ys m _ 2 0 (same_then ys m m _ (fields_same fields map [] n m xs (omega arith)) (λ r n xs l. value _ n xs l)))

  head_same : (m : ℕ) (xs : List ℕ) → 7 + m ≤ length xs → Same ys m (read_head xs) (read_head (xs ++ ys))
  unfolding read_head booked_below
  head_same m xs l = same_then ys m m _ (table_same m xs l) (λ h n xs l. same_test ys m _ 13 (n - 1) (value h n xs l))

  record_same : (curves i m : ℕ) (xs : List ℕ) → 9 + m ≤ length xs → Same ys m (read_record curves i xs) (read_record curves i (xs ++ ys))
  unfolding read_record
  record_same curves i m xs l =
      same_then ys (8 + m) m _ (byte_same ys 1 i (8 + m) xs (omega arith)) (λ map n xs l. groups_same ys 1 3 4 curves 8 0 map 0 n m xs (omega arith))

  records_same : (curves k : ℕ) (wants : List ℕ) (i m : ℕ) (xs : List ℕ) → 9 * k + m ≤ length xs
      → Same ys m (read_records curves k wants i xs) (read_records curves k wants i (xs ++ ys))
  unfolding read_records
  records_same curves zero wants i m xs l = value wants i xs (omega arith)
  records_same curves (suc k) wants i m xs l =
      same_then ys (9 * k + m) m _ (record_same curves i (9 * k + m) xs (omega arith)) (λ r n xs l. records_same curves k (wants ++ (r ∷ [])) n m xs l)

  -- with a byte left behind the records in both, both are refused there
  end_same : (h : Head) {o q : Outcome (Got (List ℕ))} → Same ys 1 o q
      → ◌≡◌ {A = Outcome Request} (◌>>=◌ q (λ r. ◌>>◌ (at_end 6 r.next r.rest) (done (record { head = h; wants = r.value }))))
      (◌>>=◌ o (λ r. ◌>>◌ (at_end 6 r.next r.rest) (done (record { head = h; wants = r.value }))))
  unfolding ◌>>=◌ ◌>>◌ at_end
  end_same h (value a n [] l) = absurd (omega arith)
  end_same h (value a n (x ∷ xs) l) = refl
  end_same h (fault k f) = refl

  -- BYTES BEHIND THE 2,312TH NEVER CHANGE THE ANSWER
  pub behind_same : (xs : List ℕ) → 2312 ≤ length xs → read_bytes (xs ++ ys) ≡ read_bytes xs
  unfolding read_bytes ◌>>=◌ ◌>>◌
  behind_same xs l = go refl refl (head_same 2305 xs (omega arith))
    where
      go : {o q : Outcome (Got Head)} → read_head xs ≡ o → read_head (xs ++ ys) ≡ q → Same ys 2305 o q → read_bytes (xs ++ ys) ≡ read_bytes xs
      go e f (fault k i) = rw (e, f) refl
      go e f (value h n rest m) =
          let t = (head_range xs (got h n rest) e).tests in
          rw (e, f) (end_same h (records_same h.rig.curves h.tests [] n 1 rest (omega arith)))

pub prefix_reads : (bs : List ℕ) → read_bytes (take 2312 bs) ≡ read_bytes bs
prefix_reads bs = go (dec_le (length bs) 2312)
  where
    go : Dec (length bs ≤ 2312) → read_bytes (take 2312 bs) ≡ read_bytes bs
    go (yes l) = ap read_bytes (take_all 2312 bs l)
    go (no l) = sym (behind_same (drop 2312 bs) (take 2312 bs) (omega (arith, length-take 2312 bs))) ∙ ap read_bytes (take-append-drop 2312 bs)

-- ---- the same of what `read_job` answers and leaves, and of what `write_job` writes
pub prefix_answer : (bs old : List ℕ) → read_job_answer (take 2312 bs) old ≡ read_job_answer bs old
unfolding read_job_answer read_job
prefix_answer bs old = rw (prefix_reads bs) refl

pub prefix_wants : (bs old : List ℕ) → read_job_wants (take 2312 bs) old ≡ read_job_wants bs old
unfolding read_job_wants read_job
prefix_wants bs old = rw (prefix_reads bs) refl

pub answer_figure : (bs old : List ℕ) (k f : ℕ) → read_job_answer bs old ≡ refused k f → (f ≤ 2311) × ((f ≤ length bs) ⊎ ((k ≡ 9) × (f ≤ 256)))
unfolding read_job_answer
answer_figure bs old k f e = job_figure bs (length old) k f (mapped_refused (λ (j : Request). j.head) (read_job bs (length old)) k f e)

pub answer_short : (bs old : List ℕ) (h : Head) → read_job_answer bs old ≡ done h → length bs ≤ 2311
unfolding read_job_answer read_job
answer_short bs old h e =
    let x = mapped_done (λ (j : Request). j.head) (read_job bs (length old)) h e in
    let y = bind_done (read_bytes bs) _ x.0 x.1 in
    job_short bs y.0 y.1

pub written_short : (method : ℕ) (j : Job) (lent : ℕ) (bytes : List ℕ) → write_job method j lent ≡ done bytes → length bytes ≤ 2311
written_short method j lent bytes e = job_short bytes _ (job_back method j lent bytes e)
