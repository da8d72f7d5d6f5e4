-- "Writing and reading undo each other for every job that reads": job bytes; and 02, wish 8: "Reading back and writing are exact for every other job" than an
-- old one with method 2, which is "written back with 1".
use mathlib.Core.Path.{◌≡◌, refl, sym, ap, ◌∙◌, subst}
use mathlib.Core.List.{List, [], ◌∷◌, ◌++◌, append_assoc, append-nil}
use Prim.Native.Nat.{ℕ, zero, suc, ◌+◌, ◌^◌, ◌≤◌, ◌<◌}
use native.Mathlib.Omega.{arith}
use lib.ListN.{length, get_or, length-append}
use Rattle.job.specs.declared.Head.{Head}
use Rattle.job.specs.Refusal.{done, ◌>>=◌, ◌>>◌, room}
use Rattle.job.specs.Handed.{job_known_by}
use Rattle.job_bytes.specs.SetBytes.{group_map, group_bytes, set_bytes, Got, got, byte_at}
use Rattle.job_bytes.specs.JobBytes.{Request, job_in, request, values_of, read_head, read_record, read_records, at_end, read_bytes, head_bytes, record_bytes}
use Rattle.job_bytes.specs.JobBytes.{job_bytes, write_job}
use Rattle.job_bytes.specs.OldFiles.{upgraded}
use Rattle.job.proofs.Laws.{done_same, refused≢done, both_done, done_both, bind_done, done_room}
use Rattle.job.specs.Words.{Job, job_of, IsJob}
use Rattle.job.proofs.JobExact.{job_by_exact}
use Rattle.job_bytes.proofs.SetRoundTrip.{set_back, Bytes, SetRead, set_read}
use Rattle.job_bytes.proofs.HeadRoundTrip.{InRange, range_in, standing, method_le, head_range, head_back, head_read}
use Rattle.job_bytes.proofs.OldFiles.{upgraded_length, head_upgraded}

-- ---- written, then read

-- the records
module _ (curves : ℕ) (few : curves ≤ 64) where
  record_back : (i w : ℕ) (rest : List ℕ) → w < 2 ^ curves → read_record curves i (set_bytes w ++ rest) ≡ done (got w (i + length (set_bytes w)) rest)
  unfolding read_record set_bytes byte_at ◌>>=◌
  record_back i w rest h =
      let n : suc i + length (group_bytes 8 w) ≡ i + suc (length (group_bytes 8 w)) = omega arith in
      set_back 1 3 4 curves (suc i) w rest few h ∙ rw n refl

  records_back : (i : ℕ) (acc ws : List ℕ) (rest : List ℕ) → ((t : ℕ) → t < length ws → get_or ws t 0 < 2 ^ curves)
      → read_records curves (length ws) acc i (record_bytes ws ++ rest) ≡ done (got (acc ++ ws) (i + length (record_bytes ws)) rest)
  unfolding read_records record_bytes ◌>>=◌
  records_back i acc [] rest h =
      let n : i ≡ i + 0 = omega arith in
      rw (append-nil acc, ← n) refl
  records_back i acc (w ∷ ws) rest h =
      let n : i + length (set_bytes w) + length (record_bytes ws) ≡ i + length (set_bytes w ++ record_bytes ws) = simp length-append (omega arith) in
      rw (append_assoc (set_bytes w) (record_bytes ws) rest, record_back i w (record_bytes ws ++ rest) (h 0 (omega arith)))
      (records_back (i + length (set_bytes w)) (acc ++ (w ∷ [])) ws rest (λ t l. h (suc t) (omega arith)) ∙ rw (n, append_assoc acc (w ∷ []) ws) refl)

-- A JOB THAT IS WRITTEN READS BACK
pub job_back : (method : ℕ) (j : Job) (lent : ℕ) (bytes : List ℕ) → write_job method j lent ≡ done bytes → read_bytes bytes ≡ done (request method j)
unfolding write_job read_bytes job_bytes at_end ◌>>=◌ ◌>>◌
job_back method j lent bytes e =
    let a = both_done (job_known_by method j) _ bytes e in
    let b = both_done (room lent (length (job_bytes (request method j)))) (done (job_bytes (request method j))) bytes a.1 in
    let s : job_bytes (request method j) ≡ bytes = same b.1 in
    subst (λ (bs : List ℕ). read_bytes bs ≡ done (request method j)) s (go a.0)
  where
    same : {x y : List ℕ} → done x ≡ done y → x ≡ y
    same e = cc

    go : job_known_by method j ≡ done tt → read_bytes (job_bytes (request method j)) ≡ done (request method j)
    go k =
        let x = (job_by_exact j method).0 k in
        let h = (request method j).head in
        let ok : InRange h =
        record { places = x.0.places_bounds; booked = x.0.booked_bound; curves = x.0.curves_bounds; tests = x.0.tests_bound; method = x.1 } in
        let z : record_bytes j.wants ≡ record_bytes j.wants ++ [] = sym (append-nil (record_bytes j.wants)) in
        let r = records_back j.rig.curves x.0.curves_bounds.1 (length (head_bytes (values_of h))) [] j.wants [] x.0.own_curves in
        rw (head_back h (record_bytes j.wants) (range_in h ok) x.1.1 ok.booked, z, r) refl

-- ---- read, then written

record RecordsRead (curves k : ℕ) (acc bs : List ℕ) (g : Got (List ℕ)) : Type 0 where
  wants : List ℕ
  count : length wants ≡ k
  value : g.value ≡ acc ++ wants
  bytes : bs ≡ record_bytes wants ++ g.rest
  known : (t : ℕ) → t < length wants → get_or wants t 0 < 2 ^ curves
  tail : Bytes g.rest

records_read : (curves k i : ℕ) (acc bs : List ℕ) (g : Got (List ℕ)) → Bytes bs → read_records curves k acc i bs ≡ done g → RecordsRead curves k acc bs g
unfolding read_records record_bytes read_record byte_at set_bytes ◌>>=◌
records_read curves zero i acc bs g all e =
    subst (RecordsRead curves zero acc bs) (done_same e)
    (record { wants = []; count = refl; value = sym (append-nil acc); bytes = refl; known = λ t l. absurd (omega arith); tail = all })
records_read curves (suc k) i acc bs g all e =
    let x = bind_done (read_record curves i bs) _ g e in
    let s = record_read i bs x.0 all x.1 in
    let r : RecordsRead curves k (acc ++ (x.0.value ∷ [])) x.0.rest g =
    records_read curves k x.0.next (acc ++ (x.0.value ∷ [])) x.0.rest g s.2 x.2 in
    record {
      wants = x.0.value ∷ r.wants;
      count = ap suc r.count;
      value = r.value ∙ append_assoc acc (x.0.value ∷ []) r.wants;
      bytes = s.0 ∙ ap (λ (l : List ℕ). set_bytes x.0.value ++ l) r.bytes
          ∙ sym (append_assoc (set_bytes x.0.value) (record_bytes r.wants) g.rest);
      known = each_known x.0.value r.wants s.1 r.known;
      tail = r.tail;
    }
  where
    record_read : (i : ℕ) (bs : List ℕ) (g : Got ℕ) → Bytes bs → read_record curves i bs ≡ done g
        → (bs ≡ set_bytes g.value ++ g.rest) × (g.value < 2 ^ curves) × Bytes g.rest
    record_read i [] g all e = absurd (refused≢done e)
    record_read i (M ∷ bs) g all e =
        let s : SetRead curves M (suc i) bs g = set_read 1 3 4 curves M (suc i) bs g all.0 all.1 e in
        (ap {B = List ℕ} (λ x. x ∷ bs) (sym s.map) ∙ ap {B = List ℕ} (λ l. group_map 8 g.value ∷ l) s.bytes, s.known, s.tail)

    each_known : (w : ℕ) (ws : List ℕ) → w < 2 ^ curves → ((t : ℕ) → t < length ws → get_or ws t 0 < 2 ^ curves) → (t : ℕ) → t < suc (length ws)
        → get_or (w ∷ ws) t 0 < 2 ^ curves
    each_known w ws h r zero l = h
    each_known w ws h r (suc t) l = r t (omega arith)

pub end_none : (k i : ℕ) (bs : List ℕ) → at_end k i bs ≡ done tt → bs ≡ []
unfolding at_end
end_none k i [] e = refl
end_none k i (b ∷ bs) e = absurd (refused≢done e)

job_written : (h : Head) (ws bs : List ℕ) → InRange h → length ws ≡ h.tests → ((t : ℕ) → t < length ws → get_or ws t 0 < 2 ^ h.rig.curves)
    → bs ≡ head_bytes (values_of h) ++ record_bytes ws → write_job h.method (job_of h.rig ws) (length bs) ≡ done bs
unfolding write_job job_bytes
job_written h ws bs ok count known bytes =
    done_both _ _ ((job_by_exact (job_of h.rig ws) h.method).1 (is_job, ok.method))
    ∙ done_both _ _ (done_room (length bs) (length (job_bytes (request h.method (job_of h.rig ws)))) (omega (arith, ap length same)))
    ∙ ap done same
  where
    is_job : IsJob (job_of h.rig ws)
    is_job =
        record {
          places_bounds = ok.places;
          booked_bound = ok.booked;
          curves_bounds = ok.curves;
          tests_bound = omega (arith, ok.tests);
          own_curves = known;
        }

    head : ◌≡◌ {A = Head} (record { rig = h.rig; tests = length ws; method = h.method }) h
    head i = record { rig = h.rig; tests = count i; method = h.method }

    same : job_bytes (request h.method (job_of h.rig ws)) ≡ bs
    same = ap (λ (x : Head). head_bytes (values_of x) ++ record_bytes ws) head ∙ sym bytes

job_found : (h : Head) (bs rest : List ℕ) (g : Got (List ℕ)) → InRange h → upgraded bs ≡ head_bytes (values_of h) ++ rest
    → RecordsRead h.rig.curves h.tests [] rest g → g.rest ≡ []
    → write_job h.method (job_of h.rig g.value) (length bs) ≡ done (upgraded bs)
job_found h bs rest g ok bytes r none =
    rw (r.value, ← (upgraded_length bs))
    (job_written h r.wants (upgraded bs) ok r.count r.known
    (bytes ∙ ap (λ (l : List ℕ). head_bytes (values_of h) ++ l)
    (r.bytes ∙ ap (λ (l : List ℕ). record_bytes r.wants ++ l) none ∙ append-nil (record_bytes r.wants))))

-- BYTES THAT READ AS A JOB are those that are written for it, with 1 in the place of a method byte 2
pub job_read : (bs : List ℕ) (q : Request) → Bytes bs → read_bytes bs ≡ done q → write_job q.head.method (job_in q) (length bs) ≡ done (upgraded bs)
unfolding read_bytes
job_read bs q all e =
    let x = bind_done (read_head bs) _ q e in
    let t = head_read bs x.0 x.1 in
    let H = t.exact all in
    let h = x.0.value in
    let bytes : upgraded bs ≡ head_bytes (values_of h) ++ x.0.rest =
    ap upgraded H.0 ∙ head_upgraded h t.method x.0.rest (method_le h t.method t.have)
    ∙ ap (λ (m : ℕ). head_bytes (standing h m) ++ x.0.rest) (sym t.read) in
    let y = bind_done (read_records h.rig.curves h.tests [] x.0.next x.0.rest) _ q x.2 in
    let R : RecordsRead h.rig.curves h.tests [] x.0.rest y.0 =
    records_read h.rig.curves h.tests x.0.next [] x.0.rest y.0 H.1 y.1 in
    let z = both_done (at_end 6 y.0.next y.0.rest) (done (record { head = h; wants = y.0.value })) q y.2 in
    subst (λ (q : Request). write_job q.head.method (job_in q) (length bs) ≡ done (upgraded bs)) (done_same z.1)
    (job_found h bs x.0.rest y.0 (head_range bs x.0 x.1) bytes R (end_none 6 y.0.next y.0.rest z.0))
