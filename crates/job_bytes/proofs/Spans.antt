-- How far a reading goes: from offset i of the whole bytes bs it takes at most w bytes and stays within them, and a refusal's figure points into that part
-- or to its end.
use mathlib.Core.Path.{◌≡◌, refl, sym, ap, subst}
use mathlib.Core.Bool.{Bool, true, false}
use mathlib.Core.List.{List, [], ◌∷◌, ◌++◌}
use Prim.Native.Nat.{ℕ, zero, suc, ◌+◌, ◌-◌, ◌*◌, ◌/◌, ◌%◌, ◌^◌, ◌≤◌}
use native.Mathlib.Omega.{arith}
use native.Mathlib.Decide.{dec_le}
use lib.Dec.{ltb}
use lib.ListN.{length, get_or, drop}
use Rattle.bitset.specs.Set.{◌∪◌, bit}
use Rattle.job.specs.declared.Head.{Head}
use Rattle.job.specs.Refusal.{Outcome, done, refused, ◌>>=◌, ◌>>◌, demand}
use Rattle.job.specs.Handed.{booked_below}
use Rattle.job_bytes.specs.declared.fields.Field.{Field}
use Rattle.job_bytes.specs.SetBytes.{Got, got, byte_at, read_group, read_groups}
use Rattle.job_bytes.specs.JobBytes.{fields, read_number, read_field, read_fields, head_fields, read_head, read_record, read_records}
use Rattle.job.proofs.Laws.{refused≢done, done_same, both_done, bind_done}
use Rattle.job_bytes.proofs.Turns.{byte_there, byte_none}

-- what was read ends at `next`, and `rest` is what stands behind it
pub record Ends (w i : ℕ) (bs : List ℕ) (next : ℕ) (rest : List ℕ) : Type 0 where
  pub after : i ≤ next
  pub most : next ≤ i + w
  pub within : next ≤ length bs
  pub behind : rest ≡ drop next bs

pub data Spans {A : Type 0} (w i : ℕ) (bs : List ℕ) : Outcome (Got A) → Type 0 where
  ends : (g : Got A) → Ends w i bs g.next g.rest → Spans w i bs (done g)
  points : (k f : ℕ) → f ≤ i + w → f ≤ length bs → Spans w i bs (refused k f)

pub span_done : {A : Type 0} {w i : ℕ} {bs : List ℕ} {g : Got A} → Spans w i bs (done g) → Ends w i bs g.next g.rest
span_done (ends g e) = e

pub span_refused : {A : Type 0} {w i : ℕ} {bs : List ℕ} {k f : ℕ} → Spans {A = A} w i bs (refused k f) → (f ≤ i + w) × (f ≤ length bs)
span_refused (points k f p q) = (p, q)

-- ---- one reading after another

wider : {A : Type 0} (w v i : ℕ) {n : ℕ} {bs : List ℕ} {o : Outcome (Got A)} → i ≤ n → n ≤ i + w → Spans v n bs o → Spans (w + v) i bs o
wider w v i l m (ends g s) = ends g (record { after = omega (arith, s.after); most = omega (arith, s.most); within = s.within; behind = s.behind })
wider w v i l m (points k f p q) = points k f (omega arith) q

-- as much as that, or less
pub span_longer : {A : Type 0} {w v i : ℕ} {bs : List ℕ} {o : Outcome (Got A)} → w ≤ v → Spans w i bs o → Spans v i bs o
span_longer l (ends g s) = ends g (record { after = s.after; most = omega (arith, s.most); within = s.within; behind = s.behind })
span_longer l (points k f p q) = points k f (omega arith) q

pub span_bind : {A B : Type 0} (w v : ℕ) {i : ℕ} {bs : List ℕ} {o : Outcome (Got A)} (f : Got A → Outcome (Got B)) → Spans w i bs o
    → ((a : A) (n : ℕ) → i ≤ n → n ≤ length bs → Spans v n bs (f (got a n (drop n bs)))) → Spans (w + v) i bs (◌>>=◌ o f)
unfolding ◌>>=◌
span_bind w v {i} {bs} f (ends g s) h =
    let e : g ≡ got g.value g.next (drop g.next bs) = λ k. record { value = g.value; next = g.next; rest = s.behind k } in
    wider w v i s.after s.most (subst (λ x. Spans v g.next bs (f x)) (sym e) (h g.value g.next s.after s.within))
span_bind w v f (points k i p q) h = points k i (omega arith) q

-- a test on the way
pub span_test : {A : Type 0} {w i : ℕ} {bs : List ℕ} {o : Outcome (Got A)} (t : Bool) (k f : ℕ) → f ≤ i → i ≤ length bs → Spans w i bs o
    → Spans w i bs (◌>>◌ (demand t k f) o)
unfolding ◌>>◌ demand
span_test true k f l m s = s
span_test false k f l m s = points k f (omega arith) (omega arith)

-- nothing more is taken
pub span_stop : {A : Type 0} (i : ℕ) (bs : List ℕ) (a : A) → i ≤ length bs → Spans 0 i bs (done (got a i (drop i bs)))
span_stop i bs a l = ends (got a i (drop i bs)) (record { after = omega arith; most = omega arith; within = l; behind = refl })

-- ---- the readers

-- the bytes of all fields
abbrev pub widths : List Field → ℕ
widths [] = 0
widths (f ∷ fs) = f.width + widths fs

pub width_le : (fs : List Field) (j : ℕ) (d : Field) → (get_or fs j d).width ≤ d.width + widths fs
width_le [] j d = omega arith
width_le (f ∷ fs) zero d = omega arith
width_le (f ∷ fs) (suc j) d = omega (arith, width_le fs j d)

module _ (bs : List ℕ) where
  pub byte_span : (o i : ℕ) → i ≤ length bs → Spans 1 i bs (byte_at o i (drop i bs))
  byte_span o i l = go (dec_le (length bs) i)
    where
      go : Dec (length bs ≤ i) → Spans 1 i bs (byte_at o i (drop i bs))
      go (yes z) = subst (Spans 1 i bs) (sym (byte_none o i i bs z)) (points o i (omega arith) l)
      go (no z) =
          subst (Spans 1 i bs) (sym (byte_there o i i bs (omega arith)))
          (ends _ (record { after = omega arith; most = omega arith; within = omega arith; behind = refl }))

  number_span : (w i : ℕ) → i ≤ length bs → Spans w i bs (read_number w i (drop i bs))
  unfolding read_number
  number_span zero i l = span_stop {A = ℕ} i bs 0 l
  number_span (suc w) i l =
      span_longer (omega arith)
      (span_bind 1 (w + 0) _ (byte_span 1 i l) (λ b n a m. span_bind w 0 _ (number_span w n m) (λ r k a h. span_stop k bs _ h)))

  pub field_span : (f : Field) (d i : ℕ) → i ≤ length bs → Spans f.width i bs (read_field f d i (drop i bs))
  unfolding read_field
  field_span f zero i l = span_longer (omega arith) (span_stop i bs f.absent l)
  field_span f (suc d) i l =
      span_longer (omega arith) (span_bind f.width 0 _ (number_span f.width i l) (λ v n a m. span_test _ 2 i a m (span_stop n bs v m)))

  fields_span : (fs : List Field) (map : ℕ) (vs : List ℕ) (i : ℕ) → i ≤ length bs → Spans (widths fs) i bs (read_fields fs map vs i (drop i bs))
  unfolding read_fields
  fields_span [] map vs i l = span_stop i bs vs l
  fields_span (f ∷ fs) map vs i l = span_bind f.width (widths fs) _ (field_span f (map % 2) i l) (λ v n a m. fields_span fs (map / 2) (vs ++ (v ∷ [])) n m)

  -- a head takes at most 7 bytes
  pub table_span : Spans 7 0 bs (head_fields bs)
  unfolding head_fields fields
  table_span =
      span_bind 1 6 _ (byte_span 1 0 (omega arith))
      (λ map n a m. span_test _ 2 0 (omega arith) m (span_bind 6 0 _ (fields_span fields map [] n m) (λ r n a m. span_stop n bs _ m)))

  pub head_span : Spans 7 0 bs (read_head bs)
  unfolding read_head booked_below
  head_span = span_bind 7 0 _ table_span (λ h n a m. span_test _ 13 (n - 1) (omega arith) m (span_stop n bs h m))

  module _ (owed empty unknown curves : ℕ) where
    group_span : (d j i : ℕ) → i ≤ length bs → Spans 1 i bs (read_group owed empty unknown curves d j i (drop i bs))
    unfolding read_group
    group_span zero j i l = span_longer (omega arith) (span_stop {A = ℕ} i bs 0 l)
    group_span (suc d) j i l =
        span_bind 1 0 _ (byte_span owed i l) (λ b n a m. span_test _ empty i a m (span_test _ unknown i a m (span_stop n bs _ m)))

    pub groups_span : (k j map s i : ℕ) → i ≤ length bs → Spans k i bs (read_groups owed empty unknown curves k j map s i (drop i bs))
    unfolding read_groups
    groups_span zero j map s i l = span_stop i bs s l
    groups_span (suc k) j map s i l =
        span_longer (omega arith) (span_bind 1 k _ (group_span (bit j map) j i l) (λ g n a m. groups_span k (suc j) map (s ∪ g) n m))

  -- a record takes at most 9
  record_span : (curves i : ℕ) → i ≤ length bs → Spans 9 i bs (read_record curves i (drop i bs))
  unfolding read_record
  record_span curves i l = span_bind 1 8 _ (byte_span 1 i l) (λ map n a m. groups_span 1 3 4 curves 8 0 map 0 n m)

  pub records_span : (curves k : ℕ) (wants : List ℕ) (i : ℕ) → i ≤ length bs → Spans (9 * k) i bs (read_records curves k wants i (drop i bs))
  unfolding read_records
  records_span curves zero wants i l = span_stop i bs wants l
  records_span curves (suc k) wants i l =
      span_longer (omega arith) (span_bind 9 (9 * k) _ (record_span curves i l) (λ r n a m. records_span curves k (wants ++ (r ∷ [])) n m))

-- .. and at least its map
pub head_some : (bs : List ℕ) (g : Got Head) → head_fields bs ≡ done g → 1 ≤ g.next
unfolding head_fields byte_at ◌>>=◌
head_some [] g e = absurd (refused≢done e)
head_some (M ∷ bs) g e =
    let m = both_done (demand (ltb M (2 ^ length fields)) 2 0) _ g e in
    let x = bind_done (read_fields fields M [] 1 bs) _ g m.1 in
    let s = span_done (subst (Spans (widths fields) 1 (M ∷ bs)) x.1 (fields_span (M ∷ bs) fields M [] 1 (omega arith))) in
    omega (arith, s.after, ap (λ (g : Got Head). g.next) (done_same x.2))
