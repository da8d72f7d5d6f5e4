-- 02, wish 8: "Old job files with method 2 still read, as method 1": whatever the bytes, they are read as those with 1 in the place of a method byte 2. And
-- what the bytes of a head become so.
use mathlib.Core.Path.{◌≡◌, refl, sym, ap, ◌∙◌}
use mathlib.Core.Bool.{Bool, true, false, cond}
use mathlib.Core.List.{List, [], ◌∷◌, ◌++◌, append_assoc, zip_with, flatten}
use Prim.Native.Nat.{ℕ, zero, suc, ◌+◌, ◌*◌, ◌/◌, ◌%◌, ◌^◌, ◌≤◌, ◌<◌}
use native.Mathlib.Omega.{arith}
use lib.ListN.{length, get_or, take, drop, set, length-append, length-set}
use lib.Seq.{get_or-append_seam, set_at}
use lib.Dec.{ltb, eqb}
use native.Mathlib.Nat.{mod-eq_of_lt}
use borrow.Author.Tests.{eqb-true, ne_eqb}
use Rattle.bitset.specs.Set.{bit}
use Rattle.bitset.proofs.Bits.{bit_zero, bit_suc}
use Rattle.job.specs.declared.Head.{Head}
use Rattle.job.specs.Refusal.{Outcome, done, refused, ◌>>=◌, ◌>>◌, demand}
use Rattle.job.specs.Handed.{between}
use Rattle.job_bytes.specs.declared.fields.Field.{Field}
use Rattle.job_bytes.specs.SetBytes.{Got, got, byte_at}
use Rattle.job_bytes.specs.JobBytes.{Request, fields, method_read, head_of, read_number, read_field, read_fields, head_fields, read_head, read_bytes}
use Rattle.job_bytes.specs.JobBytes.{read_records, at_end, number_bytes, head_bytes}
use Rattle.job_bytes.specs.OldFiles.{method_at, old_method, upgraded}
use Rattle.job.proofs.Laws.{both, both_done, bind_done, done_same}
use Rattle.job_bytes.proofs.SetRoundTrip.{Bytes}
use Rattle.job_bytes.proofs.Alike.{Apart, apart_set, apart_first, Alike, value, fault, field_alike}
use Rattle.job_bytes.proofs.JobWritten.{number_length}
use Rattle.job_bytes.proofs.HeadRoundTrip.{bit_of, bytes_of, fields_map, fields_bytes, head_bytes_lem, fields_append, bit_le, standing, method_le, head_read}

-- ---- where the method byte stands

-- how many bytes fields take by a map, and the map of those behind them
abbrev due : List Field → ℕ → ℕ
due [] map = 0
due (f ∷ fs) map = map % 2 * f.width + due fs (map / 2)

abbrev map_behind : List Field → ℕ → ℕ
map_behind [] map = map
map_behind (f ∷ fs) map = map_behind fs (map / 2)

-- behind the map and the first three fields ..
at_method : (map : ℕ) → method_at map ≡ suc (due (take 3 fields) map)
unfolding method_at fields
at_method map = sum (bit_zero map) (bit_suc 0 map ∙ bit_zero (map / 2)) (bit_suc 1 map ∙ bit_suc 0 (map / 2) ∙ bit_zero (map / 2 / 2))
  where
    sum : {x y z a b c : ℕ} → x ≡ a → y ≡ b → z ≡ c → 1 + x + y + 2 * z ≡ suc (a * 1 + (b * 1 + (c * 2 + 0)))
    sum p q r = omega arith

-- .. if the bit behind theirs stands
third_bit : (map : ℕ) → bit 3 map ≡ map_behind (take 3 fields) map % 2
unfolding fields
third_bit map = bit_suc 2 map ∙ bit_suc 1 (map / 2) ∙ bit_suc 0 (map / 2 / 2) ∙ bit_zero (map / 2 / 2 / 2)

-- ---- read alike

-- the head of what the fields come to
head_from : Outcome (Got (List ℕ)) → Outcome (Got Head)
head_from o = ◌>>=◌ o (λ r. done (got (head_of r.value) r.next r.rest))

-- fields fs whose bytes come before the place, and fields gs from there on
fields_alike : (fs gs : List Field) (map : ℕ) (vs : List ℕ) (i : ℕ) (r s : List ℕ) → Apart (due fs map) r s
    → ((us : List ℕ) (i : ℕ) (t : List ℕ) → length us ≡ length vs + length fs
    → head_from (read_fields gs (map_behind fs map) us i (2 ∷ t)) ≡ head_from (read_fields gs (map_behind fs map) us i (1 ∷ t)))
    → head_from (read_fields (fs ++ gs) map vs i r) ≡ head_from (read_fields (fs ++ gs) map vs i s)
unfolding read_fields
fields_alike [] gs map vs i r s p h =
    apart_first (λ r s. head_from (read_fields gs map vs i r) ≡ head_from (read_fields gs map vs i s)) (λ t. h vs i t (omega arith)) p
fields_alike (f ∷ fs) gs map vs i r s p h =
    go (λ v i r s p. fields_alike fs gs (map / 2) (vs ++ (v ∷ [])) i r s p (λ us i t l. h us i t (omega (arith, l, length-append vs (v ∷ [])))))
    (field_alike f (map % 2) i (due fs (map / 2)) r s (omega arith) p)
  where
    go : ((v i : ℕ) (r s : List ℕ) → Apart (due fs (map / 2)) r s
        → head_from (read_fields (fs ++ gs) (map / 2) (vs ++ (v ∷ [])) i r) ≡ head_from (read_fields (fs ++ gs) (map / 2) (vs ++ (v ∷ [])) i s))
        → {o q : Outcome (Got ℕ)} → Alike (due fs (map / 2)) o q
        → head_from (◌>>=◌ o (λ v. read_fields (fs ++ gs) (map / 2) (vs ++ (v.value ∷ [])) v.next v.rest))
        ≡ head_from (◌>>=◌ q (λ v. read_fields (fs ++ gs) (map / 2) (vs ++ (v.value ∷ [])) v.next v.rest))
    go more (value v i r s p) = unfold ◌>>=◌ in more v i r s p
    go more (fault k i) = unfold ◌>>=◌ head_from in refl

-- the method, and the booked places behind it: of the values before them there are three
method_alike : (map a b c i : ℕ) (t : List ℕ) → map % 2 ≡ 1
    → head_from (read_fields (drop 3 fields) map (a ∷ b ∷ c ∷ []) i (2 ∷ t)) ≡ head_from (read_fields (drop 3 fields) map (a ∷ b ∷ c ∷ []) i (1 ∷ t))
unfolding head_from fields read_fields read_field read_number byte_at between method_read demand ◌>>=◌ ◌>>◌
method_alike map a b c i t e = rw e (go (read_field (record { width = 1; low = 1; high = 63; absent = 0 }) (map / 2 % 2) (suc i) t))
  where
    go : (o : Outcome (Got ℕ))
        → head_from (◌>>=◌ o (λ v. done (got (a ∷ b ∷ c ∷ 2 ∷ v.value ∷ []) v.next v.rest)))
        ≡ head_from (◌>>=◌ o (λ v. done (got (a ∷ b ∷ c ∷ 1 ∷ v.value ∷ []) v.next v.rest)))
    go (done v) = refl
    go (refused k f) = refl

three_alike : (map : ℕ) (us : List ℕ) (i : ℕ) (t : List ℕ) → map % 2 ≡ 1 → length us ≡ 3
    → head_from (read_fields (drop 3 fields) map us i (2 ∷ t)) ≡ head_from (read_fields (drop 3 fields) map us i (1 ∷ t))
three_alike map [] i t e l = absurd (omega arith)
three_alike map (a ∷ []) i t e l = absurd (omega arith)
three_alike map (a ∷ b ∷ []) i t e l = absurd (omega arith)
three_alike map (a ∷ b ∷ c ∷ []) i t e l = method_alike map a b c i t e
three_alike map (a ∷ b ∷ c ∷ d ∷ us) i t e l = absurd (omega arith)

head_alike : (map : ℕ) (r s : List ℕ) → bit 3 map ≡ 1 → Apart (due (take 3 fields) map) r s → head_fields (map ∷ r) ≡ head_fields (map ∷ s)
unfolding head_fields head_from fields byte_at ◌>>=◌
head_alike map r s e p =
    ap (◌>>◌ (demand (ltb map (2 ^ length fields)) 2 0))
    (fields_alike (take 3 fields) (drop 3 fields) map [] 1 r s p
    (λ us i t l. three_alike (map_behind (take 3 fields) map) us i t (sym (third_bit map) ∙ e) l))

old_parts : (map : ℕ) (bs : List ℕ) → old_method (map ∷ bs) ≡ true → (bit 3 map ≡ 1) × (get_or bs (due (take 3 fields) map) 0 ≡ 2)
unfolding old_method
old_parts map bs e =
    let b = both (eqb (bit 3 map) 1) (eqb (get_or (map ∷ bs) (method_at map) 0) 2) e in
    (eqb-true (bit 3 map) 1 b.0, rw (at_method map) at (eqb-true (get_or (map ∷ bs) (method_at map) 0) 2 b.1))

old_head : (bs : List ℕ) → head_fields bs ≡ head_fields (upgraded bs)
unfolding upgraded
old_head [] = unfold old_method in refl
old_head (map ∷ bs) = go (old_method (map ∷ bs)) refl
  where
    go : (t : Bool) → old_method (map ∷ bs) ≡ t → head_fields (map ∷ bs) ≡ head_fields (cond t (set (map ∷ bs) (method_at map) 1) (map ∷ bs))
    go true e =
        let b = old_parts map bs e in
        let n = due (take 3 fields) map in
        rw (at_method map) (head_alike map bs (set bs n 1) b.0 (apart_set bs n b.1))
    go false e = refl

-- EVERY LIST OF BYTES is read as the one with 1 in the place of a method byte 2
pub old_read : (bs : List ℕ) → read_bytes bs ≡ read_bytes (upgraded bs)
unfolding read_bytes read_head
old_read bs = rw (← (old_head bs)) refl

-- ---- the bytes of a head, of which the method's value is v

pub upgraded_length : (bs : List ℕ) → length (upgraded bs) ≡ length bs
unfolding upgraded
upgraded_length bs = go (old_method bs)
  where
    go : (t : Bool) → length (cond t (set bs (method_at (get_or bs 0 0)) 1) bs) ≡ length bs
    go true = length-set bs (method_at (get_or bs 0 0)) 1
    go false = refl

-- no method byte
none_old : (map : ℕ) (bs : List ℕ) → bit 3 map ≡ 0 → old_method (map ∷ bs) ≡ false
unfolding old_method
none_old map bs e = rw e refl

-- a method byte behind the front
module _ (map : ℕ) (front tail : List ℕ) (third : bit 3 map ≡ 1) (at : method_at map ≡ suc (length front)) where
  old_at : (v : ℕ) → old_method ((map ∷ front) ++ v ∷ tail) ≡ eqb v 2
  unfolding old_method
  old_at v = rw (third, at, get_or-append_seam front v tail 0) refl

  upgraded_at : upgraded ((map ∷ front) ++ 2 ∷ tail) ≡ (map ∷ front) ++ 1 ∷ tail
  unfolding upgraded
  upgraded_at = rw (old_at 2, at, set_at front 2 tail 1 (length front) refl) refl

upgraded_new : (bs : List ℕ) → old_method bs ≡ false → upgraded bs ≡ bs
unfolding upgraded
upgraded_new bs e = rw e refl

-- of the values of any table of fields
own_length : (f : Field) (v : ℕ) → length (bytes_of f v) ≡ bit_of f v * f.width
own_length f v = go (eqb v f.absent)
  where
    go : (t : Bool) → length (cond t [] (number_bytes f.width v)) ≡ cond t 0 1 * f.width
    go true = omega arith
    go false = number_length f.width v ∙ omega arith

fields_due : (fs gs : List Field) (vs ws : List ℕ) → length fs ≡ length vs → let map = fields_map (fs ++ gs) (vs ++ ws) in
    (due fs map ≡ length (fields_bytes fs vs)) × (map_behind fs map ≡ fields_map gs ws)
unfolding fields_map fields_bytes zip_with flatten
fields_due [] gs [] ws l = (refl, refl)
fields_due [] gs (v ∷ vs) ws l = absurd (omega (arith, l))
fields_due (f ∷ fs) gs [] ws l = absurd (omega (arith, l))
fields_due (f ∷ fs) gs (v ∷ vs) ws l =
    let map = fields_map (fs ++ gs) (vs ++ ws) in
    let r = fields_due fs gs vs ws (omega (arith, l)) in
    let b = bit_le (eqb v f.absent) in
    let d : (bit_of f v + 2 * map) % 2 ≡ bit_of f v = omega arith in
    let e : (bit_of f v + 2 * map) / 2 ≡ map = omega arith in
    (rw (d, e, length-append (bytes_of f v) (fields_bytes fs vs), own_length f v, r.0) refl, rw e r.1)

module _ (h : Head) where
  -- the map, and the bytes before the method's and behind it
  abbrev map_of : ℕ → ℕ
  map_of m = fields_map fields (standing h m)

  abbrev firsts : List ℕ
  firsts = h.rig.places ∷ h.rig.curves ∷ h.tests ∷ []

  abbrev front : List ℕ
  front = fields_bytes (take 3 fields) firsts

  abbrev tail : List ℕ
  tail = fields_bytes (drop 4 fields) (h.rig.booked ∷ [])

  by_parts : (m : ℕ)
      → (due (take 3 fields) (map_of m) ≡ length front) × (map_behind (take 3 fields) (map_of m) ≡ fields_map (drop 3 fields) (m ∷ h.rig.booked ∷ []))
  unfolding fields
  by_parts m = fields_due (take 3 fields) (drop 3 fields) firsts (m ∷ h.rig.booked ∷ []) refl

  at_front : (m : ℕ) → method_at (map_of m) ≡ suc (length front)
  at_front m = at_method (map_of m) ∙ ap suc (by_parts m).0

  stands : (m : ℕ) → bit 3 (map_of m) ≡ cond (eqb m 0) 0 1
  unfolding fields fields_map zip_with
  stands m = third_bit (map_of m) ∙ ap (λ (n : ℕ). n % 2) (by_parts m).1 ∙ low (cond (eqb m 0) 0 1) _ (bit_le (eqb m 0))
    where
      low : (x r : ℕ) → x ≤ 1 → (x + 2 * r) % 2 ≡ x
      low x r l = omega arith

  head_parted : (m : ℕ) (rest : List ℕ)
      → head_bytes (standing h m) ++ rest ≡ (map_of m ∷ front) ++ (fields_bytes (drop 3 fields) (m ∷ h.rig.booked ∷ []) ++ rest)
  unfolding fields
  head_parted m rest =
      let bs = fields_bytes (drop 3 fields) (m ∷ h.rig.booked ∷ []) in
      ap (λ (l : List ℕ). l ++ rest)
      (head_bytes_lem (standing h m) ∙ ap {B = List ℕ} (λ l. map_of m ∷ l) (fields_append (take 3 fields) (drop 3 fields) firsts (m ∷ h.rig.booked ∷ []) refl))
      ∙ append_assoc (map_of m ∷ front) bs rest

  head_at : (v : ℕ) (rest : List ℕ) → 0 < v → v < 256 → head_bytes (standing h v) ++ rest ≡ (map_of v ∷ front) ++ v ∷ (tail ++ rest)
  unfolding fields fields_bytes zip_with flatten number_bytes
  head_at v rest some small = head_parted v rest ∙ rw (ne_eqb v 0 (λ e. omega arith), mod-eq_of_lt small) refl

  -- which of the bytes of a head are old: those with the value 2
  pub head_old : (m : ℕ) (rest : List ℕ) → m ≤ 3 → old_method (head_bytes (standing h m) ++ rest) ≡ eqb m 2
  head_old zero rest l = ap old_method (head_parted 0 rest) ∙ none_old (map_of 0) _ (stands 0)
  head_old (suc m) rest l =
      let one : bit 3 (map_of (suc m)) ≡ 1 = stands (suc m) ∙ rw (ne_eqb (suc m) 0 (λ e. omega arith)) refl in
      ap old_method (head_at (suc m) rest (omega arith) (omega arith)) ∙ old_at (map_of (suc m)) front (tail ++ rest) one (at_front (suc m)) (suc m)

  -- .. and what they become
  pub head_upgraded : (m : ℕ) (rest : List ℕ) → m ≤ 3 → upgraded (head_bytes (standing h m) ++ rest) ≡ head_bytes (standing h (method_read m)) ++ rest
  unfolding method_read fields fields_map zip_with
  head_upgraded zero rest l = upgraded_new _ (head_old 0 rest l)
  head_upgraded (suc zero) rest l = upgraded_new _ (head_old 1 rest l)
  head_upgraded (suc (suc zero)) rest l =
      ap upgraded (head_at 2 rest (omega arith) (omega arith)) ∙ upgraded_at (map_of 2) front (tail ++ rest) (stands 2) (at_front 2)
      ∙ sym (head_at 1 rest (omega arith) (omega arith))
  head_upgraded (suc (suc (suc zero))) rest l = upgraded_new _ (head_old 3 rest l)
  head_upgraded (suc (suc (suc (suc m)))) rest l = absurd (omega arith)

-- THE METHOD THAT IS READ of a method byte 2 is 1
pub old_method_lem : (bs : List ℕ) (q : Request) → Bytes bs → read_bytes bs ≡ done q → old_method bs ≡ true → q.head.method ≡ 1
unfolding read_bytes method_read
old_method_lem bs q all e old =
    let x = bind_done (read_head bs) _ q e in
    let h = x.0.value in
    let t = head_read bs x.0 x.1 in
    let m = t.method in
    let two : m ≡ 2 = eqb-true m 2 (sym (head_old h m x.0.rest (method_le h m t.have)) ∙ ap old_method (sym (t.exact all).0) ∙ old) in
    let y = bind_done (read_records h.rig.curves h.tests [] x.0.next x.0.rest) _ q x.2 in
    let z = both_done (at_end 6 y.0.next y.0.rest) (done (record { head = h; wants = y.0.value })) q y.2 in
    ap (λ (q : Request). q.head.method) (sym (done_same z.1)) ∙ t.read ∙ ap method_read two
