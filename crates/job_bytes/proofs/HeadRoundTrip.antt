-- The head, by induction over the table of fields: what is written reads back, and what reads is what is written.
use mathlib.Core.Path.{◌≡◌, refl, sym, ap, ◌∙◌, subst}
use mathlib.Core.Logic.{◌⊎◌, inl, inr}
use mathlib.Core.Bool.{Bool, true, false, cond, not, ◌&&◌}
use mathlib.Core.List.{List, [], ◌∷◌, ◌++◌, foldr, zip_with, flatten, append_assoc, append-nil}
use Prim.Native.Nat.{ℕ, zero, suc, ◌+◌, ◌-◌, ◌*◌, ◌/◌, ◌%◌, ◌^◌, ◌≤◌, ◌<◌}
use native.Mathlib.Omega.{arith}
use native.Mathlib.Nat.{pow-succ'}
use native.Mathlib.Decide.{ℕ_discrete}
use lib.Dec.{leb, ltb, eqb}
use lib.Pow.{pow-add}
use lib.ListN.{length, get_or, length-append}
use borrow.Author.Tests.{ltb-true, leb-true, lt-ltb, le-leb, eq-eqb, ne_eqb, not-true}
use Rattle.job.specs.declared.Head.{Head}
use Rattle.job.specs.Refusal.{done, ◌>>=◌, ◌>>◌, demand}
use Rattle.job.specs.Handed.{between, booked_below}
use Rattle.job.specs.Words.{IsMethod}
use Rattle.job_bytes.specs.declared.fields.Field.{Field}
use Rattle.job_bytes.specs.SetBytes.{Got, got, byte_at}
use Rattle.job_bytes.specs.JobBytes.{fields, method_read, head_of, values_of, read_number, read_field, read_fields, head_fields, read_head, number_bytes}
use Rattle.job_bytes.specs.JobBytes.{head_bytes}
use Rattle.job.proofs.Laws.{both, done_same, refused≢done, demand_true, both_done, bind_done}
use Rattle.job_bytes.proofs.SetRoundTrip.{Bytes}

-- ---- the rule's tests, bits and bytes, by name, over any table

unfoldable pub holds : Field → ℕ → Bool
holds f v = between f.low f.high v && not (eqb v f.absent)

abbrev pub bit_of : Field → ℕ → ℕ
bit_of f v = cond (eqb v f.absent) 0 1

abbrev pub bytes_of : Field → ℕ → List ℕ
bytes_of f v = cond (eqb v f.absent) [] (number_bytes f.width v)

unfoldable pub fields_map : List Field → List ℕ → ℕ
fields_map fs vs = foldr (λ b map. b + 2 * map) 0 (zip_with bit_of fs vs)

unfoldable pub fields_bytes : List Field → List ℕ → List ℕ
fields_bytes fs vs = flatten (zip_with bytes_of fs vs)

pub head_bytes_lem : (vs : List ℕ) → head_bytes vs ≡ fields_map fields vs ∷ fields_bytes fields vs
unfolding head_bytes fields_map fields_bytes
head_bytes_lem vs = refl

pub fields_append : (fs gs : List Field) (vs ws : List ℕ) → length fs ≡ length vs
    → fields_bytes (fs ++ gs) (vs ++ ws) ≡ fields_bytes fs vs ++ fields_bytes gs ws
unfolding fields_bytes zip_with flatten
fields_append [] gs [] ws l = refl
fields_append [] gs (v ∷ vs) ws l = absurd (omega (arith, l))
fields_append (f ∷ fs) gs [] ws l = absurd (omega (arith, l))
fields_append (f ∷ fs) gs (v ∷ vs) ws l =
    ap (λ (bs : List ℕ). bytes_of f v ++ bs) (fields_append fs gs vs ws (omega (arith, l)))
    ∙ sym (append_assoc (bytes_of f v) (fields_bytes fs vs) (fields_bytes gs ws))

-- ---- what a field can have: its absent value, or one that it holds

abbrev pub Has : Field → ℕ → Type 0
Has f v = (v ≡ f.absent) ⊎ (holds f v ≡ true)

abbrev pub AllHave : List Field → List ℕ → Type 0
AllHave [] [] = Unit {0}
AllHave [] (v ∷ vs) = ⊥
AllHave (f ∷ fs) [] = ⊥
AllHave (f ∷ fs) (v ∷ vs) = Has f v × AllHave fs vs

held : (f : Field) (v : ℕ) → holds f v ≡ true → (f.low ≤ v) × (v ≤ f.high) × (eqb v f.absent ≡ false)
unfolding holds between
held f v e =
    let a = both (leb f.low v && leb v f.high) (not (eqb v f.absent)) e in
    let b = both (leb f.low v) (leb v f.high) a.0 in
    (leb-true f.low v b.0, leb-true v f.high b.1, not-true (eqb v f.absent) a.1)

pub within : (f : Field) (v low high : ℕ) → (low ≤ f.absent) × (f.absent ≤ high) → (low ≤ f.low) × (f.high ≤ high) → Has f v → (low ≤ v) × (v ≤ high)
within f v low high a r (inl e) = (omega arith, omega arith)
within f v low high a r (inr e) = let h = held f v e in (omega arith, omega arith)

has : (f : Field) (v : ℕ) → ((v ≡ f.absent → ⊥) → (f.low ≤ v) × (v ≤ f.high)) → Has f v
has f v h = go (ℕ_discrete v f.absent)
  where
    go : Dec (v ≡ f.absent) → Has f v
    go (yes e) = inl e
    go (no n) = inr (unfold holds between in (rw (le-leb f.low v (h n).0, le-leb v f.high (h n).1, ne_eqb v f.absent n) refl))

-- the range of each field is below what its bytes hold
abbrev Wide : List Field → Type 0
Wide [] = Unit {0}
Wide (f ∷ fs) = (f.high < 2 ^ (8 * f.width)) × Wide fs

-- ---- written, then read

number_back : (w i v : ℕ) (rest : List ℕ) → v < 2 ^ (8 * w) → read_number w i (number_bytes w v ++ rest) ≡ done (got v (i + length (number_bytes w v)) rest)
unfolding read_number number_bytes byte_at ◌>>=◌
number_back zero i v rest h =
    let z : v ≡ 0 = omega arith in
    let n : i ≡ i + 0 = omega arith in
    rw (z, ← n) refl
number_back (suc w) i v rest h =
    let e : 8 * suc w ≡ 8 + 8 * w = omega arith in
    let s : v / 256 < 2 ^ (8 * w) = omega (arith, rw (e, pow-add 2 8 (8 * w)) at h) in
    let d : v % 256 + 256 * (v / 256) ≡ v = omega arith in
    let n : suc i + length (number_bytes w (v / 256)) ≡ i + suc (length (number_bytes w (v / 256))) = omega arith in
    rw (number_back w (suc i) (v / 256) rest s, d, n) refl

field_back : (f : Field) (i v : ℕ) (rest : List ℕ) → f.high < 2 ^ (8 * f.width) → Has f v
    → read_field f (bit_of f v) i (bytes_of f v ++ rest) ≡ done (got v (i + length (bytes_of f v)) rest)
unfolding holds read_field demand ◌>>=◌ ◌>>◌
field_back f i v rest wide (inl e) =
    let n : i ≡ i + 0 = omega arith in
    rw (eq-eqb v f.absent e, e, ← n) refl
field_back f i v rest wide (inr e) =
    let h = held f v e in
    rw (h.2, number_back f.width i v rest (omega arith), e) refl

pub bit_le : (b : Bool) → cond b 0 1 ≤ 1
bit_le true = omega arith
bit_le false = omega arith

-- one field more, one bit more
double : (f : Field) (fs : List Field) → 2 ^ length (f ∷ fs) ≡ 2 * 2 ^ length fs
double f fs = pow-succ' 2 (length fs)

pub map_lt : (fs : List Field) (vs : List ℕ) → fields_map fs vs < 2 ^ length fs
unfolding fields_map zip_with
map_lt [] vs = omega arith
map_lt (f ∷ fs) [] = omega (arith, double f fs, map_lt fs [])
map_lt (f ∷ fs) (v ∷ vs) = omega (arith, double f fs, map_lt fs vs, bit_le (eqb v f.absent))

-- THE VALUES THAT ARE WRITTEN READ BACK
pub fields_back : (fs : List Field) (vs acc : List ℕ) (i : ℕ) (rest : List ℕ) → Wide fs → AllHave fs vs
    → read_fields fs (fields_map fs vs) acc i (fields_bytes fs vs ++ rest) ≡ done (got (acc ++ vs) (i + length (fields_bytes fs vs)) rest)
unfolding read_fields fields_map fields_bytes zip_with flatten ◌>>=◌
fields_back [] [] acc i rest w h =
    let n : i ≡ i + 0 = omega arith in
    rw (append-nil acc, ← n) refl
fields_back [] (v ∷ vs) acc i rest w h = absurd h
fields_back (f ∷ fs) [] acc i rest w h = absurd h
fields_back (f ∷ fs) (v ∷ vs) acc i rest w h =
    let b = bit_of f v in
    let l = bit_le (eqb v f.absent) in
    let bs = bytes_of f v in
    let m : (b + 2 * fields_map fs vs) % 2 ≡ b = omega arith in
    let d : (b + 2 * fields_map fs vs) / 2 ≡ fields_map fs vs = omega arith in
    let n : i + length bs + length (fields_bytes fs vs) ≡ i + length (bs ++ fields_bytes fs vs) = simp length-append (omega arith) in
    rw (m, d, append_assoc bs (fields_bytes fs vs) rest, field_back f i v (fields_bytes fs vs ++ rest) w.0 h.0)
    (fields_back fs vs (acc ++ (v ∷ [])) (i + length bs) rest w.1 h.1 ∙ rw (n, append_assoc acc (v ∷ []) vs) refl)

pub head_back : (h : Head) (rest : List ℕ) → AllHave fields (values_of h) → (h.method ≡ 2 → ⊥) → h.rig.booked < h.rig.places
    → read_head (head_bytes (values_of h) ++ rest) ≡ done (got h (length (head_bytes (values_of h))) rest)
unfolding read_head head_fields booked_below method_read byte_at demand ◌>>=◌ ◌>>◌
head_back h rest have new below =
    let n : 1 + length (fields_bytes fields (values_of h)) ≡ suc (length (fields_bytes fields (values_of h))) = omega arith in
    rw (
      head_bytes_lem (values_of h),
      lt-ltb _ _ (map_lt fields (values_of h)),
      fields_back fields (values_of h) [] 1 rest wide have,
      n,
      ne_eqb h.method 2 new,
      lt-ltb h.rig.booked h.rig.places below,
    ) refl
  where
    wide : Wide fields
    wide = unfold fields in (omega arith, (omega arith, (omega arith, (omega arith, (omega arith, tt)))))

-- ---- read, then written

number_read : (w i : ℕ) (bs : List ℕ) (g : Got ℕ) → Bytes bs → read_number w i bs ≡ done g → (bs ≡ number_bytes w g.value ++ g.rest) × Bytes g.rest
unfolding read_number byte_at number_bytes ◌>>=◌
number_read zero i bs g all e = subst (λ (g : Got ℕ). (bs ≡ g.rest) × Bytes g.rest) (done_same e) (refl, all)
number_read (suc w) i [] g all e = absurd (refused≢done e)
number_read (suc w) i (b ∷ bs) g all e =
    let x = bind_done (read_number w (suc i) bs) (λ r. done (got (b + 256 * r.value) r.next r.rest)) g e in
    let r = x.0 in
    let n = number_read w (suc i) bs r all.1 x.1 in
    let q : (b + 256 * r.value) % 256 ≡ b = omega (arith, all.0) in
    let d : (b + 256 * r.value) / 256 ≡ r.value = omega (arith, all.0) in
    subst (λ (g : Got ℕ). (b ∷ bs ≡ g.value % 256 ∷ number_bytes w (g.value / 256) ++ g.rest) × Bytes g.rest) (done_same x.2)
    (rw (q, d) (ap {B = List ℕ} (λ l. b ∷ l) n.0), n.1)

-- a value, and of bytes the exact bit d and bytes of the field
record FieldRead (f : Field) (d : ℕ) (bs : List ℕ) (g : Got ℕ) : Type 0 where
  have : Has f g.value
  exact : Bytes bs → (d ≡ bit_of f g.value) × (bs ≡ bytes_of f g.value ++ g.rest) × Bytes g.rest

field_read : (f : Field) (d i : ℕ) (bs : List ℕ) (g : Got ℕ) → d ≤ 1 → read_field f d i bs ≡ done g → FieldRead f d bs g
unfolding holds read_field
field_read f zero i bs g l e =
    subst (FieldRead f zero bs) (done_same e)
    (record { have = inl refl; exact = λ all. (rw (eq-eqb f.absent f.absent refl) refl, rw (eq-eqb f.absent f.absent refl) refl, all) })
field_read f (suc d) i bs g l e =
    let x = bind_done (read_number f.width i bs) _ g e in
    let y = both_done (demand (holds f x.0.value) 2 i) (done x.0) g x.2 in
    let t = demand_true _ 2 i y.0 in
    let o = (held f x.0.value t).2 in
    subst (FieldRead f (suc d) bs) (done_same y.1)
    (record {
      have = inr t;
      exact = λ all. let n = number_read f.width i bs x.0 all x.1 in (rw o (omega arith), rw o n.0, n.1);
    })

-- THE BYTES THAT READ are those that are written for the values
pub record FieldsRead (fs : List Field) (map : ℕ) (acc bs : List ℕ) (g : Got (List ℕ)) : Type 0 where
  pub values : List ℕ
  pub value : g.value ≡ acc ++ values
  pub have : AllHave fs values
  pub exact : Bytes bs → map < 2 ^ length fs → (map ≡ fields_map fs values) × (bs ≡ fields_bytes fs values ++ g.rest) × Bytes g.rest

pub fields_read : (fs : List Field) (map i : ℕ) (acc bs : List ℕ) (g : Got (List ℕ)) → read_fields fs map acc i bs ≡ done g → FieldsRead fs map acc bs g
unfolding read_fields fields_map fields_bytes zip_with flatten
fields_read [] map i acc bs g e =
    subst (FieldsRead [] map acc bs) (done_same e)
    (record { values = []; value = sym (append-nil acc); have = tt; exact = λ all l. (omega arith, refl, all) })
fields_read (f ∷ fs) map i acc bs g e =
    let x = bind_done (read_field f (map % 2) i bs) _ g e in
    let v = x.0.value in
    let own = bytes_of f v in
    let r = field_read f (map % 2) i bs x.0 (omega arith) x.1 in
    let s = fields_read fs (map / 2) x.0.next (acc ++ (v ∷ [])) x.0.rest g x.2 in
    record {
      values = v ∷ s.values;
      value = s.value ∙ append_assoc acc (v ∷ []) s.values;
      have = (r.have, s.have);
      exact = λ all l.
          let a = r.exact all in
          let b = s.exact a.2 (omega (arith, double f fs)) in
          (omega (arith, a.0, b.0), a.1 ∙ ap (λ (l : List ℕ). own ++ l) b.1 ∙ sym (append_assoc own (fields_bytes fs s.values) g.rest), b.2);
    }

-- the values that stand in the bytes of a head, of which the method's need not be the head's
abbrev pub standing : Head → ℕ → List ℕ
standing h m = h.rig.places ∷ h.rig.curves ∷ h.tests ∷ m ∷ h.rig.booked ∷ []

-- the fields of a head, and the head of its fields
same_values : (vs : List ℕ) → AllHave fields vs → standing (head_of vs) (get_or vs 3 0) ≡ vs
unfolding fields
same_values [] h = absurd h
same_values (p ∷ []) h = absurd h.1
same_values (p ∷ c ∷ []) h = absurd h.1.1
same_values (p ∷ c ∷ t ∷ []) h = absurd h.1.1.1
same_values (p ∷ c ∷ t ∷ m ∷ []) h = absurd h.1.1.1.1
same_values (p ∷ c ∷ t ∷ m ∷ b ∷ []) h = refl
same_values (p ∷ c ∷ t ∷ m ∷ b ∷ x ∷ vs) h = absurd h.1.1.1.1.1

pub record TableRead (bs : List ℕ) (g : Got Head) : Type 0 where
  pub method : ℕ
  pub read : g.value.method ≡ method_read method
  pub have : AllHave fields (standing g.value method)
  pub exact : Bytes bs → (bs ≡ head_bytes (standing g.value method) ++ g.rest) × Bytes g.rest

pub table_read : (bs : List ℕ) (g : Got Head) → head_fields bs ≡ done g → TableRead bs g
unfolding head_fields byte_at ◌>>=◌
table_read [] g e = absurd (refused≢done e)
table_read (M ∷ bs) g e =
    let m = both_done (demand (ltb M (2 ^ length fields)) 2 0) _ g e in
    let x = bind_done (read_fields fields M [] 1 bs) _ g m.1 in
    let r = fields_read fields M 1 [] bs x.0 x.1 in
    let s = same_values r.values r.have in
    subst (TableRead (M ∷ bs)) (done_same x.2)
    (rw r.value
    (record {
      method = get_or r.values 3 0;
      read = refl;
      have = rw s r.have;
      exact = λ all.
          let a = r.exact all.1 (ltb-true M _ (demand_true _ 2 0 m.0)) in
          (rw (s, head_bytes_lem r.values, ← a.0) (ap {B = List ℕ} (λ l. M ∷ l) a.1), a.2);
    }))

-- a head that was read has passed 13
head_parts : (bs : List ℕ) (g : Got Head) → read_head bs ≡ done g → (head_fields bs ≡ done g) × (g.value.rig.booked < g.value.rig.places)
unfolding read_head booked_below
head_parts bs g e =
    let x = bind_done (head_fields bs) _ g e in
    let h = x.0 in
    let y = both_done (booked_below h.value.rig (h.next - 1)) (done h) g x.2 in
    subst (λ (h : Got Head). (head_fields bs ≡ done h) × (h.value.rig.booked < h.value.rig.places)) (done_same y.1)
    (x.1, ltb-true h.value.rig.booked h.value.rig.places (demand_true _ 13 (h.next - 1) y.0))

pub head_read : (bs : List ℕ) (g : Got Head) → read_head bs ≡ done g → TableRead bs g
head_read bs g e = table_read bs g (head_parts bs g e).0

-- the numbers of a head that was read are in range
pub record InRange (h : Head) : Type 0 where
  pub places : (1 ≤ h.rig.places) × (h.rig.places ≤ 64)
  pub booked : h.rig.booked < h.rig.places
  pub curves : (1 ≤ h.rig.curves) × (h.rig.curves ≤ 64)
  pub tests : h.tests ≤ 256
  pub method : IsMethod h.method

pub method_le : (h : Head) (m : ℕ) → AllHave fields (standing h m) → m ≤ 3
unfolding fields
method_le h m a = (within _ m 0 3 (omega arith, omega arith) (omega arith, omega arith) a.1.1.1.0).1

known : (m : ℕ) → m ≤ 3 → IsMethod (method_read m)
unfolding method_read
known m l = go (ℕ_discrete m 2)
  where
    go : Dec (m ≡ 2) → IsMethod (method_read m)
    go (yes e) = rw (eq-eqb m 2 e) (omega arith, λ z. omega arith)
    go (no d) = rw (ne_eqb m 2 d) (l, d)

in_range : (h : Head) (m : ℕ) → h.method ≡ method_read m → AllHave fields (standing h m) → h.rig.booked < h.rig.places → InRange h
unfolding fields
in_range h m read a below =
    record {
      places = within _ h.rig.places 1 64 (omega arith, omega arith) (omega arith, omega arith) a.0;
      booked = below;
      curves = within _ h.rig.curves 1 64 (omega arith, omega arith) (omega arith, omega arith) a.1.0;
      tests = (within _ h.tests 0 256 (omega arith, omega arith) (omega arith, omega arith) a.1.1.0).1;
      method = rw read (known m (method_le h m a));
    }

pub range_in : (h : Head) → InRange h → AllHave fields (values_of h)
unfolding fields
range_in h r = (
  has _ h.rig.places (λ n. r.places),
  (
    has _ h.rig.curves (λ n. r.curves),
    (
      has _ h.tests (λ n. (omega arith, r.tests)),
      (has _ h.method (λ n. (omega arith, r.method.0)), (has _ h.rig.booked (λ n. (omega arith, omega (arith, r.booked, r.places.1))), tt)),
    ),
  ),
)

pub head_range : (bs : List ℕ) (g : Got Head) → read_head bs ≡ done g → InRange g.value
head_range bs g e =
    let p = head_parts bs g e in
    let t = table_read bs g p.0 in
    in_range g.value t.method t.read t.have p.1
