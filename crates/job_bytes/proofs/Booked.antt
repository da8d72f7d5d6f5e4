-- 13 in job bytes: it comes exactly where the fields of the head are read and none of the places is left, with the offset of the booked byte.
use mathlib.Core.Path.{◌≡◌, refl, sym, ap, ◌∙◌, subst}
use mathlib.Core.Logic.{◌↔◌}
use mathlib.Core.Bool.{Bool, true, false}
use mathlib.Core.List.{List, [], ◌∷◌, ◌++◌, append_assoc, zip_with, flatten}
use Prim.Native.Nat.{ℕ, ◌-◌, ◌≤◌, ◌<◌}
use native.Mathlib.Omega.{arith}
use native.Mathlib.Nat.{mod-eq_of_lt}
use lib.Dec.{ltb}
use lib.ListN.{length, get_or, take, length-append, length-drop}
use lib.Seq.{get_or-append_seam}
use borrow.Author.Tests.{ne_eqb, le-ltb, ltb-false}
use Rattle.job.specs.declared.Head.{Head}
use Rattle.job.specs.Refusal.{Outcome, done, refused, ◌>>=◌, ◌>>◌, demand}
use Rattle.job.specs.Handed.{booked_below}
use Rattle.job_bytes.specs.declared.fields.Field.{Field}
use Rattle.job_bytes.specs.SetBytes.{Got}
use Rattle.job_bytes.specs.JobBytes.{Request, fields, head_fields, read_head, read_bytes, number_bytes, head_bytes}
use Rattle.job.proofs.Laws.{refused≢done, demand_refused}
use Rattle.job.proofs.Refuses.{refuses}
use Rattle.job_bytes.proofs.SetRoundTrip.{Bytes}
use Rattle.job_bytes.proofs.HeadRoundTrip.{fields_map, fields_bytes, bytes_of, head_bytes_lem, fields_append, within, standing, table_read}
use Rattle.job_bytes.proofs.Spans.{Spans, span_done, table_span}
use Rattle.job_bytes.proofs.Heads.{head_booked}
use Rattle.job_bytes.proofs.Records.{whole_head}
use Rattle.job_bytes.proofs.ReadRefuses.{ByByte, table, behind_head, tests}

-- ---- the byte

-- a head with booked places ends in their number
last_byte : (h : Head) (m : ℕ) → 0 < h.rig.booked → h.rig.booked < 256
    → (front : List ℕ) × (head_bytes (standing h m) ≡ front ++ (h.rig.booked ∷ []))
unfolding fields number_bytes fields_bytes zip_with flatten
last_byte h m some small = (
  fields_map fields (standing h m) ∷ fields_bytes (take 4 fields) vs,
  head_bytes_lem (standing h m)
      ∙ ap {B = List ℕ} (λ bs. fields_map fields (standing h m) ∷ bs) (fields_append (take 4 fields) (f ∷ []) vs (b ∷ []) refl ∙ rw own refl),
)
  where
    b : ℕ
    b = h.rig.booked

    vs : List ℕ
    vs = h.rig.places ∷ h.rig.curves ∷ h.tests ∷ m ∷ []

    f : Field
    f = record { width = 1; low = 1; high = 63; absent = 0 }

    own : bytes_of f b ≡ b ∷ []
    own = rw (ne_eqb b 0 (λ e. omega arith), mod-eq_of_lt small) refl

-- THE LAST BYTE OF A HEAD with booked places is their number
pub booked_byte : (bs : List ℕ) (g : Got Head) → Bytes bs → head_fields bs ≡ done g → 0 < g.value.rig.booked
    → (g.next ≤ length bs) × (get_or bs (g.next - 1) 0 ≡ g.value.rig.booked)
unfolding fields
booked_byte bs g all e some =
    let b = g.value.rig.booked in
    let t = table_read bs g e in
    let s = span_done (subst (Spans 7 0 bs) e (table_span bs)) in
    let w = within _ b 0 63 (omega arith, omega arith) (omega arith, omega arith) t.have.1.1.1.1.0 in
    let l = last_byte g.value t.method some (omega (arith, w.1)) in
    let y : bs ≡ l.0 ++ (b ∷ g.rest) = (t.exact all).0 ∙ ap (λ (z : List ℕ). z ++ g.rest) l.1 ∙ append_assoc l.0 (b ∷ []) g.rest in
    let n : g.next - 1 ≡ length l.0 =
    omega (arith, ap length y, length-append l.0 (b ∷ g.rest), ap length s.behind, length-drop g.next bs, s.within) in
    (s.within, rw n (ap (λ (z : List ℕ). get_or z (length l.0) 0) y ∙ get_or-append_seam l.0 b g.rest 0))

-- ---- the condition

-- none of the places is left in the head that stands in the fields of bs, which end before offset i + 1
abbrev NoneLeft : List ℕ → ℕ → Type 0
NoneLeft bs i = (g : Got Head) × (head_fields bs ≡ done g) × (g.value.rig.places ≤ g.value.rig.booked) × (i ≡ g.next - 1)

none_left : (bs : List ℕ) (i : ℕ) → read_head bs ≡ refused 13 i → NoneLeft bs i
unfolding read_head booked_below demand ◌>>=◌ ◌>>◌
none_left bs i r = go (head_fields bs) refl r
  where
    by : (g : Got Head) → head_fields bs ≡ done g → (t : Bool) → ltb g.value.rig.booked g.value.rig.places ≡ t
        → ◌>>◌ (demand t 13 (g.next - 1)) (done g) ≡ refused 13 i → NoneLeft bs i
    by g e true l r = absurd (refused≢done (sym r))
    by g e false l r = (g, e, ltb-false g.value.rig.booked g.value.rig.places l, cc)

    go : (o : Outcome (Got Head)) → head_fields bs ≡ o → ◌>>=◌ o (λ h. ◌>>◌ (booked_below h.value.rig (h.next - 1)) (done h)) ≡ refused 13 i → NoneLeft bs i
    go (done g) e r = by g e (ltb g.value.rig.booked g.value.rig.places) refl r
    go (refused k f) e r =
        let n : k ≡ 13 = cc in
        absurd (omega (arith, (refuses ByByte (head_fields bs) k f (table bs) e).1))

-- 13 EXACTLY where the fields are read and none of the places is left
pub booked_exact : (bs : List ℕ) (i : ℕ)
    → read_bytes bs ≡ refused 13 i ↔ ((g : Got Head) × (head_fields bs ≡ done g) × (g.value.rig.places ≤ g.value.rig.booked) × (i ≡ g.next - 1))
unfolding read_bytes booked_below ◌>>=◌
booked_exact bs i = (
  λ r. go (read_head bs) refl r,
  λ x.
      let l = demand_refused _ 13 (x.0.next - 1) (le-ltb x.0.value.rig.booked x.0.value.rig.places x.2) in
      rw x.3 (whole_head bs 13 (x.0.next - 1) (head_booked bs x.0 x.1 13 (x.0.next - 1) l)),
)
  where
    go : (o : Outcome (Got Head)) → read_head bs ≡ o → ◌>>=◌ o behind_head ≡ refused 13 i → NoneLeft bs i
    go (done g) e r = absurd (omega (arith, (refuses ByByte (behind_head g) 13 i (tests g) r).1))
    go (refused k f) e r = none_left bs i (e ∙ refused_is r)
      where
        refused_is : ◌≡◌ {A = Outcome Request} (refused k f) (refused 13 i) → ◌≡◌ {A = Outcome (Got Head)} (refused k f) (refused 13 i)
        refused_is r = let n : k ≡ 13 = cc in let m : f ≡ i = cc in rw (n, m) refl
