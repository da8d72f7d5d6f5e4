-- Reading job bytes refuses by 1 to 4, 6 and 13 only.
use mathlib.Core.Path.{◌≡◌, refl}
use mathlib.Core.Logic.{◌⊎◌, inl, inr}
use mathlib.Core.List.{List, [], ◌∷◌, ◌++◌}
use Prim.Native.Nat.{ℕ, zero, suc, ◌-◌, ◌/◌, ◌%◌, ◌≤◌}
use native.Mathlib.Omega.{arith}
use Rattle.bitset.specs.Set.{◌∪◌, bit}
use Rattle.job_bytes.specs.declared.fields.Field.{Field}
use Rattle.job.specs.declared.Head.{Head}
use Rattle.job.specs.Refusal.{Outcome, done, ◌>>=◌, ◌>>◌}
use Rattle.job_bytes.specs.SetBytes.{Got, byte_at, read_group, read_groups}
use Rattle.job_bytes.specs.JobBytes.{fields, read_number, read_field, read_fields, head_fields, read_head, read_record, read_records, at_end}
use Rattle.job_bytes.specs.JobBytes.{Request, read_bytes}
use Rattle.job.specs.Handed.{booked_below}
use Rattle.job.proofs.Refuses.{Refuses, refuses_more, refuses_demand, refuses_both, refuses_bind}

-- all but 13
abbrev pub ByByte : ℕ → ℕ → Type 0
ByByte k i = (1 ≤ k) × (k ≤ 6) × (k ≡ 5 → ⊥)

abbrev pub ByReading : ℕ → ℕ → Type 0
ByReading k i = ByByte k i ⊎ (k ≡ 13)

pub number_between : (k i : ℕ) → ByReading k i → (1 ≤ k) × (k ≤ 13)
number_between k i (inl n) = (n.0, omega (arith, n.1))
number_between k i (inr n) = (omega (arith, n), omega (arith, n))

abbrev P : ℕ → ℕ → Type 0
P = ByByte

byte : (k i : ℕ) (bs : List ℕ) → P k i → Refuses P (byte_at k i bs)
unfolding byte_at
byte k i [] p = p
byte k i (b ∷ bs) p = tt

number : (w i : ℕ) (bs : List ℕ) → Refuses P (read_number w i bs)
unfolding read_number
number zero i bs = tt
number (suc w) i bs =
    refuses_bind P (byte_at 1 i bs) _ (byte 1 i bs (omega arith, omega arith, λ e. omega arith))
    (λ b e. refuses_bind P (read_number w b.next b.rest) _ (number w b.next b.rest) (λ r e. tt))

field : (f : Field) (d i : ℕ) (bs : List ℕ) → Refuses P (read_field f d i bs)
unfolding read_field
field f zero i bs = tt
field f (suc d) i bs =
    refuses_bind P (read_number f.width i bs) _ (number f.width i bs)
    (λ v e. refuses_both P _ _ (refuses_demand P _ 2 i (omega arith, omega arith, λ e. omega arith)) tt)

all_fields : (fs : List Field) (map : ℕ) (values : List ℕ) (i : ℕ) (bs : List ℕ) → Refuses P (read_fields fs map values i bs)
unfolding read_fields
all_fields [] map values i bs = tt
all_fields (f ∷ fs) map values i bs =
    refuses_bind P _ _ (field f (map % 2) i bs) (λ v e. all_fields fs (map / 2) (values ++ (v.value ∷ [])) v.next v.rest)

pub table : (bs : List ℕ) → Refuses P (head_fields bs)
unfolding head_fields
table bs =
    refuses_bind P (byte_at 1 0 bs) _ (byte 1 0 bs (omega arith, omega arith, λ e. omega arith))
    (λ m e. refuses_both P _ _ (refuses_demand P _ 2 0 (omega arith, omega arith, λ e. omega arith))
    (refuses_bind P _ _ (all_fields fields m.value [] m.next m.rest) (λ r e. tt)))

module _ (curves : ℕ) where
  group : (d j i : ℕ) (bs : List ℕ) → Refuses P (read_group 1 3 4 curves d j i bs)
  unfolding read_group
  group zero j i bs = tt
  group (suc d) j i bs =
      refuses_bind P (byte_at 1 i bs) _ (byte 1 i bs (omega arith, omega arith, λ e. omega arith))
      (λ b e. refuses_both P _ _ (refuses_demand P _ 3 i (omega arith, omega arith, λ e. omega arith))
      (refuses_both P _ _ (refuses_demand P _ 4 i (omega arith, omega arith, λ e. omega arith)) tt))

  groups : (k j map s i : ℕ) (bs : List ℕ) → Refuses P (read_groups 1 3 4 curves k j map s i bs)
  unfolding read_groups
  groups zero j map s i bs = tt
  groups (suc k) j map s i bs = refuses_bind P _ _ (group (bit j map) j i bs) (λ g e. groups k (suc j) map (s ∪ g.value) g.next g.rest)

  one_record : (i : ℕ) (bs : List ℕ) → Refuses P (read_record curves i bs)
  unfolding read_record
  one_record i bs = refuses_bind P (byte_at 1 i bs) _ (byte 1 i bs (omega arith, omega arith, λ e. omega arith)) (λ m e. groups 8 0 m.value 0 m.next m.rest)

  records : (k : ℕ) (wants : List ℕ) (i : ℕ) (bs : List ℕ) → Refuses P (read_records curves k wants i bs)
  unfolding read_records
  records zero wants i bs = tt
  records (suc k) wants i bs = refuses_bind P _ _ (one_record i bs) (λ r e. records k (wants ++ (r.value ∷ [])) r.next r.rest)

end : (i : ℕ) (bs : List ℕ) → Refuses P (at_end 6 i bs)
unfolding at_end
end i [] = tt
end i (b ∷ bs) = (omega arith, omega arith, λ e. omega arith)

-- what comes behind a head
abbrev pub behind_head : Got Head → Outcome Request
behind_head h =
    ◌>>=◌ (read_records h.value.rig.curves h.value.tests [] h.next h.rest)
    (λ r. ◌>>◌ (at_end 6 r.next r.rest) (done (record { head = h.value; wants = r.value })))

pub tests : (h : Got Head) → Refuses P (behind_head h)
tests h =
    refuses_bind P _ _ (records h.value.rig.curves h.value.tests [] h.next h.rest)
    (λ r e. refuses_both P _ _ (end r.next r.rest) tt)

-- READING REFUSES BY 1 TO 4, 6 AND 13
pub read_refuses : (bs : List ℕ) → Refuses ByReading (read_bytes bs)
unfolding read_bytes read_head booked_below
read_refuses bs =
    refuses_bind ByReading (read_head bs) _
    (refuses_bind ByReading (head_fields bs) _ (refuses_more P ByReading (head_fields bs) (λ k i. inl) (table bs))
    (λ h e. refuses_both ByReading _ _ (refuses_demand ByReading _ 13 (h.next - 1) (inr refl)) tt))
    (λ h e. refuses_more P ByReading (behind_head h) (λ k i. inl) (tests h))
