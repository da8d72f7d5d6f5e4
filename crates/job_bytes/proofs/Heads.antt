-- Reading a head, step by step: what the rules come to at offset i of the whole bytes bs, by what stands there.
use mathlib.Core.Path.{◌≡◌, refl, ap, ◌∙◌, subst}
use mathlib.Core.List.{List, [], ◌∷◌, ◌++◌}
use Prim.Native.Nat.{ℕ, zero, suc, ◌+◌, ◌-◌, ◌*◌, ◌/◌, ◌%◌, ◌^◌, ◌≤◌, ◌<◌}
use native.Mathlib.Omega.{arith}
use native.Mathlib.Decide.{dec_le}
use lib.Pow.{pow-add}
use lib.ListN.{length, get_or, drop, drop_of_length-le}
use borrow.Author.Tests.{lt-ltb, le-ltb}
use Rattle.job.specs.declared.Head.{Head}
use Rattle.job.specs.Refusal.{done, refused, ◌>>=◌, ◌>>◌, demand}
use Rattle.job.specs.Handed.{booked_below}
use Rattle.job_bytes.specs.declared.fields.Field.{Field}
use Rattle.job_bytes.specs.SetBytes.{Got, got}
use Rattle.job_bytes.specs.JobBytes.{fields, head_of, read_number, read_field, read_fields, head_fields, read_head}
use Rattle.job_bytes.proofs.HeadRoundTrip.{holds}
use Rattle.job_bytes.proofs.Turns.{byte_there, byte_none}
use Rattle.job_bytes.proofs.Spans.{Spans, span_done, field_span, head_span}

pub rows : length fields ≡ 5
unfolding fields
rows = refl

pub byte_more : (w v b : ℕ) → v < 2 ^ (8 * w) → b < 256 → b + 256 * v < 2 ^ (8 * suc w)
byte_more w v b h l = let e : 8 * suc w ≡ 8 + 8 * w = omega arith in rw (e, pow-add 2 8 (8 * w)) (omega arith)

-- what an answer says of the outcome that it stands for
module _ (bs : List ℕ) where
  -- ---- a number of w bytes
  number_next : (w i : ℕ) → i < length bs
      → read_number (suc w) i (drop i bs) ≡ ◌>>=◌ (read_number w (suc i) (drop (suc i) bs)) (λ r. done (got (get_or bs i 0 + 256 * r.value) r.next r.rest))
  unfolding read_number ◌>>=◌
  number_next w i h = rw (byte_there 1 i i bs h) refl

  -- one byte in front of a number that was read
  pub number_more : (w i v n : ℕ) → i < length bs → read_number w (suc i) (drop (suc i) bs) ≡ done (got v n (drop n bs))
      → read_number (suc w) i (drop i bs) ≡ done (got (get_or bs i 0 + 256 * v) n (drop n bs))
  unfolding ◌>>=◌
  number_more w i v n h e = number_next w i h ∙ rw e refl

  number_none : (w i : ℕ) → length bs ≤ i → read_number (suc w) i (drop i bs) ≡ refused 1 i
  unfolding read_number ◌>>=◌
  number_none w i h = rw (byte_none 1 i i bs h) refl

  -- 1 with the input length, where the bytes end before the number does
  number_cut : (w i : ℕ) → i ≤ length bs → length bs < i + w → read_number w i (drop i bs) ≡ refused 1 (length bs)
  unfolding ◌>>=◌
  number_cut zero i l h = absurd (omega arith)
  number_cut (suc w) i l h = go (dec_le (length bs) i) (number_cut w (suc i))
    where
      go : Dec (length bs ≤ i) → (suc i ≤ length bs → length bs < suc i + w → read_number w (suc i) (drop (suc i) bs) ≡ refused 1 (length bs))
          → read_number (suc w) i (drop i bs) ≡ refused 1 (length bs)
      go (yes z) ih = let e : i ≡ length bs = omega arith in number_none w i z ∙ ap (refused 1) e
      go (no z) ih = number_next w i (omega arith) ∙ rw (ih (omega arith) (omega arith)) refl

  -- ---- a field that stands
  module _ (f : Field) (i : ℕ) where
    pub field_cut : i ≤ length bs → length bs < i + f.width → read_field f 1 i (drop i bs) ≡ refused 1 (length bs)
    unfolding read_field ◌>>=◌
    field_cut l h = rw (number_cut f.width i l h) refl

    pub field_judged : (g : Got ℕ) → read_number f.width i (drop i bs) ≡ done g
        → read_field f 1 i (drop i bs) ≡ ◌>>◌ (demand (holds f g.value) 2 i) (done g)
    unfolding holds read_field ◌>>=◌
    field_judged g e = rw e refl

    pub field_within : (d v n : ℕ) → i ≤ length bs → read_field f d i (drop i bs) ≡ done (got v n (drop n bs)) → n ≤ length bs
    field_within d v n l e = (span_done (subst (Spans f.width i bs) e (field_span bs f d i l))).within

  -- ---- the fields from the j-th on, of which f is the first
  module _ (fs : List Field) (j map : ℕ) (vs : List ℕ) (i : ℕ) where
    pub fields_end : length fs ≤ j → read_fields (drop j fs) map vs i (drop i bs) ≡ done (got vs i (drop i bs))
    unfolding read_fields
    fields_end h = rw (drop_of_length-le fs h) refl

    module _ (f : Field) (row : drop j fs ≡ f ∷ drop (j + 1) fs) where
      pub fields_fault : (k o : ℕ) → read_field f (map % 2) i (drop i bs) ≡ refused k o → read_fields (drop j fs) map vs i (drop i bs) ≡ refused k o
      unfolding read_fields ◌>>=◌
      fields_fault k o e = rw (row, e) refl

      pub fields_next : (g : Got ℕ) → read_field f (map % 2) i (drop i bs) ≡ done g
          → read_fields (drop j fs) map vs i (drop i bs) ≡ read_fields (drop (j + 1) fs) (map / 2) (vs ++ (g.value ∷ [])) g.next g.rest
      unfolding read_fields ◌>>=◌
      fields_next g e = rw (row, e) refl

  -- ---- the head
  pub head_none : length bs ≡ 0 → head_fields bs ≡ refused 1 0
  unfolding head_fields ◌>>=◌
  head_none h = rw (byte_none 1 0 0 bs (omega arith)) refl

  module _ (some : 0 < length bs) where
    pub head_map : 2 ^ length fields ≤ get_or bs 0 0 → head_fields bs ≡ refused 2 0
    unfolding head_fields demand ◌>>=◌ ◌>>◌
    head_map h = rw (byte_there 1 0 0 bs some, le-ltb (get_or bs 0 0) (2 ^ length fields) h) refl

    pub head_fields_lem : get_or bs 0 0 < 2 ^ length fields
        → head_fields bs ≡ ◌>>=◌ (read_fields fields (get_or bs 0 0) [] 1 (drop 1 bs)) (λ r. done (got (head_of r.value) r.next r.rest))
    unfolding head_fields demand ◌>>=◌ ◌>>◌
    head_fields_lem h = rw (byte_there 1 0 0 bs some, lt-ltb (get_or bs 0 0) (2 ^ length fields) h) refl

  -- 13 behind its fields, or what they come to
  pub head_fault : (k f : ℕ) → head_fields bs ≡ refused k f → read_head bs ≡ refused k f
  unfolding read_head ◌>>=◌
  head_fault k f e = rw e refl

  module _ (g : Got Head) (e : head_fields bs ≡ done g) where
    pub head_booked : (k f : ℕ) → booked_below g.value.rig (g.next - 1) ≡ refused k f → read_head bs ≡ refused k f
    unfolding read_head ◌>>=◌ ◌>>◌
    head_booked k f b = rw (e, b) refl

    pub head_whole : booked_below g.value.rig (g.next - 1) ≡ done tt → read_head bs ≡ done g
    unfolding read_head ◌>>=◌ ◌>>◌
    head_whole b = rw (e, b) refl

  pub head_within : (h : Head) (n : ℕ) → read_head bs ≡ done (got h n (drop n bs)) → n ≤ length bs
  head_within h n e = (span_done (subst (Spans 7 0 bs) e (head_span bs))).within
