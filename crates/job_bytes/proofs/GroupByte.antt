-- One group byte: what its reading comes to by what stands at position k of the bytes bs; and what the answer of `set_bytes::read_due` says of the groups
-- that are still to come.
use mathlib.Core.Path.{◌≡◌, refl, sym, ap, ◌∙◌}
use mathlib.Core.Bool.{Bool, true, false}
use mathlib.Core.List.{List}
use Prim.Native.Nat.{ℕ, zero, suc, ◌+◌, ◌-◌, ◌*◌, ◌^◌, ◌≤◌, ◌<◌, min}
use native.Mathlib.Omega.{arith}
use native.Mathlib.Nat.{min-eq_left, mul-zero, zero-mul, mul-one}
use native.Mathlib.Decide.{dec_le}
use lib.Dec.{ltb}
use lib.ListN.{length, get_or, drop, drop_of_length-le}
use lib.Pow.{pow_mono}
use borrow.Author.Tests.{lt-ltb, le-ltb}
use Rattle.std.specs.Prelude.{Result, Ok, Err}
use Rattle.bitset.specs.Set.{◌∪◌, bit, inside}
use Rattle.bitset.proofs.Bits.{bit_empty}
use Rattle.bitset.proofs.Parts.{≼-inside}
use Rattle.job_bytes.specs.declared.set_bytes.GroupFault.{GroupFault}
use Rattle.job_bytes.specs.declared.set_bytes.GroupFault.TheVariants.{Owed, Empty, Unknown}
use Rattle.job.specs.Refusal.{Outcome, done, refused, ◌>>=◌, ◌>>◌, mapped, demand}
use Rattle.job.specs.Handed.{all_curves}
use Rattle.job_bytes.specs.SetBytes.{Got, got, byte_at, group_outcome, read_group, read_groups}
use Rattle.job.proofs.Laws.{refused≢done, done_same, both_done, mapped_done, mapped_refused}
use Rattle.job.proofs.JobExact.{inside_below}
use Rattle.job_bytes.proofs.Turns.{byte_there, cons_here}

-- the contract of `read_due`, of a group whose bit is d; with 1 for d, that of `read_group`
abbrev pub Answers : List ℕ → ℕ → ℕ → ℕ → ℕ → Result ℕ GroupFault → Type 0
Answers bs k d j curves r =
    (owed empty unknown i : ℕ) → group_outcome owed empty unknown i r ≡ mapped (λ g. g.value) (read_group owed empty unknown (min curves 64) d j i (drop k bs))

-- no group from 8 on has a curve below 64
pub no_such_group : (b j curves : ℕ) → 0 < b → 8 ≤ j → inside (b * 2 ^ (8 * j)) (all_curves (min curves 64)) ≡ false
no_such_group b j curves p h = go (inside (b * 2 ^ (8 * j)) (all_curves (min curves 64))) refl
  where
    more : (b x : ℕ) → 0 < b → x ≤ b * x
    more zero x p = omega arith
    more (suc b) x p = omega arith

    go : (t : Bool) → inside (b * 2 ^ (8 * j)) (all_curves (min curves 64)) ≡ t → t ≡ false
    go false e = refl
    go true e =
        let few : min curves 64 ≤ 64 = omega arith in
        let many : 64 ≤ 8 * j = omega arith in
        absurd (omega (arith, inside_below (min curves 64) (b * 2 ^ (8 * j)) e, pow_mono few, pow_mono many, more b (2 ^ (8 * j)) p))

-- ---- what stands there

module _ (bs : List ℕ) (k j curves : ℕ) where
  -- nothing: the bit does not stand
  pub due_none : (d : ℕ) → d ≡ 0 → Answers bs k d j curves (Ok 0)
  unfolding group_outcome read_group mapped
  due_none d e owed empty unknown i = rw e refl

  pub due_owed : length bs ≤ k → Answers bs k 1 j curves (Err Owed)
  unfolding group_outcome read_group byte_at ◌>>=◌ mapped
  due_owed h owed empty unknown i = rw (drop_of_length-le bs h) refl

  module _ (h : k < length bs) where
    pub due_empty : get_or bs k 0 ≡ 0 → Answers bs k 1 j curves (Err Empty)
    unfolding group_outcome read_group ◌>>=◌ ◌>>◌ demand mapped
    due_empty z owed empty unknown i = rw (byte_there owed i k bs h, le-ltb 0 (get_or bs k 0) (omega arith)) refl

    module _ (p : 0 < get_or bs k 0) where
      pub due_unknown : inside (get_or bs k 0 * 2 ^ (8 * j)) (all_curves (min curves 64)) ≡ false → Answers bs k 1 j curves (Err Unknown)
      unfolding group_outcome read_group ◌>>=◌ ◌>>◌ demand mapped
      due_unknown f owed empty unknown i = rw (byte_there owed i k bs h, lt-ltb 0 (get_or bs k 0) p, f) refl

      pub due_curves : (s : ℕ) → s ≡ get_or bs k 0 * 2 ^ (8 * j) → inside s (all_curves (min curves 64)) ≡ true → Answers bs k 1 j curves (Ok s)
      unfolding group_outcome read_group ◌>>=◌ ◌>>◌ demand mapped
      due_curves s e f owed empty unknown i = rw (byte_there owed i k bs h, lt-ltb 0 (get_or bs k 0) p, ← e, f) refl

-- .. and its bit is d: the byte that stands there counts d times
nothing_inside : (s n : ℕ) → s ≡ 0 → inside s (all_curves n) ≡ true
nothing_inside s n e = rw e (≼-inside 0 (all_curves n) (λ k. omega (arith, bit_empty k)))

module _ (bs : List ℕ) (k j curves : ℕ) where
  pub marked_owed : (d : ℕ) → d ≤ 1 → 0 < d → length bs ≤ k → Answers bs k d j curves (Err Owed)
  marked_owed d l p h = let e : d ≡ 1 = omega arith in rw e (due_owed bs k j curves h)

  module _ (h : k < length bs) where
    abbrev counted : ℕ → ℕ
    counted d = get_or bs k 0 * d

    pub marked_empty : (d : ℕ) → d ≤ 1 → counted d < d → Answers bs k d j curves (Err Empty)
    marked_empty d l p = let e : d ≡ 1 = omega arith in let q = rw e at p in rw e (due_empty bs k j curves h (omega arith))

    pub marked_curves : (d : ℕ) → d ≤ 1 → d ≤ counted d → (s : ℕ) → s ≡ counted d * 2 ^ (8 * j)
        → inside s (all_curves (min curves 64)) ≡ true → Answers bs k d j curves (Ok s)
    marked_curves zero l p s v f = let e : s ≡ 0 = v ∙ rw (mul-zero, zero-mul) in rw e (due_none bs k j curves 0 refl)
    marked_curves (suc zero) l p s v f = due_curves bs k j curves h (omega arith) s (v ∙ rw mul-one) f
    marked_curves (suc (suc d)) l p s v f = absurd (omega arith)

    pub marked_unknown : (d : ℕ) → d ≤ 1 → d ≤ counted d → (s : ℕ) → s ≡ counted d * 2 ^ (8 * j)
        → inside s (all_curves (min curves 64)) ≡ false → Answers bs k d j curves (Err Unknown)
    marked_unknown zero l p s v f = let t = nothing_inside s (min curves 64) (v ∙ rw (mul-zero, zero-mul)) in let z : ◌≡◌ {A = ℕ} 0 1 =
        cc in absurd (omega arith)
    marked_unknown (suc zero) l p s v f = let e : s ≡ get_or bs k 0 * 2 ^ (8 * j) = v ∙ rw mul-one in due_unknown bs k j curves h (omega arith) (rw e at f)
    marked_unknown (suc (suc d)) l p s v f = absurd (omega arith)

-- a group that was read takes as many bytes as its bit says
module _ (owed empty unknown curves j i k : ℕ) (bs : List ℕ) where
  one_none : length bs ≤ k → (d : ℕ) → read_group owed empty unknown curves (suc d) j i (drop k bs) ≡ refused owed i
  unfolding read_group byte_at ◌>>=◌
  one_none h d = rw (drop_of_length-le bs h) refl

  one_some : k < length bs → (d : ℕ) → read_group owed empty unknown curves (suc d) j i (drop k bs)
      ≡ ◌>>◌ (demand (ltb 0 (get_or bs k 0)) empty i)
      (◌>>◌ (demand (inside (get_or bs k 0 * 2 ^ (8 * j)) (all_curves curves)) unknown i) (done (got (get_or bs k 0 * 2 ^ (8 * j)) (suc i) (drop (suc k) bs))))
  unfolding read_group ◌>>=◌
  one_some h d = rw (byte_there owed i k bs h) refl

  group_one : (d : ℕ) (g : Got ℕ) → read_group owed empty unknown curves (suc d) j i (drop k bs) ≡ done g
      → (k < length bs) × (g ≡ got g.value (suc i) (drop (suc k) bs))
  group_one d g e = go (dec_le (length bs) k)
    where
      go : Dec (length bs ≤ k) → (k < length bs) × (g ≡ got g.value (suc i) (drop (suc k) bs))
      go (yes h) = absurd (refused≢done (sym (one_none h d) ∙ e))
      go (no h) =
          let l : k < length bs = omega arith in
          let x = both_done (demand (ltb 0 (get_or bs k 0)) empty i) _ g (sym (one_some l d) ∙ e) in
          let y = both_done (demand (inside (get_or bs k 0 * 2 ^ (8 * j)) (all_curves curves)) unknown i) _ g x.1 in
          let s : got (get_or bs k 0 * 2 ^ (8 * j)) (suc i) (drop (suc k) bs) ≡ g = done_same y.1 in
          (l, sym s ∙ ap (λ (v : Got ℕ). got v.value (suc i) (drop (suc k) bs)) s)

  group_takes : (d : ℕ) (g : Got ℕ) → d ≤ 1 → k ≤ length bs → read_group owed empty unknown curves d j i (drop k bs) ≡ done g
      → (k + d ≤ length bs) × (g ≡ got g.value (i + d) (drop (k + d) bs))
  unfolding read_group
  group_takes zero g l h e =
      let s : got 0 i (drop k bs) ≡ g = done_same e in
      let m : i + 0 ≡ i = omega arith in
      let n : k + 0 ≡ k = omega arith in
      (omega arith, rw (m, n) (sym s ∙ ap (λ (v : Got ℕ). got v.value i (drop k bs)) s))
  group_takes (suc zero) g l h e =
      let o = group_one 0 g e in
      let m : i + 1 ≡ suc i = omega arith in
      let n : k + 1 ≡ suc k = omega arith in
      (omega (arith, o.0), rw (m, n) o.1)
  group_takes (suc (suc d)) g l h e = absurd (omega arith)

-- only the end of the bytes is answered by `Owed`
no_number : (t u : Bool) (g : Got ℕ) → ◌>>◌ (demand t 1 0) (◌>>◌ (demand u 1 0) (done g)) ≡ refused 0 0 → ⊥
unfolding demand ◌>>◌
no_number true true g e = refused≢done (sym e)
no_number true false g e = let z : ◌≡◌ {A = ℕ} 0 1 = cc in omega arith
no_number false u g e = let z : ◌≡◌ {A = ℕ} 0 1 = cc in omega arith

owed_outcome : (i : ℕ) → group_outcome 0 1 1 i (Err Owed) ≡ refused 0 i
unfolding group_outcome
owed_outcome i = refl

unmarked : (curves j k : ℕ) (bs : List ℕ) → read_group 0 1 1 curves 0 j 0 (drop k bs) ≡ done (got 0 0 (drop k bs))
unfolding read_group
unmarked curves j k bs = refl

pub owed_end : (bs : List ℕ) (k d j curves : ℕ) → Answers bs k d j curves (Err Owed) → length bs ≤ k
owed_end bs k d j curves f =
    go d (dec_le (length bs) k) (mapped_refused (λ (g : Got ℕ). g.value) (read_group 0 1 1 (min curves 64) d j 0 (drop k bs)) 0 0
    (sym (f 0 1 1 0) ∙ owed_outcome 0))
  where
    go : (d : ℕ) → Dec (length bs ≤ k) → read_group 0 1 1 (min curves 64) d j 0 (drop k bs) ≡ refused 0 0 → length bs ≤ k
    go d (yes h) e = h
    go zero (no h) e = absurd (refused≢done (sym e ∙ unmarked (min curves 64) j k bs))
    go (suc d) (no h) e = absurd (no_number _ _ _ (sym (one_some 0 1 1 (min curves 64) j 0 k bs (omega arith) d) ∙ e))

-- ---- the groups to come, by the answer: group j is the next, its byte is due at position k of the part bs, which begins at offset a of the input
module _ (owed empty unknown curves map s a k j : ℕ) (bs : List ℕ) (below : j < 8) (few : curves ≤ 64) where
  abbrev here : Outcome (Got ℕ)
  here = read_groups owed empty unknown curves (8 - j) j map s (a + k) (drop k bs)

  said : (r : Result ℕ GroupFault) → Answers bs k (bit j map) j curves r
      → group_outcome owed empty unknown (a + k) r ≡ mapped (λ g. g.value) (read_group owed empty unknown curves (bit j map) j (a + k) (drop k bs))
  said r f = let e : min curves 64 ≡ curves = min-eq_left {n = curves} {m = 64} few in rw e at (f owed empty unknown (a + k))

  faulty : (n : ℕ) → read_group owed empty unknown curves (bit j map) j (a + k) (drop k bs) ≡ refused n (a + k) → here ≡ refused n (a + k)
  unfolding ◌>>=◌
  faulty n e = cons_here owed empty unknown curves map s a k j bs below ∙ rw e refl

  pub answer_owed : Answers bs k (bit j map) j curves (Err Owed) → here ≡ refused owed (a + k)
  unfolding group_outcome
  answer_owed f = faulty owed (mapped_refused (λ g. g.value) _ owed (a + k) (sym (said (Err Owed) f)))

  pub answer_empty : Answers bs k (bit j map) j curves (Err Empty) → here ≡ refused empty (a + k)
  unfolding group_outcome
  answer_empty f = faulty empty (mapped_refused (λ g. g.value) _ empty (a + k) (sym (said (Err Empty) f)))

  pub answer_unknown : Answers bs k (bit j map) j curves (Err Unknown) → here ≡ refused unknown (a + k)
  unfolding group_outcome
  answer_unknown f = faulty unknown (mapped_refused (λ g. g.value) _ unknown (a + k) (sym (said (Err Unknown) f)))

  pub answer_curves : (x : ℕ) → k ≤ length bs → Answers bs k (bit j map) j curves (Ok x)
      → (k + bit j map ≤ length bs)
      × (here ≡ read_groups owed empty unknown curves (8 - (j + 1)) (j + 1) map (s ∪ x) (a + (k + bit j map)) (drop (k + bit j map) bs))
  unfolding group_outcome ◌>>=◌
  answer_curves x l f =
      let r = read_group owed empty unknown curves (bit j map) j (a + k) (drop k bs) in
      let d = mapped_done (λ (g : Got ℕ). g.value) r x (sym (said (Ok x) f)) in
      let o = group_takes owed empty unknown curves j (a + k) k bs (bit j map) d.0 (omega arith) l d.1 in
      let v = d.2 in
      let n : a + k + bit j map ≡ a + (k + bit j map) = omega arith in
      let g : r ≡ done (got x (a + (k + bit j map)) (drop (k + bit j map) bs)) = d.1 ∙ ap done o.1 ∙ rw (v, n) refl in
      (o.0, cons_here owed empty unknown curves map s a k j bs below ∙ rw g refl)
