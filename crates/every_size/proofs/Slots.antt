-- THE SLOTS OF ALL DRIVE SIZES.
--
-- The idea. Let the drive with p places hold H p. In a step that wants w, each drive keeps of its other curves as many as it has room for, p - |w|, those with
-- the soonest next use (`Stays`). Go through the others from the soonest use on, and give each the lowest free slot that is not below its own, where the slots
-- below |w| are not free. Then for every p: as many slots below p are free as the drive with p places has room for (`Placing.room`), so a curve that this drive
-- holds is kept by it exactly where its new slot is below p (`placed_exact`). All that is asked of the slots before is that no two of the others share one but
-- slot 0: so while a curve waits, its slot is free, or no slot below it is (`Placing.vacant`).
use mathlib.Core.Path.{◌≡◌, refl, sym, ap, ◌∙◌}
use mathlib.Core.Logic.{◌⊎◌, inl, inr, ⊎_elim}
use mathlib.Core.List.{List, [], ◌∷◌}
use Prim.Native.Nat.{ℕ, zero, suc, ◌+◌, ◌-◌, ◌^◌, ◌≤◌, ◌<◌, min}
use native.Mathlib.Omega.{arith}
use native.Mathlib.Decide.{ℕ_discrete, dec_le}
use lib.Count.{count_trailing_zeros, trailing_of_zero, trailing_le}
use lib.ListN.{length, get_or, set}
use lib.Seq.{get_or-set_same, get_or-set_other}
use Rattle.bitset.specs.Set.{◌∩◌, ◌∪◌, ◌∖◌, size, bit, below}
use Rattle.bitset.proofs.Bits.{bitwise, bit-∩, bit-∪, bit-∖, bit_empty, bit_single, bit_other, same_by_bits, size_empty, sizes_le, sizes_eq}
use Rattle.bitset.proofs.Element.{size_remove, lowest_in, lowest_least}
use Rattle.bitset.proofs.Laws.{∖-lt}
use Rattle.bitset.proofs.Parts.{◌≼◌, bit_below, size_single_of, single_apart, rest_same}
use Rattle.drive.specs.declared.choice.NextUse.{NextUse}
use Rattle.drive.specs.declared.choice.NextUse.TheVariants.{At, Never}
use Rattle.drive.specs.Steps.{together}
use Rattle.drive.specs.Uses.{next_use}
use Rattle.drive.specs.Plan.{furthest, drops_for}
use Rattle.drive.specs.ContractWords.{GoesBefore}
use Rattle.every_size.specs.ContractWords.{holds_at, held_next, Waiting, Placing}
use Rattle.drive.proofs.Groups.{together_never, together_used}
use Rattle.drive.proofs.Staying.{never_before}
use Rattle.every_size.proofs.Stays.{Behind, kept_exact}

-- ---- the lowest free slot that is not below a

pub record LowestFrom (free a b : ℕ) : Type 0 where
  pub most : b ≤ 64
  pub gap : (k : ℕ) → a ≤ k → k < b → bit k free ≡ 0
  pub there : b < 64 → (bit b free ≡ 1) × (a ≤ b)

module _ (free a : ℕ) (range : free < 2 ^ 64) where
  abbrev from_a : ℕ
  from_a = free ∖ below (min a 64)

  abbrev lowest : ℕ
  lowest = count_trailing_zeros 64 from_a

  is_there : (s : ℕ) → from_a ≡ s → lowest < 64 → (bit lowest free ≡ 1) × (a ≤ lowest)
  is_there zero e h = absurd (omega (arith, ap (count_trailing_zeros 64) e, trailing_of_zero 64))
  is_there (suc s) e h =
      let i = lowest_in 64 from_a (omega arith) (∖-lt 64 free (below (min a 64)) range) in
      let d = bit-∖ lowest free (below (min a 64)) in
      (omega arith, omega (arith, bit_below lowest (min a 64)))

  pub lowest_from : LowestFrom free a lowest
  lowest_from =
      record {
        most = trailing_le 64 from_a;
        gap = λ k l h. omega (
          arith,
          trailing_le 64 from_a,
          lowest_least 64 from_a k h,
          bit-∖ k free (below (min a 64)),
          bit_below k (min a 64),
        );
        there = is_there from_a refl;
      }

-- ---- the free slots below p, when b is taken
module _ (free a b : ℕ) (low : LowestFrom free a b) where
  abbrev free_below : ℕ → ℕ
  free_below p = size (free ∩ below p)

  not_taken : (p : ℕ) → p ≤ b → size ((free ∖ 2 ^ b) ∩ below p) ≡ free_below p
  not_taken p h =
      ap size (same_by_bits ((free ∖ 2 ^ b) ∩ below p) (free ∩ below p) (λ k. go k (ℕ_discrete k b)))
    where
      go : (k : ℕ) → Dec (k ≡ b) → bit k ((free ∖ 2 ^ b) ∩ below p) ≡ bit k (free ∩ below p)
      go k (yes e) = omega (arith, bit-∩ k (free ∖ 2 ^ b) (below p), bit-∩ k free (below p), bit_below k p)
      go k (no e) = omega (arith, bit-∩ k (free ∖ 2 ^ b) (below p), bit-∩ k free (below p), bit-∖ k free (2 ^ b), bit_other k b e)

  one_taken : (p : ℕ) → b < p → p ≤ 64 → size ((free ∖ 2 ^ b) ∩ below p) + 1 ≡ free_below p
  one_taken p h m =
      omega (
        arith,
        size_remove b (free ∩ below p) (omega (arith, bit-∩ b free (below p), bit_below b p, (low.there (omega arith)).0)),
        ap size (same_by_bits ((free ∖ 2 ^ b) ∩ below p) (free ∩ below p ∖ 2 ^ b) (λ k. simp bitwise (omega arith))),
      )

  -- where none below a is free, none below b is
  none_free : (p : ℕ) → p ≤ b → free_below a ≡ 0 → free_below p ≡ 0
  none_free p h e =
      omega (arith, sizes_le (free ∩ below p ∷ []) (free ∩ below a ∷ []) (λ k. go k (dec_le a k) (dec_le p k)))
    where
      go : (k : ℕ) → Dec (a ≤ k) → Dec (p ≤ k) → bit k (free ∩ below p) + 0 ≤ bit k (free ∩ below a) + 0
      go k (no l) q = omega (arith, bit-∩ k free (below p), bit-∩ k free (below a), bit_below k a)
      go k (yes l) (yes q) = omega (arith, bit-∩ k free (below p), bit_below k p)
      go k (yes l) (no q) = omega (arith, bit-∩ k free (below p), low.gap k l (omega arith))

-- ---- one of the others is placed
module _ {hold : ℕ → ℕ} {w seen others placed free : ℕ} {ws before slots : List ℕ} (wait : Waiting hold w seen others ws before)
    (at : Placing hold w others placed free ws before slots) (c b : ℕ) (mine : bit c others ≡ 1) (fresh : bit c placed ≡ 0)
    (later : (d : ℕ) → bit d placed ≡ 1 → GoesBefore ws c d) (sooner : (d : ℕ) → bit d others ≡ 1 → bit d placed ≡ 0 → GoesBefore ws d c)
    (range : (p : ℕ) → hold p ≼ below 64) (long : c < length slots) (low : LowestFrom free (get_or before c 0) b) where
  abbrev slot : ℕ → ℕ
  slot d = get_or before d 0

  abbrev free_to : ℕ → ℕ
  free_to p = size (free ∩ below p)

  -- one of the others was seen, is not wanted, and is used later
  own : (d : ℕ) → bit d others ≡ 1 → (bit d seen ≡ 1) × ((bit d w ≡ 0) × (bit d (together ws) ≡ 1))
  own d i =
      let e : bit d others ≡ min (bit d seen - bit d w) (bit d (together ws)) =
      ap (bit d) wait.these ∙ bit-∩ d (seen ∖ w) (together ws) ∙ ap (λ (x : ℕ). min x (bit d (together ws))) (bit-∖ d seen w) in
      (omega arith, (omega arith, omega arith))

  -- no slot below p is free, where c has a slot below p before and gets none
  full : (p : ℕ) → slot c < p → p ≤ b → p ≤ 64 → free_to p ≡ 0
  full p l h m =
      ⊎_elim (λ i. absurd (omega (arith, low.gap (slot c) (omega arith) (omega arith))))
      (λ e. none_free free (slot c) b low p h e) (at.vacant c mine fresh (omega arith))

  -- not below its own
  above : (p : ℕ) → p ≤ slot c → p ≤ 64 → p ≤ b
  above p l m = go (dec_le 64 b)
    where
      go : Dec (64 ≤ b) → p ≤ b
      go (yes h) = omega arith
      go (no h) = omega (arith, (low.there (omega arith)).1)

  -- those of the drive that are placed, c among them
  more : (p : ℕ) → size (hold p ∩ (placed ∪ 2 ^ c)) ≡ size (hold p ∩ placed) + bit c (hold p)
  more p =
      omega (
        arith,
        size_single_of c (hold p),
        sizes_eq (hold p ∩ (placed ∪ 2 ^ c) ∷ []) (hold p ∩ placed ∷ hold p ∩ 2 ^ c ∷ []) (λ k. simp bitwise (omega (arith, single_apart c placed fresh k))),
      )

  -- as many slots are free as the drives have room for
  room_next : (p : ℕ) → 1 ≤ p → p ≤ 64 → size ((free ∖ 2 ^ b) ∩ below p) ≡ (p - size w) - size (hold p ∩ (placed ∪ 2 ^ c))
  room_next p o m = go (dec_le p (slot c)) (dec_le p b)
    where
      go : Dec (p ≤ slot c) → Dec (p ≤ b) → size ((free ∖ 2 ^ b) ∩ below p) ≡ (p - size w) - size (hold p ∩ (placed ∪ 2 ^ c))
      go (yes l) h =
          let held = wait.agree c p mine o m in
          not_taken free (slot c) b low p (above p l m) ∙ at.room p o m ∙ ap (λ (x : ℕ). (p - size w) - x) (omega (arith, more p))
      go (no l) (yes h) = let held = wait.agree c p mine o m in
          omega (arith, not_taken free (slot c) b low p h, full p (omega arith) h m, at.room p o m, more p)
      go (no l) (no h) = let held = wait.agree c p mine o m in omega (arith, one_taken free (slot c) b low p (omega arith) m, at.room p o m, more p)

  -- what else the drive holds goes before c: the others that wait, and what is never used
  behind : (p : ℕ) → Behind (hold p ∖ w) c placed ws
  behind p =
      record {
        own = fresh;
        after = λ d i j. later d j;
        before = λ d i j. go d i j (bit d (together ws)) refl;
      }
    where
      never : (d : ℕ) → next_use d ws ≡ Never → (u : NextUse) → next_use c ws ≡ u → GoesBefore ws d c
      never d n Never e = absurd (together_used c ws (own c mine).1.1 e)
      never d n (At m) e = never_before d c ws m n e

      go : (d : ℕ) → bit d (hold p ∖ w) ≡ 1 → bit d placed ≡ 0 → (x : ℕ) → bit d (together ws) ≡ x → GoesBefore ws d c
      go d i j zero e = never d (together_never d ws e) (next_use c ws) refl
      go d i j (suc x) e =
          let known = wait.known p d in
          let s = bit-∖ d (hold p) w in
          sooner d (ap (bit d) wait.these ∙ omega (arith, bit-∩ d (seen ∖ w) (together ws), bit-∖ d seen w)) j

  module _ (p : ℕ) (o : 1 ≤ p) (m : p ≤ 64) where
    -- the wanted ones are none of the placed
    unwanted : (k x : ℕ) → bit k placed ≡ x → bit k ((hold p ∖ w) ∩ placed) ≡ bit k (hold p ∩ placed)
    unwanted k zero e = omega (arith, bit-∩ k (hold p ∖ w) placed, bit-∩ k (hold p) placed)
    unwanted k (suc x) e =
        let a = own k (omega (arith, at.part k)) in
        omega (arith, bit-∩ k (hold p ∖ w) placed, bit-∩ k (hold p) placed, bit-∖ k (hold p) w, a.1.0)

    kept : slot c < p → bit c (held_next hold w ws p) ≡ min 1 (free_to p)
    kept l =
        let held = wait.agree c p mine o m in
        kept_exact 64 p (hold p) w c placed ws (range p) (omega (arith, bit-∖ c (hold p) w, (own c mine).1.0)) (behind p)
        ∙ ap (λ (x : ℕ). min 1 ((p - size w) - x)) (ap size (same_by_bits _ _ (λ k. unwanted k (bit k placed) refl)))
        ∙ ap (min 1) (sym (at.room p o m))

    -- A DRIVE HOLDS IT BEHIND THE STEP exactly where its new slot says so
    placed_exact : bit c (held_next hold w ws p) ≡ holds_at b p
    placed_exact = go (dec_le p (slot c)) (dec_le p b)
      where
        go : Dec (p ≤ slot c) → Dec (p ≤ b) → bit c (held_next hold w ws p) ≡ holds_at b p
        go (yes l) q =
            let d = drops_for (furthest 64) p (hold p) w ws in
            let held : bit c (hold p) ≡ 0 = omega (arith, wait.agree c p mine o m) in
            let not : bit c (held_next hold w ws p) ≡ 0 =
            omega (arith, bit-∪ c (hold p ∖ d) (w ∖ hold p), bit-∖ c (hold p) d, bit-∖ c w (hold p), (own c mine).1.0) in
            not ∙ omega (arith, above p l m)
        go (no l) (yes q) = omega (arith, kept (omega arith), full p (omega arith) q m)
        go (no l) (no q) = omega (arith, kept (omega arith), one_taken free (slot c) b low p (omega arith) m)

  -- the slot of one that still waits is free, or none below it is
  vacant_next : (d : ℕ) → bit d others ≡ 1 → bit d placed ≡ 0 → (d ≡ c → ⊥) → slot d < 64
      → (bit (slot d) (free ∖ 2 ^ b) ≡ 1) ⊎ (size ((free ∖ 2 ^ b) ∩ below (slot d)) ≡ 0)
  vacant_next d i n q s = go (at.vacant d i n s) (ℕ_discrete (slot d) b)
    where
      fewer : size (free ∩ below (slot d)) ≡ 0 → size ((free ∖ 2 ^ b) ∩ below (slot d)) ≡ 0
      fewer e =
          omega (arith, sizes_le ((free ∖ 2 ^ b) ∩ below (slot d) ∷ []) (free ∩ below (slot d) ∷ []) (λ k. simp bitwise (omega arith)))

      -- c takes the slot of d
      hit : slot d ≡ b → Dec (slot c ≡ b) → size (free ∩ below (slot d)) ≡ 0
      hit e (yes f) = first (slot d) refl
        where
          first : (x : ℕ) → slot d ≡ x → size (free ∩ below x) ≡ 0
          first zero g = ap size (same_by_bits (free ∩ below 0) 0 (λ k. omega (arith, bit-∩ k free (below 0), bit_below k 0, bit_empty k))) ∙ size_empty
          first (suc x) g = absurd (q (wait.apart d c i mine (omega arith) (omega arith) s))
      hit e (no f) =
          let t = low.there (omega arith) in
          rw e (full b (omega arith) (omega arith) (omega arith))

      go : (bit (slot d) free ≡ 1) ⊎ (size (free ∩ below (slot d)) ≡ 0) → Dec (slot d ≡ b)
          → (bit (slot d) (free ∖ 2 ^ b) ≡ 1) ⊎ (size ((free ∖ 2 ^ b) ∩ below (slot d)) ≡ 0)
      go (inr e) r = inr (fewer e)
      go (inl e) (no r) = inl (omega (arith, bit-∖ (slot d) free (2 ^ b), bit_other (slot d) b r))
      go (inl e) (yes r) = inr (fewer (hit r (ℕ_discrete (slot c) b)))

  new_slot : get_or (set slots c b) c 0 ≡ b
  new_slot = get_or-set_same slots c b 0 long

  old_slot : (d : ℕ) → (d ≡ c → ⊥) → get_or (set slots c b) d 0 ≡ get_or slots d 0
  old_slot d q = get_or-set_other slots c d b 0 q

  -- one of those placed is c, or was placed before
  which : (d : ℕ) → bit d (placed ∪ 2 ^ c) ≡ 1 → Dec (d ≡ c) → (d ≡ c) ⊎ ((bit d placed ≡ 1) × (d ≡ c → ⊥))
  which d i (yes e) = inl e
  which d i (no q) = inr (omega (arith, bit-∪ d placed (2 ^ c), bit_other d c q), q)

  unplaced : (d : ℕ) → bit d (placed ∪ 2 ^ c) ≡ 0 → (bit d placed ≡ 0) × (d ≡ c → ⊥)
  unplaced d i =
      let u = bit-∪ d placed (2 ^ c) in
      (omega arith, λ e. omega (arith, bit_single c, ap (λ (x : ℕ). bit x (2 ^ c)) e))

  pub place_one : Placing hold w others (placed ∪ 2 ^ c) (free ∖ 2 ^ b) ws before (set slots c b)
  place_one =
      record {
        part = λ d. among d (ℕ_discrete d c);
        most = λ d. few d (ℕ_discrete d c);
        room = room_next;
        vacant = λ d i n. let u = unplaced d n in vacant_next d i u.0 u.1;
        waits = λ d n. let u = unplaced d n in old_slot d u.1 ∙ at.waits d u.0;
        agree = λ d p i o m. agrees d p o m (which d i (ℕ_discrete d c));
        taken = λ d i. takes d (which d i (ℕ_discrete d c));
        apart = λ d e i j. one d e (which d i (ℕ_discrete d c)) (which e j (ℕ_discrete e c));
      }
    where
      among : (d : ℕ) → Dec (d ≡ c) → bit d (placed ∪ 2 ^ c) ≤ bit d others
      among d (yes e) = rw e (omega (arith, mine))
      among d (no q) = omega (arith, bit-∪ d placed (2 ^ c), bit_other d c q, at.part d)

      few : (d : ℕ) → Dec (d ≡ c) → get_or (set slots c b) d 0 ≤ 64
      few d (yes e) = rw (e, new_slot) low.most
      few d (no q) = rw (old_slot d q) (at.most d)

      agrees : (d p : ℕ) → 1 ≤ p → p ≤ 64 → (d ≡ c) ⊎ ((bit d placed ≡ 1) × (d ≡ c → ⊥))
          → bit d (held_next hold w ws p) ≡ holds_at (get_or (set slots c b) d 0) p
      agrees d p o m (inl e) = rw (e, new_slot) (placed_exact p o m)
      agrees d p o m (inr i) = rw (old_slot d i.1) (at.agree d p i.0 o m)

      takes : (d : ℕ) → (d ≡ c) ⊎ ((bit d placed ≡ 1) × (d ≡ c → ⊥)) → bit (get_or (set slots c b) d 0) (free ∖ 2 ^ b) ≡ 0
      takes d (inl e) = rw (e, new_slot) (rest_same b free)
      takes d (inr i) = rw (old_slot d i.1) (omega (arith, at.taken d i.0, bit-∖ (get_or slots d 0) free (2 ^ b)))

      -- one placed before has not the slot that c takes
      differ : (d : ℕ) → bit d placed ≡ 1 → b ≡ get_or slots d 0 → b < 64 → ⊥
      differ d i e h = omega (arith, (low.there h).0, at.taken d i, ap (λ (x : ℕ). bit x free) e)

      one : (d e : ℕ) → (d ≡ c) ⊎ ((bit d placed ≡ 1) × (d ≡ c → ⊥)) → (e ≡ c) ⊎ ((bit e placed ≡ 1) × (e ≡ c → ⊥))
          → get_or (set slots c b) d 0 ≡ get_or (set slots c b) e 0 → get_or (set slots c b) d 0 < 64 → d ≡ e
      one d e (inl f) (inl g) s h = f ∙ sym g
      one d e (inl f) (inr j) s h =
          let n : get_or (set slots c b) d 0 ≡ b = rw f new_slot in
          absurd (differ e j.0 (sym n ∙ s ∙ old_slot e j.1) (omega arith))
      one d e (inr i) (inl g) s h =
          let n : get_or (set slots c b) e 0 ≡ b = rw g new_slot in
          absurd (differ d i.0 (sym n ∙ sym s ∙ old_slot d i.1) (omega (arith, sym n ∙ sym s)))
      one d e (inr i) (inr j) s h =
          at.apart d e i.0 j.0 (sym (old_slot d i.1) ∙ s ∙ old_slot e j.1) (omega (arith, old_slot d i.1))
