-- The others get their slots, those with the soonest next use first; and one step of the walk for all drive sizes.
use mathlib.Core.Path.{◌≡◌, refl, sym, ap, ◌∙◌, subst}
use mathlib.Core.Logic.{◌⊎◌, inl, inr}
use mathlib.Core.List.{List, [], ◌∷◌}
use Prim.Native.Nat.{ℕ, zero, suc, ◌+◌, ◌-◌, ◌%◌, ◌^◌, ◌≤◌, ◌<◌, min}
use native.Mathlib.Omega.{arith}
use native.Mathlib.Decide.{ℕ_discrete, dec_le}
use lib.Count.{count_trailing_zeros, ones-ones}
use lib.ListN.{length, get_or, drop, set}
use Rattle.bitset.specs.Set.{◌∩◌, ◌∪◌, ◌∖◌, size, bit, below}
use Rattle.bitset.proofs.Bits.{bitwise, bit-∩, bit-∪, bit-∖, bit_empty, bit_other, same_by_bits, sizes_eq}
use Rattle.bitset.proofs.Element.{∈-lt, lowest_le, lowest_in, shl_some, shl_none}
use Rattle.bitset.proofs.Parts.{◌≼◌, bit_below, single-≼, in_range}
use Rattle.drive.specs.declared.choice.NextUse.{NextUse}
use Rattle.drive.specs.declared.choice.NextUse.TheVariants.{At, Never}
use Rattle.drive.specs.Uses.{next_use}
use Rattle.drive.specs.Plan.{furthest, drops_for}
use Rattle.drive.specs.Steps.{together}
use Rattle.drive.specs.ContractWords.{GoesBefore}
use Rattle.every_size.specs.ContractWords.{holds_at, held_next, Slotted, Waiting, NextGroup, Placing}
use Rattle.drive.proofs.Fewest.{our_drops}
use Rattle.drive.proofs.Best.{good}
use Rattle.drive.proofs.Walk.{Walked}
use Rattle.drive.proofs.Turns.{step_of}
use Rattle.drive.proofs.Groups.{step_zero, Met, one_met}
use Rattle.drive.proofs.Staying.{same_before, further_before, never_before}
use Rattle.every_size.proofs.Slots.{LowestFrom, lowest_from, place_one}

-- ---- one of a group

-- the slots that are left, when b is taken: none where b is 64
pub left_free : (free b : ℕ) → free < 2 ^ 64 → b ≤ 64 → free ∖ (2 ^ b % 2 ^ 64) ≡ free ∖ 2 ^ b
left_free free b r m = go (dec_le 64 b)
  where
    go : Dec (64 ≤ b) → free ∖ (2 ^ b % 2 ^ 64) ≡ free ∖ 2 ^ b
    go (no h) = ap (λ (x : ℕ). free ∖ x) (shl_some 64 b (omega arith))
    go (yes h) =
        rw (shl_none 64 b h)
        (same_by_bits (free ∖ 0) (free ∖ 2 ^ b) (λ k. none k (ℕ_discrete k b)))
      where
        none : (k : ℕ) → Dec (k ≡ b) → bit k (free ∖ 0) ≡ bit k (free ∖ 2 ^ b)
        none k (no q) = omega (arith, bit-∖ k free 0, bit-∖ k free (2 ^ b), bit_empty k, bit_other k b q)
        none k (yes q) = out (bit k free) refl
          where
            out : (x : ℕ) → bit k free ≡ x → bit k (free ∖ 0) ≡ bit k (free ∖ 2 ^ b)
            out zero e = omega (arith, bit-∖ k free 0, bit-∖ k free (2 ^ b))
            out (suc x) e = absurd (omega (arith, ∈-lt k 64 free (omega arith) r))

-- a group of which `left` is left
module _ {hold : ℕ → ℕ} {w seen others placed group left free : ℕ} {ws before slots : List ℕ} (wait : Waiting hold w seen others ws before)
    (next : NextGroup others placed group ws) (walked : Walked group left) (some : 0 < left) (range : left < 2 ^ 64) (free_range : free < 2 ^ 64)
    (long : 64 ≤ length slots) (at : Placing hold w others (placed ∪ (group ∖ left)) free ws before slots) where
  abbrev c : ℕ
  c = count_trailing_zeros 64 left

  abbrev b : ℕ
  b = count_trailing_zeros 64 (free ∖ below (min (get_or slots c 0) 64))

  in_left : bit c left ≡ 1
  in_left = lowest_in 64 left some range

  in_group : bit c group ≡ 1
  in_group = omega (arith, in_left, walked.part c)

  waiting : bit c (placed ∪ (group ∖ left)) ≡ 0
  waiting = omega (arith, (next.part c in_group).1, in_left, bit-∪ c placed (group ∖ left), bit-∖ c group left)

  after : (d : ℕ) → bit d (placed ∪ (group ∖ left)) ≡ 1 → GoesBefore ws c d
  after d i = go (bit d placed) refl
    where
      go : (x : ℕ) → bit d placed ≡ x → GoesBefore ws c d
      go (suc x) e = next.later c d in_group (omega arith)
      go zero e =
          let u = bit-∪ d placed (group ∖ left) in
          let v = bit-∖ d group left in
          next.same c d in_group (omega arith) (omega (arith, walked.lower d c (omega arith) (omega arith) in_left))

  sooner : (d : ℕ) → bit d others ≡ 1 → bit d (placed ∪ (group ∖ left)) ≡ 0 → GoesBefore ws d c
  sooner d i n = go (bit d group) refl
    where
      go : (x : ℕ) → bit d group ≡ x → GoesBefore ws d c
      go zero e = next.sooner c d in_group i (omega (arith, bit-∪ d placed (group ∖ left))) e
      go (suc x) e =
          next.same d c (omega arith) in_group
          (lowest_le 64 left d (omega (arith, bit-∪ d placed (group ∖ left), bit-∖ d group left)))

  held_range : (p : ℕ) → hold p ≼ below 64
  held_range p k = omega (arith, wait.known p k, in_range 64 seen wait.range k)

  pub place_next : Placing hold w others (placed ∪ (group ∖ (left ∖ 2 ^ c))) (free ∖ (2 ^ b % 2 ^ 64)) ws before (set slots c b)
  place_next =
      let low = subst (λ (x : ℕ). LowestFrom free x b) (at.waits c waiting) (lowest_from free (get_or slots c 0) free_range) in
      let more : placed ∪ (group ∖ left) ∪ 2 ^ c ≡ placed ∪ (group ∖ (left ∖ 2 ^ c)) =
      same_by_bits _ _ (λ k. simp bitwise (omega (arith, single-≼ c left in_left k, walked.part k))) in
      rw (left_free free b free_range low.most, ← more)
      (place_one wait at c b (next.part c in_group).0 waiting after sooner held_range (omega (arith, long, ∈-lt c 64 left in_left range)) low)

-- ---- one step of the walk after the other

-- of the others those in `left` are not met in the first k of the later steps, and each other one is
pub record Passed (others left k : ℕ) (later : List ℕ) : Type 0 where
  pub part : left ≼ others
  pub ahead : (c : ℕ) → bit c left ≡ 1 → next_use c later ≡ step_of k (next_use c (drop k later))
  pub met : (c : ℕ) → bit c others ≡ 1 → bit c left ≡ 0 → (m : ℕ) × (m < k) × (next_use c later ≡ At m)

pub none_passed : (others : ℕ) (later : List ℕ) → Passed others others 0 later
none_passed others later = record { part = λ c. omega arith; ahead = λ c i. sym (step_zero _); met = λ c i n. absurd (omega arith) }

-- one that is not met in the first steps goes before one that is met there
later_before : (c d k n m : ℕ) (ws : List ℕ) (u : NextUse) → next_use d ws ≡ step_of n u → next_use c ws ≡ At m → m < n → GoesBefore ws d c
unfolding step_of
later_before c d k n m ws Never e f h = never_before d c ws m e f
later_before c d k n m ws (At x) e f h = further_before d c ws (n + x) m e f (omega arith)

module _ {others left hit k : ℕ} {later : List ℕ} (p : Passed others left k later) (used : others ≼ together later) (more : k < length later)
    (is : hit ≡ left ∩ get_or later k 0) where
  abbrev step : Met others left hit k later
  step = one_met others (together later) left hit k later more (λ c. omega (arith, p.part c, used c, bit-∩ c others (together later))) p.ahead is

  in_hit : (c : ℕ) → bit c hit ≤ bit c left
  in_hit c = omega (arith, ap (bit c) is, bit-∩ c left (get_or later k 0))

  pub next_group : NextGroup others (others ∖ left) hit later
  next_group =
      record {
        part = λ c i. let b = bit-∖ c others left in (omega (arith, in_hit c, p.part c), omega (arith, in_hit c));
        later = λ c d i m. let b = bit-∖ d others left in
            let r = p.met d (omega arith) (omega arith) in further_before c d later k r.0 (step.found c i) r.2 r.1;
        sooner = λ c d i m n o. let b = bit-∖ d others left in
            later_before c d k (k + 1) k later _ (step.still d (omega (arith, bit-∖ d left hit))) (step.found c i) (omega arith);
        same = λ c d i m l. same_before c d later (At k) (step.found c i) (step.found d m) l;
      }

  pub passed_next : Passed others (left ∖ hit) (k + 1) later
  passed_next =
      record {
        part = λ c. omega (arith, p.part c, bit-∖ c left hit);
        ahead = step.still;
        met = λ c i n. go c i n (bit c left) refl;
      }
    where
      go : (c : ℕ) → bit c others ≡ 1 → bit c (left ∖ hit) ≡ 0 → (x : ℕ) → bit c left ≡ x → (m : ℕ) × (m < k + 1) × (next_use c later ≡ At m)
      go c i n zero e = let r = p.met c i e in (r.0, omega (arith, r.1), r.2)
      go c i n (suc x) e = (k, omega arith, step.found c (omega (arith, bit-∖ c left hit)))

  pub placed_next : others ∖ left ∪ hit ≡ others ∖ (left ∖ hit)
  placed_next = sym step.others

-- ---- none is placed yet: the slots from the number of wanted curves on are free
module _ (wanted : ℕ) where
  abbrev pub unwanted : ℕ
  unwanted = below (min 64 64) ∖ below (min wanted 64)

  bit_unwanted : (k : ℕ) → bit k unwanted ≡ min 1 (64 - k) - min 1 (min wanted 64 - k)
  bit_unwanted k = bit-∖ k (below (min 64 64)) (below (min wanted 64)) ∙ rw (bit_below k (min 64 64), bit_below k (min wanted 64)) refl

  is_free : (k : ℕ) → wanted ≤ k → k < 64 → bit k unwanted ≡ 1
  is_free k l h = omega (arith, bit_unwanted k)

  not_free : (k : ℕ) → k < wanted → bit k unwanted ≡ 0
  not_free k l = omega (arith, bit_unwanted k)

  size_unwanted : (p : ℕ) → p ≤ 64 → size (unwanted ∩ below p) ≡ p - wanted
  size_unwanted p h =
      omega (
        arith,
        ones-ones p,
        ones-ones (min wanted p),
        sizes_eq (unwanted ∩ below p ∷ below (min wanted p) ∷ []) (below p ∷ []) (λ k. go k (dec_le p k) (dec_le wanted k)),
      )
    where
      go : (k : ℕ) → Dec (p ≤ k) → Dec (wanted ≤ k) → bit k (unwanted ∩ below p) + (bit k (below (min wanted p)) + 0) ≡ bit k (below p) + 0
      go k (yes l) q = omega (arith, bit-∩ k unwanted (below p), bit_below k p, bit_below k (min wanted p))
      go k (no l) (yes q) =
          let one : bit k (below p) ≡ 1 = omega (arith, bit_below k p) in
          omega (arith, bit-∩ k unwanted (below p), is_free k q (omega arith), bit_below k (min wanted p))
      go k (no l) (no q) =
          let one : bit k (below p) ≡ 1 = omega (arith, bit_below k p) in
          omega (arith, bit-∩ k unwanted (below p), not_free k (omega arith), bit_below k (min wanted p))

  pub none_placed : {hold : ℕ → ℕ} {w others : ℕ} {ws slots : List ℕ} → ((c : ℕ) → get_or slots c 0 ≤ 64) → wanted ≡ size w
      → Placing hold w others 0 unwanted ws slots slots
  none_placed {hold} {w} {others} {ws} {slots} most e =
      record {
        part = λ c. omega (arith, bit_empty c);
        most = most;
        room = λ p o m. rw (nothing (hold p)) (omega (arith, size_unwanted p m, e));
        vacant = λ c i n l. go (get_or slots c 0) l (dec_le wanted (get_or slots c 0));
        waits = λ c n. refl;
        agree = λ c p i. absurd (omega (arith, bit_empty c));
        taken = λ c i. absurd (omega (arith, bit_empty c));
        apart = λ c d i. absurd (omega (arith, bit_empty c));
      }
    where
      nothing : (s : ℕ) → size (s ∩ 0) ≡ 0
      nothing s = omega (arith, sizes_eq (s ∩ 0 ∷ []) [] (λ c. simp (bitwise, bit_empty) (omega arith)))

      go : (a : ℕ) → a < 64 → Dec (wanted ≤ a) → (bit a unwanted ≡ 1) ⊎ (size (unwanted ∩ below a) ≡ 0)
      go a l (yes h) = inl (is_free a h l)
      go a l (no h) = inr (omega (arith, size_unwanted a (omega arith)))

-- ---- one step, of a test that wants w, before later ones that want ws
module _ {hold : ℕ → ℕ} {w seen : ℕ} {ws slots : List ℕ} (old : Slotted hold seen (w ∷ ws) slots) (range : seen < 2 ^ 64) (wide : w < 2 ^ 64) where
  abbrev others : ℕ
  others = (seen ∖ w) ∩ together ws

  -- what a later step wants is used again
  used : (c : ℕ) → bit c (together ws) ≡ 1 → bit c (together (w ∷ ws)) ≡ 1
  unfolding together
  used c i = omega (arith, bit-∪ c w (together ws))

  wanted : (c : ℕ) → bit c w ≡ 1 → bit c (together (w ∷ ws)) ≡ 1
  unfolding together
  wanted c i = omega (arith, bit-∪ c w (together ws))

  bit_others : (c : ℕ) → bit c others ≡ min (bit c seen - bit c w) (bit c (together ws))
  bit_others c = bit-∩ c (seen ∖ w) (together ws) ∙ ap (λ (x : ℕ). min x (bit c (together ws))) (bit-∖ c seen w)

  small : (c : ℕ) → bit c seen ≡ 1 → c < 64
  small c i = ∈-lt c 64 seen i range

  -- the wanted curves are loaded where the slots say so
  pub loads_agree : (p : ℕ) → 1 ≤ p → p ≤ 64 → (c : ℕ) → bit c w ≡ 1 → bit c (hold p) ≡ holds_at (get_or slots c 0) p
  loads_agree p o m c i = old.agree c p (∈-lt c 64 w i wide) (wanted c i) o m

  -- with the wanted curves in slot 0
  module _ {before : List ℕ} (zero_slots : (c : ℕ) → bit c w ≡ 1 → get_or before c 0 ≡ 0)
      (kept : (c : ℕ) → bit c w ≡ 0 → get_or before c 0 ≡ get_or slots c 0) where
    pub waiting_others : Waiting hold w seen others ws before
    waiting_others =
        record {
          range = range;
          most = λ c. few c (bit c w) refl;
          known = old.known;
          these = refl;
          agree = λ c p i o m. let b = bit_others c in
              rw (kept c (omega arith)) (old.agree c p (small c (omega arith)) (used c (omega arith)) o m);
          apart = λ c d i j. let a = bit_others c in
              let b = bit_others d in
              rw (kept c (omega arith), kept d (omega arith))
              (old.apart c d (small c (omega arith)) (small d (omega arith)) (used c (omega arith)) (used d (omega arith)));
        }
      where
        few : (c x : ℕ) → bit c w ≡ x → get_or before c 0 ≤ 64
        few c zero e = rw (kept c e) (old.most c)
        few c (suc x) e = omega (arith, zero_slots c (omega arith))

    -- AND THE SLOTS ARE THOSE BEHIND THE STEP, when all others are placed
    module _ {free : ℕ} {after : List ℕ} (at : Placing hold w others others free ws before after) where
      drive_range : (p : ℕ) → hold p ≼ below 64
      drive_range p k = omega (arith, old.known p k, in_range 64 seen range k)

      -- what is wanted is held by every drive
      wanted_held : (p c : ℕ) → bit c w ≡ 1 → bit c (held_next hold w ws p) ≡ 1
      wanted_held p c i =
          let d = drops_for (furthest 64) p (hold p) w ws in
          let ours = (our_drops (below 64) (furthest 64) (good 64) p (hold p) w ws (drive_range p)).among c in
          omega (arith, bit-∪ c (hold p ∖ d) (w ∖ hold p), bit-∖ c (hold p) d, bit-∖ c w (hold p), bit-∖ c (hold p) w)

      -- and what was not seen by none
      unseen : (p c : ℕ) → bit c w ≡ 0 → bit c seen ≡ 0 → bit c (held_next hold w ws p) ≡ 0
      unseen p c i n =
          let d = drops_for (furthest 64) p (hold p) w ws in
          omega (arith, bit-∪ c (hold p ∖ d) (w ∖ hold p), bit-∖ c (hold p) d, bit-∖ c w (hold p), old.known p c)

      -- the slot of a curve that waits or is wanted
      slot_kept : (c : ℕ) → bit c others ≡ 0 → get_or after c 0 ≡ get_or before c 0
      slot_kept c n = at.waits c n

      agrees : (c p : ℕ) → c < 64 → bit c (together ws) ≡ 1 → 1 ≤ p → p ≤ 64 → bit c (held_next hold w ws p) ≡ holds_at (get_or after c 0) p
      agrees c p l u o m = go (bit c w) refl (bit c seen) refl
        where
          go : (x : ℕ) → bit c w ≡ x → (y : ℕ) → bit c seen ≡ y → bit c (held_next hold w ws p) ≡ holds_at (get_or after c 0) p
          go (suc x) e y f =
              omega (arith, wanted_held p c (omega arith), slot_kept c (omega (arith, bit_others c)), zero_slots c (omega arith))
          go zero e zero f =
              omega (
                arith,
                unseen p c e f,
                slot_kept c (omega (arith, bit_others c)),
                kept c e,
                old.agree c p l (used c u) o m,
                old.known p c,
              )
          go zero e (suc y) f = at.agree c p (omega (arith, bit_others c)) o m

      -- a curve with a slot above 0 that a drive has is one of the others
      other : (c : ℕ) → c < 64 → bit c (together ws) ≡ 1 → 0 < get_or after c 0 → get_or after c 0 < 64 → bit c others ≡ 1
      other c l u pos low = go (bit c w) refl (bit c seen) refl
        where
          go : (x : ℕ) → bit c w ≡ x → (y : ℕ) → bit c seen ≡ y → bit c others ≡ 1
          go (suc x) e y f = absurd (omega (arith, slot_kept c (omega (arith, bit_others c)), zero_slots c (omega arith)))
          go zero e zero f =
              absurd (omega (arith, unseen 64 c e f, agrees c 64 l u (omega arith) (omega arith)))
          go zero e (suc y) f = omega (arith, bit_others c)

      pub slotted_next : Slotted (held_next hold w ws) (seen ∪ w) ws after
      slotted_next =
          record {
            most = at.most;
            known = λ p c. let d = drops_for (furthest 64) p (hold p) w ws in
                omega (arith, bit-∪ c (hold p ∖ d) (w ∖ hold p), bit-∖ c (hold p) d, bit-∖ c w (hold p), old.known p c, bit-∪ c seen w);
            agree = agrees;
            apart = λ c d l m u v e pos low. at.apart c d (other c l u pos low) (other d m v (omega arith) (omega arith)) e low;
          }
