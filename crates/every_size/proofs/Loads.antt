-- The loads of the wanted curves, counted by their slots: the drive with p places makes the loads of the slots from p on.
use mathlib.Core.Path.{◌≡◌, refl, sym, ap, ◌∙◌}
use mathlib.Core.List.{List, [], ◌∷◌}
use Prim.Native.Nat.{ℕ, zero, suc, ◌+◌, ◌-◌, ◌^◌, ◌≤◌, ◌<◌, min}
use native.Mathlib.Omega.{arith}
use native.Mathlib.Decide.{ℕ_discrete}
use lib.ListN.{length, get_or, drop, set}
use lib.Seq.{get_or-set_same, get_or-set_other}
use Rattle.bitset.specs.Set.{◌∩◌, ◌∖◌, size, bit}
use Rattle.bitset.proofs.Bits.{bitwise, bit-∖, bit_other, bit_empty, same_by_bits, size_empty, sizes_eq}
use Rattle.bitset.proofs.Parts.{◌≼◌, single-≼, size_single_of, rest_same}
use Rattle.every_size.specs.ContractWords.{sum, holds_at}

-- ---- sums

-- an entry is part of the sum
pub entry_le : (xs : List ℕ) (i : ℕ) → get_or xs i 0 ≤ sum xs
unfolding sum
entry_le [] i = omega arith
entry_le (x ∷ xs) zero = omega arith
entry_le (x ∷ xs) (suc i) = omega (arith, entry_le xs i)

-- one more in entry s: the sum from entry p on has one more where p ≤ s
pub sum_one : (xs : List ℕ) (p s : ℕ) → s < length xs → sum (drop p (set xs s (get_or xs s 0 + 1))) ≡ sum (drop p xs) + (1 - min 1 (p - s))
unfolding sum
sum_one [] p s h = absurd (omega arith)
sum_one (x ∷ xs) zero zero h = omega arith
sum_one (x ∷ xs) zero (suc s) h = omega (arith, sum_one xs 0 s (omega arith))
sum_one (x ∷ xs) (suc p) zero h = omega arith
sum_one (x ∷ xs) (suc p) (suc s) h = sum_one xs p s (omega arith) ∙ ap (λ (n : ℕ). sum (drop p xs) + (1 - min 1 n)) (omega arith)

-- one entry and those behind it
pub sum_from : (xs : List ℕ) (p : ℕ) → p < length xs → sum (drop p xs) ≡ get_or xs p 0 + sum (drop (suc p) xs)
unfolding sum
sum_from [] p h = absurd (omega arith)
sum_from (x ∷ xs) zero h = refl
sum_from (x ∷ xs) (suc p) h = sum_from xs p (omega arith)

pub sum_le : (xs : List ℕ) (p : ℕ) → sum (drop p xs) ≤ sum xs
unfolding sum
sum_le [] zero = omega arith
sum_le [] (suc p) = omega arith
sum_le (x ∷ xs) zero = omega arith
sum_le (x ∷ xs) (suc p) = omega (arith, sum_le xs p)

-- ---- the walk over the wanted curves: `left` is left

pub record Loaded (want left : ℕ) (slots₀ loads₀ slots loads : List ℕ) : Type 0 where
  pub part : left ≼ want
  pub bound : (c : ℕ) → get_or slots c 0 ≤ 64
  pub few : sum loads + size left ≤ 65535
  -- the loads of a drive that holds `hold` are those so far and those to come
  pub counted : (p hold : ℕ) → ((c : ℕ) → bit c want ≡ 1 → bit c hold ≡ holds_at (get_or slots₀ c 0) p)
      → sum (drop p loads) + size (left ∖ hold) ≡ sum (drop p loads₀) + size (want ∖ hold)
  pub passed : (c : ℕ) → bit c want ≡ 1 → bit c left ≡ 0 → get_or slots c 0 ≡ 0
  pub kept : (c : ℕ) → bit c want ≤ bit c left → get_or slots c 0 ≡ get_or slots₀ c 0

pub loaded_start : (want : ℕ) (slots loads : List ℕ) → ((c : ℕ) → get_or slots c 0 ≤ 64) → sum loads + size want ≤ 65535
    → Loaded want want slots loads slots loads
loaded_start want slots loads b f =
    record {
      part = λ c. omega arith;
      bound = b;
      few = f;
      counted = λ p hold a. refl;
      passed = λ c i n. absurd (omega arith);
      kept = λ c l. refl;
    }

-- curve c is loaded
module _ {want left : ℕ} {slots₀ loads₀ slots loads : List ℕ} (l : Loaded want left slots₀ loads₀ slots loads) (c : ℕ) (mine : bit c left ≡ 1)
    (long : c < length slots) (long_loads : 65 ≤ length loads) where
  abbrev slot_of : ℕ
  slot_of = get_or slots c 0

  own_slot : slot_of ≡ get_or slots₀ c 0
  own_slot = l.kept c (omega (arith, l.part c))

  -- c and the rest
  one_less : (hold : ℕ) → size (left ∖ hold) ≡ size (left ∖ 2 ^ c ∖ hold) + (1 - bit c hold)
  one_less hold =
      let one : size ((left ∖ hold) ∩ 2 ^ c) ≡ 1 - bit c hold = size_single_of c (left ∖ hold) ∙ omega (arith, bit-∖ c left hold) in
      omega (
        arith,
        one,
        sizes_eq (left ∖ hold ∷ []) (left ∖ 2 ^ c ∖ hold ∷ (left ∖ hold) ∩ 2 ^ c ∷ []) (λ k. simp bitwise (omega (arith, single-≼ c left mine k))),
      )

  pub loaded_next : Loaded want (left ∖ 2 ^ c) slots₀ loads₀ (set slots c 0) (set loads slot_of (get_or loads slot_of 0 + 1))
  loaded_next =
      record {
        part = λ k. omega (arith, bit-∖ k left (2 ^ c), l.part k);
        bound = λ k. bounds k (ℕ_discrete k c);
        few = omega (arith, l.few, sum_one loads 0 slot_of in_loads, none_held);
        counted = λ p hold a. counts p hold a;
        passed = λ k i n. pass k i n (ℕ_discrete k c);
        kept = λ k h. keep k h (ℕ_discrete k c);
      }
    where
      in_loads : slot_of < length loads
      in_loads = omega (arith, l.bound c)

      none_held : size left ≡ size (left ∖ 2 ^ c) + 1
      none_held =
          omega (
            arith,
            one_less 0,
            bit_empty c,
            ap size (same_by_bits (left ∖ 0) left (λ k. omega (arith, bit-∖ k left 0, bit_empty k))),
            ap size (same_by_bits (left ∖ 2 ^ c ∖ 0) (left ∖ 2 ^ c) (λ k. omega (arith, bit-∖ k (left ∖ 2 ^ c) 0, bit_empty k))),
          )

      bounds : (k : ℕ) → Dec (k ≡ c) → get_or (set slots c 0) k 0 ≤ 64
      bounds k (yes e) = rw (e, get_or-set_same slots c 0 0 long) (omega arith)
      bounds k (no e) = rw (get_or-set_other slots c k 0 0 e) (l.bound k)

      counts : (p hold : ℕ) → ((k : ℕ) → bit k want ≡ 1 → bit k hold ≡ holds_at (get_or slots₀ k 0) p)
          → sum (drop p (set loads slot_of (get_or loads slot_of 0 + 1))) + size (left ∖ 2 ^ c ∖ hold) ≡ sum (drop p loads₀) + size (want ∖ hold)
      counts p hold a =
          let held : bit c hold ≡ min 1 (p - slot_of) = a c (omega (arith, l.part c)) ∙ ap (λ (s : ℕ). min 1 (p - s)) (sym own_slot) in
          let more : sum (drop p (set loads slot_of (get_or loads slot_of 0 + 1))) ≡ sum (drop p loads) + (1 - bit c hold) =
          sum_one loads p slot_of in_loads ∙ ap (λ (x : ℕ). sum (drop p loads) + (1 - x)) (sym held) in
          omega (arith, more, one_less hold, l.counted p hold a)

      pass : (k : ℕ) → bit k want ≡ 1 → bit k (left ∖ 2 ^ c) ≡ 0 → Dec (k ≡ c) → get_or (set slots c 0) k 0 ≡ 0
      pass k i n (yes e) = rw e (get_or-set_same slots c 0 0 long)
      pass k i n (no e) = get_or-set_other slots c k 0 0 e ∙ l.passed k i (omega (arith, bit-∖ k left (2 ^ c), bit_other k c e))

      keep : (k : ℕ) → bit k want ≤ bit k (left ∖ 2 ^ c) → Dec (k ≡ c) → get_or (set slots c 0) k 0 ≡ get_or slots₀ k 0
      keep k h (yes e) =
          absurd (omega (arith, l.part c, rest_same c left, ap (λ (x : ℕ). bit x (left ∖ 2 ^ c)) e, ap (λ (x : ℕ). bit x want) e))
      keep k h (no e) = get_or-set_other slots c k 0 0 e ∙ l.kept k (omega (arith, bit-∖ k left (2 ^ c)))

-- all are loaded
pub loaded_end : {want : ℕ} {slots₀ loads₀ slots loads : List ℕ} → Loaded want 0 slots₀ loads₀ slots loads
    → ((p hold : ℕ) → ((c : ℕ) → bit c want ≡ 1 → bit c hold ≡ holds_at (get_or slots₀ c 0) p) → sum (drop p loads) ≡ sum (drop p loads₀) + size (want ∖ hold))
    × (((c : ℕ) → bit c want ≡ 1 → get_or slots c 0 ≡ 0) × ((c : ℕ) → bit c want ≡ 0 → get_or slots c 0 ≡ get_or slots₀ c 0))
loaded_end l = (
  λ p hold a. omega (arith, l.counted p hold a, ap size (same_by_bits (0 ∖ hold) 0 (λ k. omega (arith, bit-∖ k 0 hold, bit_empty k))), size_empty),
  (λ c i. l.passed c i (bit_empty c), λ c n. l.kept c (omega arith)),
)
