-- The bits of a set, and the two rules that carry every law: sets that have the same bits are the same (`same_by_bits`), and what holds of the sums of
-- each bit holds of the sums of the sizes (`sizes_le`, `sizes_eq`). So a law is shown at one bit: `simp bitwise` says what the bit of each operation is,
-- and `omega` knows `min`, `max` and `-`.
use mathlib.Core.Path.{◌≡◌, refl, sym, ap, ◌∙◌}
use mathlib.Core.List.{List, [], ◌∷◌}
use Prim.Native.Nat.{ℕ, zero, suc, ◌+◌, ◌-◌, ◌/◌, ◌%◌, ◌^◌, ◌≤◌, ◌<◌, min, max, zero-le}
use native.Mathlib.Nat.{pow-suc, div-div-eq-div-mul, mul_comm, le_antisymm, le_refl, div-eq_of_lt}
use native.Mathlib.Omega.{arith}
use lib.Arith.{bin_ind}
use lib.Bits.{and_step, or_step, and_le_l}
use lib.Count.{ones, ones_step}
use Rattle.bitset.specs.Set.{◌∩◌, ◌∪◌, ◌∖◌, size, bit}

-- ---- the bits of a set (`bit` is an `abbrev`, so that `omega` reads the `% 2` and knows by itself that a bit is 0 or 1)

pub bit_zero : (s : ℕ) → bit 0 s ≡ s % 2
bit_zero s = omega arith

pub bit_suc : (k s : ℕ) → bit (suc k) s ≡ bit k (s / 2)
bit_suc k s = ap (λ (x : ℕ). x % 2) (ap (λ (x : ℕ). s / x) (pow-suc 2 k ∙ mul_comm (2 ^ k) 2) ∙ sym (div-div-eq-div-mul s 2 (2 ^ k)))

-- an operation that works on the lowest bit by f and on the rest by itself works on each bit by f
module _ (op f : ℕ → ℕ → ℕ)
    (half : (a b : ℕ) → op a b / 2 ≡ op (a / 2) (b / 2))
    (odd : (a b : ℕ) → op a b % 2 ≡ f (a % 2) (b % 2)) where
  each_bit : (k a b : ℕ) → bit k (op a b) ≡ f (bit k a) (bit k b)
  each_bit zero a b = simp bit_zero (odd a b)
  each_bit (suc k) a b = simp (bit_suc, half) (each_bit k (a / 2) (b / 2))

pub bit-∩ : (k a b : ℕ) → bit k (a ∩ b) ≡ min (bit k a) (bit k b)
bit-∩ = each_bit ◌∩◌ min (λ a b. omega (arith, and_step a b)) (λ a b. omega (arith, and_step a b))

pub bit-∪ : (k a b : ℕ) → bit k (a ∪ b) ≡ max (bit k a) (bit k b)
bit-∪ = each_bit ◌∪◌ max (λ a b. omega (arith, or_step a b)) (λ a b. omega (arith, or_step a b))

pub bit-∖ : (k a b : ℕ) → bit k (a ∖ b) ≡ bit k a - bit k b
bit-∖ =
    each_bit ◌∖◌ ◌-◌ (λ a b. omega (arith, and_step a b, and_le_l (a / 2) (b / 2))) (λ a b. omega (arith, and_step a b, and_le_l (a / 2) (b / 2)))

pub ruleset bitwise = (bit-∩, bit-∪, bit-∖)

pub bit_empty : (k : ℕ) → bit k 0 ≡ 0
bit_empty zero = bit_zero 0
bit_empty (suc k) = bit_suc k 0 ∙ bit_empty k

pub half_pow : (k : ℕ) → 2 ^ suc k / 2 ≡ 2 ^ k
half_pow k = omega arith

pub bit_single : (k : ℕ) → bit k (2 ^ k) ≡ 1
bit_single zero = bit_zero 1
bit_single (suc k) = simp (bit_suc, half_pow) (bit_single k)

pub bit_other : (j k : ℕ) → (j ≡ k → ⊥) → bit j (2 ^ k) ≡ 0
bit_other zero zero h = absurd (h refl)
bit_other zero (suc k) h = omega (arith, bit_zero (2 ^ suc k))
bit_other (suc j) zero h = bit_suc j 1 ∙ bit_empty j
bit_other (suc j) (suc k) h = simp (bit_suc, half_pow) (bit_other j k (λ e. h (ap suc e)))

pub bit_beyond : (k s : ℕ) → s < 2 ^ k → bit k s ≡ 0
bit_beyond k s h = ap (λ (x : ℕ). x % 2) (div-eq_of_lt h)

-- ---- sets are ordered, and equal, by their bits

pub le_by_bits : (a b : ℕ) → ((k : ℕ) → bit k a ≤ bit k b) → a ≤ b
le_by_bits a =
    bin_ind (λ (n : ℕ). (b : ℕ) → ((k : ℕ) → bit k n ≤ bit k b) → n ≤ b) (λ b h. zero-le)
    (λ n ih b h. omega (arith, h 0, bit_zero n, bit_zero b, ih (b / 2) (λ k. simp (← bit_suc) (h (suc k))))) a

pub same_by_bits : (a b : ℕ) → ((k : ℕ) → bit k a ≡ bit k b) → a ≡ b
same_by_bits a b h = le_antisymm (le_by_bits a b (λ k. omega (arith, h k))) (le_by_bits b a (λ k. omega (arith, h k)))

-- ---- sizes are compared bit by bit: what holds of the sums of each bit holds of the sums of the sizes

abbrev pub sizes : List ℕ → ℕ
sizes [] = 0
sizes (s ∷ ss) = size s + sizes ss

abbrev pub bits_at : ℕ → List ℕ → ℕ
bits_at k [] = 0
bits_at k (s ∷ ss) = bit k s + bits_at k ss

abbrev total : List ℕ → ℕ
total [] = 0
total (s ∷ ss) = s + total ss

abbrev halves : List ℕ → List ℕ
halves [] = []
halves (s ∷ ss) = s / 2 ∷ halves ss

sizes_step : (ss : List ℕ) → sizes ss ≡ bits_at 0 ss + sizes (halves ss)
sizes_step [] = refl
sizes_step (s ∷ ss) = omega (arith, ones_step s, bit_zero s, sizes_step ss)

bits_suc : (k : ℕ) (ss : List ℕ) → bits_at (suc k) ss ≡ bits_at k (halves ss)
bits_suc k [] = refl
bits_suc k (s ∷ ss) = omega (arith, bit_suc k s, bits_suc k ss)

total_half : (ss : List ℕ) → total (halves ss) ≤ total ss / 2
total_half [] = zero-le
total_half (s ∷ ss) = omega (arith, total_half ss)

pub size_empty : size 0 ≡ 0
unfolding ones
size_empty = refl

sizes_none : (ss : List ℕ) → total ss ≡ 0 → sizes ss ≡ 0
sizes_none [] h = refl
sizes_none (s ∷ ss) h =
    let e : s ≡ 0 = omega arith in omega (arith, ap size e ∙ size_empty, sizes_none ss (omega arith))

fuel_le : (d : ℕ) (xs ys : List ℕ) → total xs ≤ d → ((k : ℕ) → bits_at k xs ≤ bits_at k ys) → sizes xs ≤ sizes ys
fuel_le zero xs ys h p = omega (arith, sizes_none xs (omega arith))
fuel_le (suc d) xs ys h p =
    omega (arith, sizes_step xs, sizes_step ys, p 0, fuel_le d (halves xs) (halves ys) (omega (arith, total_half xs)) (λ k. simp (← bits_suc) (p (suc k))))

pub sizes_le : (xs ys : List ℕ) → ((k : ℕ) → bits_at k xs ≤ bits_at k ys) → sizes xs ≤ sizes ys
sizes_le xs ys = fuel_le (total xs) xs ys (le_refl (total xs))

pub sizes_eq : (xs ys : List ℕ) → ((k : ℕ) → bits_at k xs ≡ bits_at k ys) → sizes xs ≡ sizes ys
sizes_eq xs ys h = le_antisymm (sizes_le xs ys (λ k. omega (arith, h k))) (sizes_le ys xs (λ k. omega (arith, h k)))
