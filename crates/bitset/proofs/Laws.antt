-- The laws of finite sets, at every width. Each is shown at one bit (`Set.antt`). Assumes nothing.
use mathlib.Core.Path.{◌≡◌, refl, ap, ◌∙◌}
use mathlib.Core.List.{[], ◌∷◌}
use Prim.Native.Nat.{ℕ, ◌+◌, ◌^◌, ◌≤◌, ◌<◌}
use native.Mathlib.Nat.{lt_of_le_of_lt, sub-le}
use native.Mathlib.Omega.{arith}
use lib.Arith.{bin_ind}
use lib.Bits.{and_le_l, and_le_r, or_lt}
use lib.Count.{ones_step, ones-le}
use Rattle.bitset.specs.Set.{◌∩◌, ◌∪◌, ◌∖◌, ◌⊆◌, size, bit}
use Rattle.bitset.proofs.Bits.{bit-∩, bit_empty, bitwise, same_by_bits, sizes_le, sizes_eq, size_empty}

-- ---- parts

pub ⊆-bits : (a b : ℕ) → a ⊆ b → (k : ℕ) → bit k a ≤ bit k b
⊆-bits a b h k = omega (arith, bit-∩ k a b, ap (bit k) h)

pub ⊆-by_bits : (a b : ℕ) → ((k : ℕ) → bit k a ≤ bit k b) → a ⊆ b
⊆-by_bits a b h = same_by_bits (a ∩ b) a (λ k. simp bitwise (omega (arith, h k)))

pub ⊆-trans : (a b c : ℕ) → a ⊆ b → b ⊆ c → a ⊆ c
⊆-trans a b c h l = ⊆-by_bits a c (λ k. omega (arith, ⊆-bits a b h k, ⊆-bits b c l k))

pub ⊆-le : (a b : ℕ) → a ⊆ b → a ≤ b
⊆-le a b h = omega (arith, and_le_r a b)

pub ⊆-∪ : (a b : ℕ) → a ⊆ a ∪ b
⊆-∪ a b = ⊆-by_bits a (a ∪ b) (λ k. simp bitwise (omega arith))

pub ⊆-∪-r : (a b : ℕ) → b ⊆ a ∪ b
⊆-∪-r a b = ⊆-by_bits b (a ∪ b) (λ k. simp bitwise (omega arith))

-- ---- the algebra (that the operands may be exchanged is `and_comm` and `or_comm` of `lib.Bits`)

pub ∪-assoc : (a b c : ℕ) → a ∪ b ∪ c ≡ a ∪ (b ∪ c)
∪-assoc a b c = same_by_bits (a ∪ b ∪ c) (a ∪ (b ∪ c)) (λ k. simp bitwise (omega arith))

pub ∖-∖ : (a b c : ℕ) → a ∖ b ∖ c ≡ a ∖ (b ∪ c)
∖-∖ a b c = same_by_bits (a ∖ b ∖ c) (a ∖ (b ∪ c)) (λ k. simp bitwise (omega arith))

pub ∖-self : (a : ℕ) → a ∖ a ≡ 0
∖-self a = same_by_bits (a ∖ a) 0 (λ k. simp bitwise (omega (arith, bit_empty k)))

-- ---- bounds: sets of numbers below W are the numbers below 2 ^ W

pub ∪-lt : (W a b : ℕ) → a < 2 ^ W → b < 2 ^ W → a ∪ b < 2 ^ W
∪-lt = or_lt

pub ∩-lt : (W a b : ℕ) → a < 2 ^ W → a ∩ b < 2 ^ W
∩-lt W a b h = lt_of_le_of_lt (and_le_l a b) h

pub ∖-lt : (W a b : ℕ) → a < 2 ^ W → a ∖ b < 2 ^ W
∖-lt W a b h = lt_of_le_of_lt (sub-le a (a ∩ b)) h

pub size_le : (W s : ℕ) → s < 2 ^ W → size s ≤ W
size_le = ones-le

-- ---- sizes

pub size_split : (a b : ℕ) → size (a ∩ b) + size (a ∖ b) ≡ size a
size_split a b = omega (arith, sizes_eq (a ∩ b ∷ a ∖ b ∷ []) (a ∷ []) (λ k. simp bitwise (omega arith)))

pub size-∪-∩ : (a b : ℕ) → size (a ∪ b) + size (a ∩ b) ≡ size a + size b
size-∪-∩ a b = omega (arith, sizes_eq (a ∪ b ∷ a ∩ b ∷ []) (a ∷ b ∷ []) (λ k. simp bitwise (omega arith)))

pub size-∪ : (a b : ℕ) → size (a ∪ b) ≡ size a + size (b ∖ a)
size-∪ a b = omega (arith, sizes_eq (a ∪ b ∷ []) (a ∷ b ∖ a ∷ []) (λ k. simp bitwise (omega arith)))

pub size_disjoint : (a b : ℕ) → a ∩ b ≡ 0 → size (a ∪ b) ≡ size a + size b
size_disjoint a b h = omega (arith, size-∪-∩ a b, ap size h ∙ size_empty)

pub size_mono : (a b : ℕ) → a ⊆ b → size a ≤ size b
size_mono a b h = omega (arith, sizes_le (a ∷ []) (b ∷ []) (λ k. omega (arith, ⊆-bits a b h k)))

pub size-∩-le : (a b : ℕ) → size (a ∩ b) ≤ size a
size-∩-le a b = omega (arith, size_split a b)

-- a set of size 0 is empty, and a part as large as the whole is the whole
pub size_none : (s : ℕ) → size s ≡ 0 → s ≡ 0
size_none = bin_ind (λ (n : ℕ). size n ≡ 0 → n ≡ 0) (λ h. refl) (λ n ih h. omega (arith, ones_step n, ih (omega (arith, ones_step n))))
