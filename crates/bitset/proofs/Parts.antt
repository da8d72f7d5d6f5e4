-- Parts of sets, bit by bit: `a ≼ b` says of each number what `a ⊆ b` says of the sets, and goes into `omega` as it is.
use mathlib.Core.Path.{◌≡◌, refl, ap, ◌∙◌}
use mathlib.Core.Bool.{true}
use mathlib.Core.List.{[], ◌∷◌}
use Prim.Native.Nat.{ℕ, zero, suc, ◌+◌, ◌-◌, ◌^◌, ◌≤◌, ◌<◌, min}
use native.Mathlib.Decide.{ℕ_discrete, dec_le}
use native.Mathlib.Omega.{arith}
use lib.Pow.{pow_pos, pow_mono, pow-lt}
use borrow.Author.Tests.{eqb-true, eq-eqb}
use Rattle.bitset.specs.Set.{◌∩◌, ◌∪◌, ◌∖◌, size, bit, inside, below}
use Rattle.bitset.proofs.Bits.{bitwise, bit-∩, bit-∖, bit_single, bit_other, bit_beyond, bit_empty, same_by_bits, size_empty, sizes_eq}
use Rattle.bitset.proofs.Laws.{size_none}
use Rattle.bitset.proofs.Element.{bit_not, size_single}

-- each number of a is one of b; and no number is in both
infix 4 ◌≼◌
abbrev pub ◌≼◌ : ℕ → ℕ → Type 0
a ≼ b = (k : ℕ) → bit k a ≤ bit k b

abbrev pub Apart : ℕ → ℕ → Type 0
Apart a b = (k : ℕ) → bit k a + bit k b ≤ 1

-- ---- the tests

pub inside-≼ : (a b : ℕ) → inside a b ≡ true → a ≼ b
unfolding inside
inside-≼ a b e k = omega (arith, bit-∖ k a b, ap (bit k) (eqb-true (a ∖ b) 0 e), bit_empty k)

pub ≼-inside : (a b : ℕ) → a ≼ b → inside a b ≡ true
unfolding inside
≼-inside a b s = eq-eqb (a ∖ b) 0 (same_by_bits (a ∖ b) 0 (λ k. simp (bitwise, bit_empty) (omega (arith, s k))))

pub apart_common : (a b : ℕ) → Apart a b → a ∩ b ≡ 0
apart_common a b s = same_by_bits (a ∩ b) 0 (λ k. simp (bitwise, bit_empty) (omega (arith, s k)))

pub common_apart : (a b : ℕ) → a ∩ b ≡ 0 → Apart a b
common_apart a b e k = omega (arith, bit-∩ k a b, ap (bit k) e, bit_empty k)

-- ---- parts

pub empty-≼ : (s : ℕ) → 0 ≼ s
empty-≼ s k = omega (arith, bit_empty k)

pub without-≼ : (a b s : ℕ) → a ≼ s → a ∖ b ≼ s
without-≼ a b s i k = simp bitwise (omega (arith, i k))

-- a set of numbers below n
pub in_range : (n s : ℕ) → s < 2 ^ n → s ≼ below n
in_range n s h k = go (dec_le n k)
  where
    go : Dec (n ≤ k) → bit k s ≤ bit k (below n)
    go (yes g) = omega (arith, bit_beyond k s (omega (arith, pow_mono g)))
    go (no g) =
        let e : (2 ^ n - 1) - 0 ≡ 2 ^ n - 1 = omega arith in
        omega (arith, bit_not n k 0 (pow_pos n) (omega arith), ap (bit k) e, bit_empty k)

-- the numbers below n: 1 of each of them, and 0 of each other
pub bit_below : (k n : ℕ) → bit k (below n) ≡ min 1 (n - k)
bit_below k n = go (dec_le n k)
  where
    go : Dec (n ≤ k) → bit k (below n) ≡ min 1 (n - k)
    go (yes h) = omega (arith, bit_beyond k (below n) (omega (arith, pow_mono h, pow_pos n)))
    go (no h) = omega (arith, in_range n (2 ^ k) (pow-lt (omega arith)) k, bit_single k)

-- a set with elements is not 0
pub positive : (s : ℕ) → 0 < size s → 0 < s
positive zero h = absurd (omega (arith, size_empty))
positive (suc s) h = omega arith

-- ---- one element

module _ (v s : ℕ) where
  pub single-≼ : bit v s ≡ 1 → 2 ^ v ≼ s
  single-≼ h k = go (ℕ_discrete k v)
    where
      go : Dec (k ≡ v) → bit k (2 ^ v) ≤ bit k s
      go (yes e) = rw e (omega (arith, bit_single v))
      go (no n) = omega (arith, bit_other k v n)

  pub single_apart : bit v s ≡ 0 → Apart (2 ^ v) s
  single_apart h k = go (ℕ_discrete k v)
    where
      go : Dec (k ≡ v) → bit k (2 ^ v) + bit k s ≤ 1
      go (yes e) = rw e (omega arith)
      go (no n) = omega (arith, bit_other k v n)

  -- taken out and put back
  pub put_back : bit v s ≡ 1 → 2 ^ v ∪ (s ∖ 2 ^ v) ≡ s
  put_back h = same_by_bits (2 ^ v ∪ (s ∖ 2 ^ v)) s (λ k. simp bitwise (omega (arith, single-≼ h k)))

-- one element, where it is one of the set
pub size_single_of : (k s : ℕ) → size (s ∩ 2 ^ k) ≡ bit k s
size_single_of k s = go (bit k s) refl
  where
    go : (d : ℕ) → bit k s ≡ d → size (s ∩ 2 ^ k) ≡ d
    go zero e = ap size (same_by_bits (s ∩ 2 ^ k) 0 (λ j. simp (bitwise, bit_empty) (omega (arith, single_apart k s e j)))) ∙ size_empty
    go (suc d) e =
        let o : bit k s ≡ 1 = omega arith in
        omega (arith, ap size (same_by_bits (s ∩ 2 ^ k) (2 ^ k) (λ j. simp bitwise (omega (arith, single-≼ k s o j)))), size_single k)

pub rest_same : (k s : ℕ) → bit k (s ∖ 2 ^ k) ≡ 0
rest_same k s = omega (arith, bit-∖ k s (2 ^ k), bit_single k)

-- a part that has as many elements is all of it
pub same_size : (a s : ℕ) → a ≼ s → size a ≡ size s → a ≡ s
same_size a s p e =
    let n : s ∖ a ≡ 0 = size_none (s ∖ a) (omega (arith, sizes_eq (s ∷ []) (a ∷ s ∖ a ∷ []) (λ c. omega (arith, p c, bit-∖ c s a)))) in
    same_by_bits a s (λ c. omega (arith, p c, bit-∖ c s a, ap (bit c) n, bit_empty c))
