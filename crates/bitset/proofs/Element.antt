-- The set 2 ^ k of the one element k, the lowest element of a set, what code writes, and sums. Assumes nothing.
use mathlib.Core.Path.{◌≡◌, refl, sym, ap, ◌∙◌, subst}
use mathlib.Core.Logic.{◌↔◌}
use Prim.Native.Nat.{ℕ, zero, suc, ◌+◌, ◌-◌, ◌*◌, ◌/◌, ◌%◌, ◌^◌, ◌≤◌, ◌<◌, min, zero-le}
use native.Mathlib.Nat.{mul-mod_right, mod-eq_of_lt, le_antisymm}
use native.Mathlib.Decide.{ℕ_discrete, dec_le}
use native.Mathlib.Omega.{arith}
use lib.Bits.{and_comm, and_self, and_step}
use lib.Count.{ones, ones_step, count_trailing_zeros, under}
use lib.Pow.{pow-add, pow-lt, pow_mono, pow_pos, shl_exact}
use Rattle.bitset.specs.Set.{◌∩◌, ◌∪◌, ◌∖◌, ◌∈◌, ◌⊆◌, size, bit}
use Rattle.bitset.proofs.Bits.{bit_zero, bit_suc, bit_single, bit_other, bit_empty, bit_beyond, bitwise, half_pow, same_by_bits, size_empty}
use Rattle.bitset.proofs.Laws.{⊆-bits, ⊆-by_bits, ⊆-le, size_split, size_disjoint}

-- ---- one element

pub single-⊆ : (k s : ℕ) → k ∈ s ↔ 2 ^ k ⊆ s
single-⊆ k s = (λ h. ⊆-by_bits (2 ^ k) s (λ j. at h j (ℕ_discrete j k)), λ h. omega (arith, ⊆-bits (2 ^ k) s h k, bit_single k))
  where
    at : k ∈ s → (j : ℕ) → Dec (j ≡ k) → bit j (2 ^ k) ≤ bit j s
    at h j (yes e) = subst (λ (x : ℕ). bit x (2 ^ k) ≤ bit x s) (sym e) (omega (arith, bit_single k))
    at h j (no n) = omega (arith, bit_other j k n)

pub size_single : (k : ℕ) → size (2 ^ k) ≡ 1
unfolding ones
size_single zero = refl
size_single (suc k) = omega (arith, ones_step (2 ^ suc k), ap size (half_pow k), size_single k)

pub ∈-le : (k s : ℕ) → k ∈ s → 2 ^ k ≤ s
∈-le k s h = ⊆-le (2 ^ k) s ((single-⊆ k s).0 h)

pub ∈-lt : (k W s : ℕ) → k ∈ s → s < 2 ^ W → k < W
∈-lt k W s h l = below (dec_le W k)
  where
    below : Dec (W ≤ k) → k < W
    below (yes g) = omega (arith, ∈-le k s h, pow_mono g)
    below (no g) = omega arith

pub ∈-pos : (k s : ℕ) → k ∈ s → 0 < s
∈-pos k s h = omega (arith, ∈-le k s h, pow_pos k)

-- an element taken out
pub remove : (k s : ℕ) → k ∈ s → s ∖ 2 ^ k ≡ s - 2 ^ k
remove k s h = ap (λ (x : ℕ). s - x) (and_comm s (2 ^ k) ∙ (single-⊆ k s).0 h)

pub size_remove : (k s : ℕ) → k ∈ s → size (s ∖ 2 ^ k) + 1 ≡ size s
size_remove k s h = omega (arith, size_split s (2 ^ k), size_single k, ap size (and_comm s (2 ^ k) ∙ (single-⊆ k s).0 h))

-- an element put in
pub apart : (k s : ℕ) → ¬ (k ∈ s) → s ∩ 2 ^ k ≡ 0
apart k s h = same_by_bits (s ∩ 2 ^ k) 0 (λ j. simp (bitwise, bit_empty) (at j (ℕ_discrete j k)))
  where
    at : (j : ℕ) → Dec (j ≡ k) → min (bit j s) (bit j (2 ^ k)) ≡ 0
    at j (yes e) = subst (λ (x : ℕ). min (bit x s) (bit x (2 ^ k)) ≡ 0) (sym e) (omega arith)
    at j (no n) = omega (arith, bit_other j k n)

pub size_insert : (k s : ℕ) → ¬ (k ∈ s) → size (s ∪ 2 ^ k) ≡ size s + 1
size_insert k s h = omega (arith, size_disjoint s (2 ^ k) (apart k s h), size_single k)

-- ---- the lowest element

-- no element is below it
pub lowest_least : (W s j : ℕ) → j < count_trailing_zeros W s → bit j s ≡ 0
unfolding count_trailing_zeros
lowest_least zero s j h = omega arith
lowest_least (suc W) s j h = at (lowest_least W (s / 2)) (s % 2) j refl h
  where
    at : ((j : ℕ) → j < count_trailing_zeros W (s / 2) → bit j (s / 2) ≡ 0) → (d j : ℕ) → s % 2 ≡ d → j < under d (count_trailing_zeros W (s / 2)) → bit j s ≡ 0
    at ih zero zero e l = bit_zero s ∙ e
    at ih zero (suc j) e l = bit_suc j s ∙ ih j (omega arith)
    at ih (suc d) j e l = omega arith

pub lowest_le : (W s k : ℕ) → k ∈ s → count_trailing_zeros W s ≤ k
lowest_le W s k i = go (dec_le (count_trailing_zeros W s) k)
  where
    go : Dec (count_trailing_zeros W s ≤ k) → count_trailing_zeros W s ≤ k
    go (yes h) = h
    go (no h) = absurd (omega (arith, lowest_least W s k (omega arith)))

-- it is an element
pub lowest_in : (W s : ℕ) → 0 < s → s < 2 ^ W → count_trailing_zeros W s ∈ s
unfolding count_trailing_zeros
lowest_in zero s p h = omega arith
lowest_in (suc W) s p h = at (lowest_in W (s / 2)) (s % 2) refl
  where
    at : (0 < s / 2 → s / 2 < 2 ^ W → count_trailing_zeros W (s / 2) ∈ s / 2) → (d : ℕ) → s % 2 ≡ d → under d (count_trailing_zeros W (s / 2)) ∈ s
    at ih zero e = bit_suc (count_trailing_zeros W (s / 2)) s ∙ ih (omega arith) (omega arith)
    at ih (suc d) e = omega (arith, bit_zero s)

pub lowest_lt : (W s : ℕ) → 0 < s → s < 2 ^ W → count_trailing_zeros W s < W
lowest_lt W s p h = ∈-lt (count_trailing_zeros W s) W s (lowest_in W s p h) h

pub below_pow : (s : ℕ) → s < 2 ^ s
below_pow zero = omega arith
below_pow (suc s) = omega (arith, below_pow s)

-- a set that is not empty has an element
pub some : (s : ℕ) → 0 < s → (k : ℕ) × (k ∈ s)
some s h = (count_trailing_zeros s s, lowest_in s s h (below_pow s))

drop_step : (W s : ℕ) → 0 < s → s < 2 ^ W → s ∩ (s - 1) ≡ s - 2 ^ count_trailing_zeros W s
unfolding count_trailing_zeros
drop_step zero s p h = omega arith
drop_step (suc W) s p h = at (drop_step W (s / 2)) (s % 2) refl
  where
    at : (0 < s / 2 → s / 2 < 2 ^ W → (s / 2) ∩ (s / 2 - 1) ≡ s / 2 - 2 ^ count_trailing_zeros W (s / 2)) → (d : ℕ) → s % 2 ≡ d
        → s ∩ (s - 1) ≡ s - 2 ^ under d (count_trailing_zeros W (s / 2))
    at ih zero e =
        let half : (s - 1) / 2 ≡ s / 2 - 1 = omega arith in
        let twice : s ∩ (s - 1) ≡ s - 2 ^ suc (count_trailing_zeros W (s / 2)) =
        omega (arith, and_step s (s - 1), ap (λ (x : ℕ). (s / 2) ∩ x) half, ih (omega arith) (omega arith)) in
        twice
    at ih (suc d) e =
        let half : (s - 1) / 2 ≡ s / 2 = omega arith in
        omega (arith, and_step s (s - 1), ap (λ (x : ℕ). (s / 2) ∩ x) half, and_self (s / 2))

-- `s & (s - 1)` takes the lowest element out
pub drop_lowest : (W s : ℕ) → 0 < s → s < 2 ^ W → s ∩ (s - 1) ≡ s ∖ 2 ^ count_trailing_zeros W s
drop_lowest W s p h = drop_step W s p h ∙ sym (remove (count_trailing_zeros W s) s (lowest_in W s p h))

-- ---- what code writes

-- `x & !y`
pub bit_not : (W k y : ℕ) → y < 2 ^ W → k < W → bit k ((2 ^ W - 1) - y) ≡ 1 - bit k y
bit_not zero k y h l = omega arith
bit_not (suc W) zero y h l = simp bit_zero (omega arith)
bit_not (suc W) (suc k) y h l =
    let half : ((2 ^ suc W - 1) - y) / 2 ≡ (2 ^ W - 1) - y / 2 = omega arith in
    omega (arith, bit_suc k ((2 ^ suc W - 1) - y), bit_suc k y, ap (bit k) half, bit_not W k (y / 2) (omega arith) (omega arith))

pub and_not : (W x y : ℕ) → x < 2 ^ W → y < 2 ^ W → x ∩ ((2 ^ W - 1) - y) ≡ x ∖ y
and_not W x y hx hy = same_by_bits (x ∩ ((2 ^ W - 1) - y)) (x ∖ y) (λ k. simp bitwise (at k (dec_le W k)))
  where
    at : (k : ℕ) → Dec (W ≤ k) → min (bit k x) (bit k ((2 ^ W - 1) - y)) ≡ bit k x - bit k y
    at k (yes g) = omega (arith, bit_beyond k x (omega (arith, pow_mono g)))
    at k (no g) = omega (arith, bit_not W k y hy (omega arith))

-- `1 << k`
pub shl_one : (W k : ℕ) → k < W → (1 * 2 ^ k) % 2 ^ W ≡ 2 ^ k
shl_one W k h = shl_exact 1 k W (omega arith) (omega arith) ∙ omega arith

-- `1 << k` at the width or beyond: nothing
pub shl_none : (W k : ℕ) → W ≤ k → 2 ^ k % 2 ^ W ≡ 0
shl_none W k h =
    let e : k ≡ W + (k - W) = omega arith in
    ap (λ (x : ℕ). 2 ^ x % 2 ^ W) e ∙ ap (λ (x : ℕ). x % 2 ^ W) (pow-add 2 W (k - W)) ∙ mul-mod_right (2 ^ W) (2 ^ (k - W))

-- and below it: the set of k
pub shl_some : (W k : ℕ) → k < W → 2 ^ k % 2 ^ W ≡ 2 ^ k
shl_some W k h = mod-eq_of_lt (pow-lt h)

-- ---- sums over the numbers below a width

-- (shut: at a width that is written out it would be written out too)
unfoldable pub sum : ℕ → (ℕ → ℕ) → ℕ
sum zero f = 0
sum (suc W) f = f 0 + sum W (λ k. f (suc k))

pub sum_le : (W : ℕ) (f g : ℕ → ℕ) → ((k : ℕ) → k < W → f k ≤ g k) → sum W f ≤ sum W g
unfolding sum
sum_le zero f g h = zero-le
sum_le (suc W) f g h = omega (arith, h 0 (omega arith), sum_le W (λ k. f (suc k)) (λ k. g (suc k)) (λ k l. h (suc k) (omega arith)))

pub sum_same : (W : ℕ) (f g : ℕ → ℕ) → ((k : ℕ) → k < W → f k ≡ g k) → sum W f ≡ sum W g
sum_same W f g h = le_antisymm (sum_le W f g (λ k l. omega (arith, h k l))) (sum_le W g f (λ k l. omega (arith, h k l)))

pub sum_add : (W : ℕ) (f g : ℕ → ℕ) → sum W (λ k. f k + g k) ≡ sum W f + sum W g
unfolding sum
sum_add zero f g = refl
sum_add (suc W) f g = omega (arith, sum_add W (λ k. f (suc k)) (λ k. g (suc k)))

pub sum_none : (W : ℕ) (f : ℕ → ℕ) → ((k : ℕ) → k < W → f k ≡ 0) → sum W f ≡ 0
unfolding sum
sum_none zero f h = refl
sum_none (suc W) f h = omega (arith, h 0 (omega arith), sum_none W (λ k. f (suc k)) (λ k l. h (suc k) (omega arith)))

-- one number more
pub sum_last : (W : ℕ) (f : ℕ → ℕ) → sum (suc W) f ≡ sum W f + f W
unfolding sum
sum_last zero f = omega arith
sum_last (suc W) f = omega (arith, sum_last W (λ k. f (suc k)))

-- the size is the sum of the bits
pub size_sum : (W s : ℕ) → s < 2 ^ W → size s ≡ sum W (λ k. bit k s)
unfolding sum
size_sum zero s h = let e : s ≡ 0 = omega arith in ap size e ∙ size_empty
size_sum (suc W) s h =
    omega (arith, ones_step s, bit_zero s, size_sum W (s / 2) (omega arith), sum_same W (λ k. bit k (s / 2)) (λ k. bit (suc k) s) (λ k l. sym (bit_suc k s)))
