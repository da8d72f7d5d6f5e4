-- A walk over a set from its lowest element on, which is taken out each time: all that is passed is lower than all that is left.
use mathlib.Core.Path.{◌≡◌, refl, ap}
use Prim.Native.Nat.{ℕ, zero, suc, ◌+◌, ◌^◌, ◌≤◌, ◌<◌}
use native.Mathlib.Omega.{arith}
use native.Mathlib.Decide.{ℕ_discrete}
use lib.Count.{count_trailing_zeros}
use Rattle.bitset.specs.Set.{◌∖◌, size, bit}
use Rattle.bitset.proofs.Bits.{bit-∖, bit_other, bit_empty}
use Rattle.bitset.proofs.Element.{lowest_le, lowest_in, size_remove}
use Rattle.bitset.proofs.Parts.{◌≼◌, rest_same}

-- of the set `same`, `left` is left
pub record Walked (same left : ℕ) : Type 0 where
  pub part : left ≼ same
  pub lower : (c d : ℕ) → bit c same ≡ 1 → bit c left ≡ 0 → bit d left ≡ 1 → c < d

pub walk_start : (s : ℕ) → Walked s s
walk_start s = record { part = λ c. omega arith; lower = λ c d i n. absurd (omega arith) }

abbrev lowest : ℕ → ℕ
lowest = count_trailing_zeros 64

-- the lowest is passed
pub walk_on : (same left : ℕ) → Walked same left → Walked same (left ∖ 2 ^ lowest left)
walk_on same left w =
    let v = lowest left in
    record { part = λ c. omega (arith, bit-∖ c left (2 ^ v), w.part c); lower = λ c d i n m. go c d i n m (ℕ_discrete c v) (ℕ_discrete d v) }
  where
    go : (c d : ℕ) → bit c same ≡ 1 → bit c (left ∖ 2 ^ lowest left) ≡ 0 → bit d (left ∖ 2 ^ lowest left) ≡ 1 → Dec (c ≡ lowest left)
        → Dec (d ≡ lowest left) → c < d
    go c d i n m e (yes f) = absurd (omega (arith, rest_same (lowest left) left, ap (λ (x : ℕ). bit x (left ∖ 2 ^ lowest left)) f))
    go c d i n m (yes e) (no f) = omega (arith, lowest_le 64 left d (omega (arith, bit-∖ d left (2 ^ lowest left))))
    go c d i n m (no e) (no f) =
        w.lower c d i (omega (arith, bit-∖ c left (2 ^ lowest left), bit_other c (lowest left) e)) (omega (arith, bit-∖ d left (2 ^ lowest left)))

pub walk_size : (left : ℕ) → 0 < left → left < 2 ^ 64 → size (left ∖ 2 ^ lowest left) + 1 ≡ size left
walk_size left p h = size_remove (lowest left) left (lowest_in 64 left p h)

-- one is left: it is the highest
pub walk_end : (same left : ℕ) → Walked same left → left ∖ 2 ^ lowest left ≡ 0 → 0 < left → left < 2 ^ 64
    → (bit (lowest left) same ≡ 1) × ((c : ℕ) → bit c same ≡ 1 → c ≤ lowest left)
walk_end same left w e p h = (omega (arith, mine, w.part (lowest left)), λ c i. go c i (bit c left) refl (ℕ_discrete c (lowest left)))
  where
    mine : bit (lowest left) left ≡ 1
    mine = lowest_in 64 left p h

    go : (c : ℕ) → bit c same ≡ 1 → (d : ℕ) → bit c left ≡ d → Dec (c ≡ lowest left) → c ≤ lowest left
    go c i d b (yes f) = omega arith
    go c i zero b (no f) = omega (arith, w.lower c (lowest left) i b mine)
    go c i (suc d) b (no f) = absurd (omega (arith, bit-∖ c left (2 ^ lowest left), bit_other c (lowest left) f, ap (bit c) e, bit_empty c))
