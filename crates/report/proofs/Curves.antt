-- The curves of a set in rising order: the lowest, and those of the set without it.
use mathlib.Core.Path.{◌≡◌, refl, ◌∙◌}
use mathlib.Core.List.{[], ◌∷◌, ◌++◌}
use Prim.Native.Nat.{ℕ, zero, suc, ◌+◌, ◌*◌, ◌^◌, ◌≤◌, ◌<◌}
use native.Mathlib.Decide.{ℕ_discrete}
use native.Mathlib.Omega.{arith}
use lib.Count.{count_trailing_zeros}
use lib.ListN.{length, length-append}
use lib.Pow.{pow_pos}
use Rattle.bitset.specs.Set.{◌∖◌, ◌∈◌, bit}
use Rattle.bitset.proofs.Bits.{bitwise, bit_single, bit_other, bit_empty}
use Rattle.bitset.proofs.Element.{remove, lowest_in, lowest_lt, lowest_least}
use Rattle.report.specs.Report.{text, decimal, curve_text, curves_text, set_text}
use Rattle.report.proofs.Digits.{decimal_length}

-- one curve's text, by its bit
absent : (d c : ℕ) → d ≡ 0 → curve_text d c ≡ []
unfolding curve_text
absent d c e = rw e refl

present : (d c : ℕ) → d ≡ 1 → curve_text d c ≡ text " " ++ decimal c
unfolding curve_text
present d c e = rw e refl

turn : (n c s : ℕ) → curves_text (suc n) c s ≡ curve_text (bit c s) c ++ curves_text n (suc c) s
unfolding curves_text
turn n c s = refl

curves_same : (n c s t : ℕ) → ((j : ℕ) → c ≤ j → bit j s ≡ bit j t) → curves_text n c s ≡ curves_text n c t
unfolding curves_text
curves_same zero c s t h = refl
curves_same (suc n) c s t h = rw (h c (omega arith), curves_same n (suc c) s t (λ j l. h j (omega arith)))

pub curves_none : (n c : ℕ) → curves_text n c 0 ≡ []
unfolding curves_text
curves_none zero c = refl
curves_none (suc n) c = rw (absent (bit c 0) c (bit_empty c)) (curves_none n (suc c))

bit_kept : (j k s : ℕ) → (j ≡ k → ⊥) → bit j s ≡ bit j (s ∖ 2 ^ k)
bit_kept j k s n = simp bitwise (omega (arith, bit_other j k n))

bit_gone : (k s : ℕ) → bit k (s ∖ 2 ^ k) ≡ 0
bit_gone k s = simp bitwise (omega (arith, bit_single k))

-- of n curves from c on, the first is k
curves_first : (n c k s : ℕ) → c ≤ k → k < c + n → k ∈ s → ((j : ℕ) → j < k → bit j s ≡ 0)
    → curves_text n c s ≡ text " " ++ decimal k ++ curves_text n c (s ∖ 2 ^ k)
curves_first zero c k s l h m b = absurd (omega arith)
curves_first (suc n) c k s l h m b = at (ℕ_discrete c k) (curves_first n (suc c) k s)
  where
    at : Dec (c ≡ k)
        → (suc c ≤ k → k < suc c + n → k ∈ s → ((j : ℕ) → j < k → bit j s ≡ 0)
        → curves_text n (suc c) s ≡ text " " ++ decimal k ++ curves_text n (suc c) (s ∖ 2 ^ k))
        → curves_text (suc n) c s ≡ text " " ++ decimal k ++ curves_text (suc n) c (s ∖ 2 ^ k)
    at (yes e) r =
        let here : bit c s ≡ 1 = rw e m in
        let gone : bit c (s ∖ 2 ^ k) ≡ 0 = rw e (bit_gone k s) in
        rw (
          turn n c s,
          turn n c (s ∖ 2 ^ k),
          present (bit c s) c here,
          absent (bit c (s ∖ 2 ^ k)) c gone,
          curves_same n (suc c) s (s ∖ 2 ^ k) (λ j i. bit_kept j k s (λ f. omega arith)),
          e,
        ) refl
    at (no n') r =
        let gone : bit c (s ∖ 2 ^ k) ≡ 0 = omega (arith, bit_kept c k s n', b c (omega arith)) in
        rw (turn n c s, turn n c (s ∖ 2 ^ k), absent (bit c s) c (b c (omega arith)), absent (bit c (s ∖ 2 ^ k)) c gone) (r (omega arith) (omega arith) m b)

space : text " " ≡ 32 ∷ []
unfolding text
space = refl

-- THE LOWEST CURVE comes first behind a space, then those of the set without it
pub curves_lowest : (W s : ℕ) → 0 < s → s < 2 ^ W
    → curves_text W 0 s ≡ (32 ∷ []) ++ decimal (count_trailing_zeros W s) ++ curves_text W 0 (s ∖ 2 ^ count_trailing_zeros W s)
curves_lowest W s p h =
    curves_first W 0 (count_trailing_zeros W s) s (omega arith) (omega (arith, lowest_lt W s p h)) (lowest_in W s p h) (λ j l. lowest_least W s j l)
    ∙ rw space refl

pub fewer : (W s : ℕ) → 0 < s → s < 2 ^ W → s ∖ 2 ^ count_trailing_zeros W s < s
fewer W s p h = omega (arith, remove (count_trailing_zeros W s) s (lowest_in W s p h), pow_pos (count_trailing_zeros W s))

pub set_none : (s : ℕ) → s ≡ 0 → set_text s ≡ text " none"
unfolding set_text
set_none s e = rw e refl

pub set_some : (s : ℕ) → (s ≡ 0 → ⊥) → set_text s ≡ curves_text 64 0 s
unfolding set_text
set_some zero n = absurd (n refl)
set_some (suc s) n = refl

-- ---- how long they are

one_length : (d c : ℕ) → c < 100 → length (curve_text d c) ≤ 3
unfolding curve_text text
one_length zero c h = omega arith
one_length (suc d) c h = omega (arith, length-append (32 ∷ []) (decimal c), decimal_length 1 c (omega arith))

curves_length : (n c s : ℕ) → c + n ≤ 100 → length (curves_text n c s) ≤ 3 * n
unfolding curves_text
curves_length zero c s h = omega arith
curves_length (suc n) c s h =
    omega (
      arith,
      length-append (curve_text (bit c s) c) (curves_text n (suc c) s),
      one_length (bit c s) c (omega arith),
      curves_length n (suc c) s (omega arith),
    )

pub set_length : (s : ℕ) → length (set_text s) ≤ 192
unfolding set_text text
set_length zero = omega arith
set_length (suc s) = curves_length 64 0 (suc s) (omega arith)
