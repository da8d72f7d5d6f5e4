-- The decimal digits of a number are its digits: read back, they give the number, and the first is no zero unless the number is 0.
use mathlib.Core.Path.{◌≡◌, refl, ◌∙◌}
use mathlib.Core.List.{List, [], ◌∷◌, ◌++◌, append_assoc}
use Prim.Native.Nat.{ℕ, zero, suc, ◌+◌, ◌-◌, ◌*◌, ◌/◌, ◌%◌, ◌≤◌, ◌<◌}
use native.Mathlib.Omega.{arith}
use Rattle.report.specs.Report.{high_digits, decimal}

-- digits read from the left, behind a number that was read
unfoldable pub value_from : ℕ → List ℕ → ℕ
value_from v [] = v
value_from v (d ∷ ds) = value_from (10 * v + (d - 48)) ds

value_append : (v : ℕ) (a b : List ℕ) → value_from v (a ++ b) ≡ value_from (value_from v a) b
unfolding value_from
value_append v [] b = refl
value_append v (d ∷ ds) b = value_append (10 * v + (d - 48)) ds b

high_value : (h n : ℕ) → n ≤ h → value_from 0 (high_digits h n) ≡ n
unfolding value_from high_digits
high_value zero n l = omega arith
high_value (suc h) zero l = refl
high_value (suc h) (suc n) l =
    value_append 0 (high_digits h (suc n / 10)) ((48 + suc n % 10) ∷ []) ∙ omega (arith, high_value h (suc n / 10) (omega arith))

-- THE DIGITS ARE THOSE OF n
pub decimal_value : (n : ℕ) → value_from 0 (decimal n) ≡ n
unfolding value_from decimal
decimal_value n = value_append 0 (high_digits n (n / 10)) ((48 + n % 10) ∷ []) ∙ omega (arith, high_value n (n / 10) (omega arith))

-- digits, of which the first is no zero
abbrev pub NoZero : List ℕ → Type 0
NoZero [] = ⊥
NoZero (d ∷ ds) = 48 < d

-- the digits of n and n / 10 .. before them, with more behind
first_digit : (h n : ℕ) (l : List ℕ) → n ≤ h → 0 < n → NoZero (high_digits h (n / 10) ++ ((48 + n % 10) ∷ l))
unfolding high_digits
first_digit zero n l le p = absurd (omega arith)
first_digit (suc h) n l le p = go (n / 10) refl (first_digit h)
  where
    go : (q : ℕ) → n / 10 ≡ q → ((m : ℕ) (l : List ℕ) → m ≤ h → 0 < m → NoZero (high_digits h (m / 10) ++ ((48 + m % 10) ∷ l)))
        → NoZero (high_digits (suc h) q ++ ((48 + n % 10) ∷ l))
    go zero e ih = omega arith
    go (suc q) e ih =
        rw (append_assoc (high_digits h (suc q / 10)) ((48 + suc q % 10) ∷ []) ((48 + n % 10) ∷ l)) (ih (suc q) ((48 + n % 10) ∷ l) (omega arith) (omega arith))

-- THE FIRST DIGIT is no zero, unless n is 0
pub decimal_first : (n : ℕ) → 0 < n → NoZero (decimal n)
unfolding decimal
decimal_first n p = first_digit n n [] (omega arith) p
