-- Digit by digit: the digits of a number are those that the library prints; and how many there are.
use mathlib.Core.Path.{◌≡◌, refl, ap, ◌∙◌}
use mathlib.Core.List.{List, [], ◌∷◌, ◌++◌, map}
use Prim.Native.Nat.{ℕ, zero, suc, ◌+◌, ◌/◌, ◌%◌, ◌^◌, ◌≤◌, ◌<◌}
use Prim.Native.Nat.compare
use native.Mathlib.Omega.{arith}
use lib.ListN.{length, length-append}
use Rattle.std.specs.Fmt as Fmt
use Rattle.std.specs.Int.Digits.{digits_with_fuel}
use Rattle.std.proofs.lemmas.Fmt.{decimal-digits_of}
use Rattle.std.proofs.lemmas.List.{map-append}
use Rattle.report.specs.Report.{high_digits, decimal}

-- as many digits as enough turns give
enough : (h k n : ℕ) → n ≤ h → n ≤ k → high_digits h n ≡ high_digits k n
unfolding high_digits
enough zero zero n l m = refl
enough zero (suc k) zero l m = refl
enough zero (suc k) (suc n) l m = absurd (omega arith)
enough (suc h) zero zero l m = refl
enough (suc h) zero (suc n) l m = absurd (omega arith)
enough (suc h) (suc k) zero l m = refl
enough (suc h) (suc k) (suc n) l m = ap (λ (ds : List ℕ). ds ++ ((48 + suc n % 10) ∷ [])) (enough h k (suc n / 10) (omega arith) (omega arith))

high_decimal : (h n : ℕ) → n ≤ h → 0 < n → high_digits h n ≡ decimal n
unfolding high_digits decimal
high_decimal zero n l p = absurd (omega arith)
high_decimal (suc h) zero l p = absurd (omega arith)
high_decimal (suc h) (suc n) l p = ap (λ (ds : List ℕ). ds ++ ((48 + suc n % 10) ∷ [])) (enough h (suc n) (suc n / 10) (omega arith) (omega arith))

-- the library's digits
high_printed : (h n : ℕ) → map (λ d. 48 + d) (digits_with_fuel 10 h n) ≡ high_digits h n
unfolding high_digits
high_printed zero n = refl
high_printed (suc h) zero = refl
high_printed (suc h) (suc n) =
    rw compare.suc-zero (map-append (λ d. 48 + d) (digits_with_fuel 10 h (suc n / 10)) ((suc n % 10) ∷ [])
    ∙ ap (λ (ds : List ℕ). ds ++ ((48 + suc n % 10) ∷ [])) (high_printed h (suc n / 10)))

pub printed_decimal : (n : ℕ) → n < 2 ^ 64 → Fmt.decimal n ≡ decimal n
unfolding decimal high_digits Fmt.digits
printed_decimal zero l = refl
printed_decimal (suc n) l = decimal-digits_of (suc n) (omega arith) l ∙ high_printed (suc n) (suc n) ∙ high_decimal (suc n) (suc n) (omega arith) (omega arith)

-- k digits write the numbers below 10 ^ k
high_length : (k h n : ℕ) → n < 10 ^ k → length (high_digits h n) ≤ k
unfolding high_digits
high_length k zero n l = omega arith
high_length k (suc h) zero l = omega arith
high_length zero (suc h) (suc n) l = absurd (omega arith)
high_length (suc k) (suc h) (suc n) l =
    omega (arith, length-append (high_digits h (suc n / 10)) ((48 + suc n % 10) ∷ []), high_length k h (suc n / 10) (omega arith))

pub decimal_length : (k n : ℕ) → n < 10 ^ suc k → length (decimal n) ≤ suc k
unfolding decimal
decimal_length k n h = omega (arith, length-append (high_digits n (n / 10)) ((48 + n % 10) ∷ []), high_length k n (n / 10) (omega arith))

pub decimal_word : (n : ℕ) → n < 2 ^ 64 → length (decimal n) ≤ 20
decimal_word n h = decimal_length 19 n (omega arith)
