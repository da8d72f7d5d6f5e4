-- The tests in list order, 0, 1, .., n - 1: how many, written one by one, and each test once.
use mathlib.Core.Path.{◌≡◌, refl, subst}
use mathlib.Core.List.{List, [], ◌∷◌, ◌++◌}
use Prim.Native.Nat.{ℕ, zero, suc, ◌+◌, ◌<◌}
use native.Mathlib.Omega.{arith}
use native.Mathlib.Numerals.{add-one}
use lib.ListN.{length, set, length-append}
use Rattle.job.specs.Refusal.{overwritten}
use Rattle.job.specs.Words.{IsOrder}
use Rattle.job.proofs.Orders.{Part, part_one, part_none, whole_part}
use Rattle.packages.specs.Tests.{up_to}
use Rattle.packages.proofs.Written.{overwritten_more}

pub length_up_to : (n : ℕ) → length (up_to n) ≡ n
unfolding up_to
length_up_to zero = refl
length_up_to (suc n) = omega (arith, length-append (up_to n) (n ∷ []), length_up_to n)

pub up_to_more : (n : ℕ) (old : List ℕ) → n < length old → set (overwritten (up_to n) old) n n ≡ overwritten (up_to (n + 1)) old
unfolding up_to
up_to_more n old h =
    rw (add-one n)
    (subst (λ (i : ℕ). set (overwritten (up_to n) old) i n ≡ overwritten (up_to n ++ (n ∷ [])) old) (length_up_to n)
    (overwritten_more (up_to n) old n (omega (arith, length_up_to n))))

up_to_part : (n : ℕ) → Part n (up_to n)
unfolding up_to
up_to_part zero = part_none zero
up_to_part (suc n) =
    let p = up_to_part n in
    part_one (suc n) n (up_to n) (record { short = omega (arith, p.short); most = p.most; own = λ t h. p.own t (omega arith) })
    (omega (arith, length_up_to n)) (omega arith) (p.own n (omega arith))

pub up_to_order : (n : ℕ) → IsOrder n (up_to n)
up_to_order n = whole_part n (up_to n) (up_to_part n) (omega (arith, length_up_to n))
