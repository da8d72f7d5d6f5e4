-- One turn of a loop: over the steps and their sets.
use mathlib.Core.Path.{◌≡◌, refl, ap, ◌∙◌}
use mathlib.Core.List.{List, [], ◌∷◌}
use Prim.Native.Nat.{ℕ, zero, suc, ◌+◌, ◌≤◌, ◌<◌}
use native.Mathlib.Omega.{arith}
use native.Mathlib.Numerals.{add-one}
use lib.ListN.{length, get_or, drop, drop_of_length-le}
use lib.Seq.{drop-cons}
use Rattle.std.specs.List.{sum_by}
use Rattle.std.proofs.lemmas.List.Sums.{sum_by-cons}
use Rattle.bitset.specs.Set.{size}
use Rattle.drive.specs.Steps.{curve_count}
use Rattle.planning.specs.Plan.{in_order}

-- ---- the wants of step i
pub length_in_order : (wants order : List ℕ) → length (in_order wants order) ≡ length order
unfolding in_order
length_in_order wants [] = refl
length_in_order wants (t ∷ ts) = ap suc (length_in_order wants ts)

pub wants_at : (wants order : List ℕ) (i : ℕ) → i < length order → get_or (in_order wants order) i 0 ≡ get_or wants (get_or order i 0) 0
unfolding in_order
wants_at wants [] i h = absurd (omega arith)
wants_at wants (t ∷ ts) zero h = refl
wants_at wants (t ∷ ts) (suc i) h = wants_at wants ts i (omega arith)

-- from step i on
pub wants_next : (wants order : List ℕ) (i : ℕ) → i < length order
    → in_order wants (drop i order) ≡ get_or wants (get_or order i 0) 0 ∷ in_order wants (drop (i + 1) order)
unfolding in_order
wants_next wants order i h = rw (add-one i, drop-cons order i 0 h) refl

pub wants_end : (wants order : List ℕ) (i : ℕ) → length order ≤ i → in_order wants (drop i order) ≡ []
unfolding in_order
wants_end wants order i h = rw (drop_of_length-le order h) refl

-- ---- the number of curves
pub count_sum : (ls : List ℕ) → sum_by size ls ≡ curve_count ls
unfolding curve_count
count_sum [] = refl
count_sum (s ∷ ss) = sum_by-cons size s ss ∙ ap (λ (n : ℕ). size s + n) (count_sum ss)
