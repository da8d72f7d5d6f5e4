-- AN ORDER'S STEPS WANT WHAT THE LIST'S TESTS WANT: together, and at most.
use mathlib.Core.Path.{◌≡◌, refl, sym, ap, ◌∙◌, subst}
use mathlib.Core.Logic.{◌↔◌}
use mathlib.Core.Bool.{Bool, true, false}
use mathlib.Core.List.{List}
use Prim.Native.Nat.{ℕ, ◌≤◌, ◌<◌}
use native.Mathlib.Omega.{arith}
use lib.ListN.{length, get_or}
use Rattle.bitset.specs.Set.{size}
use Rattle.bitset.proofs.Bits.{same_by_bits}
use Rattle.bitset.proofs.Parts.{◌≼◌}
use Rattle.job.specs.Handed.{listed}
use Rattle.job.specs.Words.{IsOrder}
use Rattle.job.proofs.Orders.{uncounted, listed_position}
use Rattle.job.proofs.OrderExact.{own_tests}
use Rattle.drive.specs.Steps.{together}
use Rattle.every_size.specs.Sizes.{largest}
use Rattle.every_size.proofs.LoadCounts.{has_together, together_within, le_largest, large_enough}
use Rattle.planning.specs.Plan.{in_order}
use Rattle.planning.proofs.Turns.{length_in_order, wants_at}

module _ (wants order : List ℕ) (is : IsOrder (length wants) order) where
  abbrev steps : List ℕ
  steps = in_order wants order

  -- a step for each test
  step_of : (t : ℕ) → t < length wants → (i : ℕ) × (i < length steps) × (get_or steps i 0 ≡ get_or wants t 0)
  step_of t h = go (listed order t) refl
    where
      go : (b : Bool) → listed order t ≡ b → (i : ℕ) × (i < length steps) × (get_or steps i 0 ≡ get_or wants t 0)
      go true e =
          let r = listed_position t order e in
          (r.0, omega (arith, r.1, length_in_order wants order), wants_at wants order r.0 r.1 ∙ ap (λ (x : ℕ). get_or wants x 0) r.2)
      go false e = absurd (omega (arith, is.once t h, uncounted t order e))

  -- WHAT HOLDS OF EACH STEP'S WANTS HOLDS OF EACH TEST'S, and the other way round
  pub each_step : (P : ℕ → Type 0) → ((i : ℕ) → i < length steps → P (get_or steps i 0)) ↔ ((t : ℕ) → t < length wants → P (get_or wants t 0))
  each_step P = (
    λ h t l. let i = step_of t l in subst P i.2 (h i.0 i.1),
    λ h i l.
        let k : i < length order = omega (arith, length_in_order wants order) in
        subst P (sym (wants_at wants order i k)) (h (get_or order i 0) (own_tests (length wants) order is i k)),
  )

  pub same_together : together steps ≡ together wants
  same_together =
      let a = together_within steps (together wants) ((each_step (λ w. w ≼ together wants)).1 (has_together wants)) in
      let b = together_within wants (together steps) ((each_step (λ w. w ≼ together steps)).0 (has_together steps)) in
      same_by_bits (together steps) (together wants) (λ c. omega (arith, a c, b c))

  pub same_largest : largest steps ≡ largest wants
  same_largest =
      omega (
        arith,
        (large_enough steps (largest wants)).1 ((each_step (λ w. size w ≤ largest wants)).1 (le_largest wants)),
        (large_enough wants (largest steps)).1 ((each_step (λ w. size w ≤ largest steps)).0 (le_largest steps)),
      )
