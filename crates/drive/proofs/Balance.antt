-- What enters the drive leaves it or is held at the end: of steps that keep the rules, with any holding before the first.
use mathlib.Core.Path.{◌≡◌}
use mathlib.Core.List.{List, [], ◌∷◌}
use Prim.Native.Nat.{ℕ, ◌+◌}
use native.Mathlib.Omega.{arith}
use Rattle.bitset.specs.Set.{size}
use Rattle.bitset.proofs.Bits.{bitwise, sizes_eq}
use Rattle.drive.specs.Steps.{Move, moved, held_after, drops_of, sets_of, curve_count, load_count}
use Rattle.drive.proofs.CheckExact.{Kept, AllKept}

-- one step
step_balance : {capacity all h : ℕ} {m : Move} → Kept capacity all h m
    → size h + size m.sets.loads ≡ size m.sets.drops + size (moved h m.sets)
step_balance {h = h} {m = m} ok =
    omega (
      arith,
      sizes_eq (h ∷ m.sets.loads ∷ []) (m.sets.drops ∷ moved h m.sets ∷ [])
          (λ c. simp bitwise (omega (arith, ok.drops c, simp bitwise at (ok.fresh c)))),
    )

-- HELD AT THE START PLUS LOADS EQUALS DROPS PLUS HELD AT THE END
pub balance : {capacity all h : ℕ} {ms : List Move} → AllKept capacity all h ms
    → size h + load_count (sets_of ms) ≡ curve_count (drops_of (sets_of ms)) + size (held_after h (sets_of ms))
unfolding held_after curve_count
balance AllKept.none = omega arith
balance (AllKept.step ok rest) = omega (arith, step_balance ok, balance rest)
