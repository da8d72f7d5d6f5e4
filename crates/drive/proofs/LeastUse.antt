-- The next use of a curve is the least of the later steps that want it; a curve that none wants is never used.
use mathlib.Core.Path.{◌≡◌, refl, ap, ◌∙◌}
use mathlib.Core.Logic.{◌↔◌}
use mathlib.Core.List.{List, [], ◌∷◌}
use Prim.Native.Nat.{ℕ, zero, suc, ◌<◌, ◌≤◌}
use native.Mathlib.Omega.{arith}
use native.Mathlib.Decide.{dec_le}
use lib.ListN.{length, get_or}
use Rattle.bitset.specs.Set.{◌∈◌, bit}
use Rattle.drive.specs.declared.choice.NextUse.{NextUse}
use Rattle.drive.specs.declared.choice.NextUse.TheVariants.{At, Never}
use Rattle.drive.specs.Uses.{later, use_by, next_use}

-- of the later steps' wants ws, those of step k are the first that have c
pub record FirstUse (c k : ℕ) (ws : List ℕ) : Type 0 where
  pub within : k < length ws
  pub wanted : c ∈ get_or ws k 0
  pub before : (j : ℕ) → j < k → c ∈ get_or ws j 0 → ⊥

abbrev pub Unused : ℕ → List ℕ → Type 0
Unused c ws = (j : ℕ) → j < length ws → c ∈ get_or ws j 0 → ⊥

abbrev Told : ℕ → List ℕ → NextUse → Type 0
Told c ws (At k) = FirstUse c k ws
Told c ws Never = Unused c ws

told : (c : ℕ) (ws : List ℕ) → Told c ws (next_use c ws)
unfolding next_use use_by later
told c [] = λ j l. absurd (omega arith)
told c (w ∷ ws) = go (bit c w) refl (next_use c ws) (told c ws)
  where
    go : (d : ℕ) → bit c w ≡ d → (u : NextUse) → Told c ws u → Told c (w ∷ ws) (use_by d u)
    go (suc d) e u t = record { within = omega arith; wanted = omega arith; before = λ j l. absurd (omega arith) }
    go zero e Never t = none
      where
        none : (j : ℕ) → j < suc (length ws) → c ∈ get_or (w ∷ ws) j 0 → ⊥
        none zero l m = omega arith
        none (suc j) l m = t j (omega arith) m
    go zero e (At k) t = record { within = omega (arith, t.within); wanted = t.wanted; before = earlier }
      where
        earlier : (j : ℕ) → j < suc k → c ∈ get_or (w ∷ ws) j 0 → ⊥
        earlier zero l m = omega arith
        earlier (suc j) l m = t.before j (omega arith) m

-- THE NEXT USE IS THE LEAST LATER STEP that wants the curve
pub next_least : (c k : ℕ) (ws : List ℕ) → next_use c ws ≡ At k ↔ FirstUse c k ws
next_least c k ws = (there, back (next_use c ws) refl (told c ws))
  where
    there : next_use c ws ≡ At k → FirstUse c k ws
    there e = rw e at (told c ws)

    back : (u : NextUse) → next_use c ws ≡ u → Told c ws u → FirstUse c k ws → next_use c ws ≡ At k
    back Never e t l = absurd (t k l.within l.wanted)
    back (At m) e t l = e ∙ ap At (same (dec_le m k) (dec_le k m))
      where
        same : Dec (m ≤ k) → Dec (k ≤ m) → m ≡ k
        same (yes p) (yes q) = omega arith
        same (no p) q = absurd (t.before k (omega arith) l.wanted)
        same (yes p) (no q) = absurd (l.before m (omega arith) t.wanted)

-- .. and never, where none wants it
pub next_never : (c : ℕ) (ws : List ℕ) → next_use c ws ≡ Never ↔ Unused c ws
next_never c ws = (there, back (next_use c ws) refl (told c ws))
  where
    there : next_use c ws ≡ Never → Unused c ws
    there e = rw e at (told c ws)

    back : (u : NextUse) → next_use c ws ≡ u → Told c ws u → Unused c ws → next_use c ws ≡ Never
    back Never e t n = e
    back (At m) e t n = absurd (n m t.within t.wanted)
