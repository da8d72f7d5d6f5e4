-- "its next use, which is a later step or never", of the wants ws of the later steps. `At 0` is the step after the present one. `NextUse` is declared in the
-- code.
use Rattle.std.specs.Prelude.{Bool, true, false, not, List, [], ◌∷◌, ℕ, zero, suc, ltb}
use Rattle.bitset.specs.Set.{bit}
use Rattle.drive.specs.declared.choice.NextUse.{NextUse}
use Rattle.drive.specs.declared.choice.NextUse.TheVariants.{At, Never}

-- a use, told from one step earlier
unfoldable pub later : NextUse → NextUse
later (At n) = At (suc n)
later Never = Never

-- by the curve's bit in the wants of the step after the present one, and its next use behind that
unfoldable pub use_by : ℕ → NextUse → NextUse
use_by zero u = later u
use_by (suc d) u = At 0

-- the next use of curve c in the steps that want ws
unfoldable pub next_use : ℕ → List ℕ → NextUse
next_use c [] = Never
next_use c (w ∷ ws) = use_by (bit c w) (next_use c ws)

-- "never is furthest"
unfoldable pub further : NextUse → NextUse → Bool
further Never Never = false
further Never (At n) = true
further (At m) Never = false
further (At m) (At n) = ltb n m

-- wish 2's "equally distant", or further
abbrev pub not_nearer : NextUse → NextUse → Bool
not_nearer u v = not (further v u)
