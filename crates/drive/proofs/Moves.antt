-- Three lists as one list of moves.
use mathlib.Core.Path.{◌≡◌, refl, sym, ap, ◌∙◌}
use mathlib.Core.List.{List, [], ◌∷◌}
use Prim.Native.Nat.{ℕ, suc}
use native.Mathlib.Omega.{arith}
use lib.ListN.{length, drop, length-map}
use Rattle.lists.specs.Choice.{Found}
use Rattle.drive.specs.declared.Sets.{Sets}
use Rattle.drive.specs.Steps.{Move, moved, drops_of, loads_of, wants_of, sets_of, moves}
use Rattle.drive.specs.Plan.{next, plan_from}

-- the moves that want ws and have these sets
abbrev pub moves_of : List ℕ → List Sets → List Move
moves_of ws ss = moves ws (drops_of ss) (loads_of ss)

-- their wants, whatever the sets
pub wants_of_lem : (ws ds ls : List ℕ) → wants_of (moves ws ds ls) ≡ ws
unfolding moves
wants_of_lem [] ds ls = refl
wants_of_lem (w ∷ ws) ds ls = ap {B = List ℕ} (λ x. w ∷ x) (wants_of_lem ws _ _)

pub length_moves : (ws ds ls : List ℕ) → length (moves ws ds ls) ≡ length ws
length_moves ws ds ls = sym (length-map (moves ws ds ls) (λ m. m.want)) ∙ ap length (wants_of_lem ws ds ls)

-- their sets, their drops and their loads, where there is one for each want
pub sets_of_lem : (ws : List ℕ) (ss : List Sets) → length ss ≡ length ws → sets_of (moves_of ws ss) ≡ ss
unfolding moves
sets_of_lem [] [] e = refl
sets_of_lem [] (s ∷ ss) e = absurd (omega arith)
sets_of_lem (w ∷ ws) [] e = absurd (omega arith)
sets_of_lem (w ∷ ws) (s ∷ ss) e = ap {B = List Sets} (λ x. s ∷ x) (sets_of_lem ws ss (omega arith))

pub drops_of_lem : (ws ds ls : List ℕ) → length ds ≡ length ws → drops_of (sets_of (moves ws ds ls)) ≡ ds
unfolding moves
drops_of_lem [] [] ls e = refl
drops_of_lem [] (d ∷ ds) ls e = absurd (omega arith)
drops_of_lem (w ∷ ws) [] ls e = absurd (omega arith)
drops_of_lem (w ∷ ws) (d ∷ ds) ls e = ap {B = List ℕ} (λ x. d ∷ x) (drops_of_lem ws ds (drop 1 ls) (omega arith))

pub loads_of_lem : (ws ds ls : List ℕ) → length ls ≡ length ws → loads_of (sets_of (moves ws ds ls)) ≡ ls
unfolding moves
loads_of_lem [] ds [] e = refl
loads_of_lem [] ds (l ∷ ls) e = absurd (omega arith)
loads_of_lem (w ∷ ws) ds [] e = absurd (omega arith)
loads_of_lem (w ∷ ws) ds (l ∷ ls) e = ap {B = List ℕ} (λ x. l ∷ x) (loads_of_lem ws (drop 1 ds) ls (omega arith))

-- a step for each want
pub length_plan : (pick : ℕ → List ℕ → Found ℕ) (capacity h : ℕ) (ws : List ℕ) → length (plan_from pick capacity h ws) ≡ length ws
unfolding plan_from
length_plan pick capacity h [] = refl
length_plan pick capacity h (w ∷ ws) = ap suc (length_plan pick capacity (moved h (next pick capacity h w ws)) ws)
