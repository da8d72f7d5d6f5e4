-- "A step names one test, a drop set and a load set. Stages: the drops leave, the loads enter, the test runs." `Sets`, the drops and the loads of a step, is
-- declared in the code.
use Rattle.std.specs.Prelude.{List, [], ◌∷◌, map, ℕ, ◌+◌, get_or, drop}
use Rattle.bitset.specs.Set.{◌∪◌, ◌∖◌, size}
use Rattle.drive.specs.declared.Sets.{Sets}

-- a step of one drive: what its test wants, and its sets
pub record Move : Type 0 where
  pub want : ℕ
  pub sets : Sets

-- "the drops leave, the loads enter": what is held then, of h held before
abbrev pub moved : ℕ → Sets → ℕ
moved h s = h ∖ s.drops ∪ s.loads

-- "What is held follows from those sets alone: step after step, the drops are taken out and the loads put in.": what is held at the end
unfoldable pub held_after : ℕ → List Sets → ℕ
held_after h [] = h
held_after h (s ∷ ss) = held_after (moved h s) ss

-- the drops of some steps
abbrev pub drops_of : List Sets → List ℕ
drops_of = map (λ s. s.drops)

-- their loads
abbrev pub loads_of : List Sets → List ℕ
loads_of = map (λ s. s.loads)

-- what is wanted in some moves
abbrev pub wants_of : List Move → List ℕ
wants_of = map (λ m. m.want)

-- their sets
abbrev pub sets_of : List Move → List Sets
sets_of = map (λ m. m.sets)

-- wants, drops and loads that are handed over in three lists, as one list: a move for each want, with no drops or loads where there is no entry for it
unfoldable pub moves : List ℕ → List ℕ → List ℕ → List Move
moves [] ds ls = []
moves (w ∷ ws) ds ls = record { want = w; sets = record { drops = get_or ds 0 0; loads = get_or ls 0 0 } } ∷ moves ws (drop 1 ds) (drop 1 ls)

-- what some steps want together, of their wants: 02, wish 9, "different curves"
unfoldable pub together : List ℕ → ℕ
together [] = 0
together (w ∷ ws) = w ∪ together ws

-- "the number of curves in all load sets together", or in all drop sets: in the sets of a list
unfoldable pub curve_count : List ℕ → ℕ
curve_count [] = 0
curve_count (s ∷ ss) = size s + curve_count ss

-- "The load count"
abbrev pub load_count : List Sets → ℕ
load_count ss = curve_count (loads_of ss)
