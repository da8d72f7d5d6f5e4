-- The check of steps, which answers what is held at the end, or the first step that breaks a rule.
use Rattle.std.specs.Prelude.{Bool, true, false, ◌&&◌, List, [], ◌∷◌, ℕ, suc, leb, eqb, Result, Ok, Err}
use Rattle.bitset.specs.Set.{◌∩◌, ◌∖◌, size, inside}
use Rattle.drive.specs.Steps.{Move, moved}

-- by whether step i keeps the rules, and by what is answered of the later steps
unfoldable pub or_breaks : Bool → ℕ → Result ℕ ℕ → Result ℕ ℕ
or_breaks true i later = later
or_breaks false i later = Err i

-- with a capacity, and the curves all that there are
module _ (capacity all : ℕ) where
  -- "every drop is held, no load is held after the drops, every load is a curve of the job, and after the loads the drive holds the test's wants and at most
  -- its places": with h held before
  unfoldable pub keeps : ℕ → Move → Bool
  keeps h m =
      inside m.sets.drops h && eqb (m.sets.loads ∩ (h ∖ m.sets.drops)) 0 && inside m.sets.loads all && inside m.want (moved h m.sets)
      && leb (size (moved h m.sets)) capacity

  -- "first step breaking a rule": from step i on, with h held
  unfoldable pub check_from : ℕ → ℕ → List Move → Result ℕ ℕ
  check_from i h [] = Ok h
  check_from i h (m ∷ ms) = or_breaks (keeps h m) i (check_from (suc i) (moved h m.sets) ms)
