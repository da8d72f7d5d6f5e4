-- A list that is written from its start.
use mathlib.Core.Path.{◌≡◌, refl, ap, ◌∙◌}
use mathlib.Core.List.{List, ◌∷◌}
use Prim.Native.Nat.{ℕ, ◌+◌, ◌≤◌}
use native.Mathlib.Omega.{arith}
use native.Mathlib.Numerals.{add-one}
use lib.ListN.{length, take, drop, set}
use lib.Seq.{take_at, sets, sets-eq}
use Rattle.lists.specs.Lent.{overwritten}

-- its first entries are what was written
pub front : (new old : List ℕ) (n : ℕ) → length new ≡ n → take n (overwritten new old) ≡ new
unfolding overwritten
front new old n e = take_at new (drop (length new) old) n e

-- one entry a turn (`sets` stores nothing beyond a list)
pub sets_cons : (l : List ℕ) (i v : ℕ) (vs : List ℕ) → sets l i (v ∷ vs) ≡ sets (set l i v) (i + 1) vs
sets_cons l i v vs = rw (add-one i) refl

pub sets_whole : (new old : List ℕ) → length new ≤ length old → sets old 0 new ≡ overwritten new old
unfolding overwritten
sets_whole new old h = let z : 0 + length new ≡ length new = omega arith in sets-eq new old 0 (omega arith) ∙ rw z refl

pub sets_front : (new old : List ℕ) (n : ℕ) → length new ≡ n → n ≤ length old → take n (sets old 0 new) ≡ new
sets_front new old n e h = ap (take n) (sets_whole new old (omega arith)) ∙ front new old n e
