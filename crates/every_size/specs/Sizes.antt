-- 02, wish 9, "Every drive size together": the load counts of our plan for one list, from an empty drive, for 1 to 64 places. "Purchasing compares drives."
use Rattle.std.specs.Prelude.{Bool, true, false, not, ◌&&◌, List, [], ◌∷◌, ℕ, zero, suc, max, leb, eqb, Option, Some, None}
use Rattle.bitset.specs.Set.{size}
use Rattle.lists.specs.Choice.{Found, nobody, found, keep}
use Rattle.drive.specs.Steps.{load_count}
use Rattle.drive.specs.Plan.{furthest, plan_from}

-- how many curves the largest of the tests wants
unfoldable pub largest : List ℕ → ℕ
largest [] = 0
largest (w ∷ ws) = max (size w) (largest ws)

-- "the mark 65535, which no count reaches"
abbrev pub mark : ℕ
mark = 65535

-- a count, or the mark where the size is too small
unfoldable pub or_mark : Bool → ℕ → ℕ
or_mark true count = count
or_mark false count = mark

-- the entry for so many places, of steps that want sets of n curves: "A size too small for some test has the mark"; "Each other entry equals the single plan's
-- count"
unfoldable pub count_for : ℕ → List ℕ → ℕ → ℕ
count_for n ws places = or_mark (leb (largest ws) places) (load_count (plan_from (furthest n) places 0 ws))

-- the entries of so many sizes, of which the first has so many places
unfoldable pub counts_from : ℕ → List ℕ → ℕ → ℕ → List ℕ
counts_from n ws places zero = []
counts_from n ws places (suc sizes) = count_for n ws places ∷ counts_from n ws (suc places) sizes

-- "For one order from an empty drive give the load counts for 1 to 64 places"
unfoldable pub all_sizes : ℕ → List ℕ → List ℕ
all_sizes n ws = counts_from n ws 1 64

-- whether a size with this entry needs no more loads than wanted, "a marked size never serving"
unfoldable pub serves : ℕ → ℕ → Bool
serves loads entry = not (eqb entry mark) && leb entry loads

-- the first size that serves, of entries of which the first is that of so many places
unfoldable pub fewest_from : ℕ → ℕ → List ℕ → Found ℕ
fewest_from loads places [] = nobody
fewest_from loads places (entry ∷ entries) = keep (serves loads entry) places (fewest_from loads (suc places) entries)

-- "for a wanted count, give the fewest places that need no more loads, a marked size never serving, or none": of the entries for 1, 2, .. places
abbrev pub fewest_places : ℕ → List ℕ → Found ℕ
fewest_places loads entries = fewest_from loads 1 entries

-- "the fewest places .. or none" as the code answers them
unfoldable pub size_found : Option ℕ → Found ℕ
size_found (Some p) = found p
size_found None = nobody
