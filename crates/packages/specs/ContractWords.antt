-- Words that only the contracts of private functions cite: a reader of the public contracts need not believe them.
use Rattle.std.specs.Prelude.{◌≡◌, Bool, true, cond, List, ◌++◌, map, reverse, ℕ, suc, ◌+◌, ◌-◌, ◌≤◌, ◌<◌, length, get_or, take, drop, set, leb, ltb, eqb, Option, Some, None}
use Rattle.bitset.specs.Set.{◌∪◌, size}
use Rattle.lists.specs.Choice.{Found, nobody, found, keep, best_of}
use Rattle.packages.specs.declared.PackagePair.{PackagePair}
use Rattle.packages.specs.declared.Rating.{Rating}
use Rattle.packages.specs.Packages.{Pair, shared, eligible, closer, flat, join_all, flipped}

-- two places in the list of packages
abbrev pub at : ℕ → ℕ → Pair
at i j = record { first = i; second = j }

-- ---- lists that are changed in place

-- "The first package is reversed if its head won, the second if its tail won."
abbrev pub turned : Bool → List ℕ → List ℕ
turned turn xs = cond turn (reverse xs) xs

-- one number for each package, after a join of the packages i and j: v in the first's position, none in the second's
abbrev pub joined_entry : {A : Type 0} → List A → ℕ → ℕ → A → List A
joined_entry xs i j v = take j (set xs i v) ++ drop (suc j) (set xs i v)

-- "a package's curves are the union of its tests'"
abbrev pub joined_curves : List ℕ → ℕ → ℕ → List ℕ
joined_curves cs i j = joined_entry cs i j (get_or cs i 0 ∪ get_or cs j 0)

-- ---- the two rounds

-- "First round: of all pairs whose union is at most the places .. second round: the same without the bound"
abbrev pub fits_by : Bool → ℕ → ℕ → Bool
fits_by flipping places u = cond flipping true (leb (size u) places)

-- ".. with flipping": how the packages a and b are joined in either round
abbrev pub join_by : Bool → List ℕ → ℕ → List ℕ → List ℕ → List ℕ
join_by flipping wants places a b = cond flipping (flipped wants places a b) (a ++ b)

-- the packages ps after a round
abbrev pub round_of : Bool → List ℕ → ℕ → List (List ℕ) → List (List ℕ)
round_of flipping wants places ps = join_all wants (fits_by flipping places) (join_by flipping wants places) (length ps) ps

-- The packages ps as the code holds them: their tests one package behind the other, and then the rest of the list; and their lengths.
pub record Laid (ps : List (List ℕ)) (rest tests lengths : List ℕ) : Type 0 where
  pub all : tests ≡ flat ps ++ rest
  pub lens : lengths ≡ map length ps

-- ---- pairs and ratings: what the code keeps of each package

-- the pair that the code names
abbrev pub named : Option PackagePair → Found Pair
named None = nobody
named (Some p) = found (at p.first p.second)

-- a package and its partner, where that is not 0
abbrev pub with_partner : ℕ → ℕ → Found Pair
with_partner i j = keep (ltb 0 j) (at i j) nobody

-- one more than what the two have in common; 0 with no partner
abbrev pub score_with : List ℕ → ℕ → ℕ → ℕ
score_with cs i j = cond (ltb 0 j) (1 + shared cs (at i j)) 0

-- whether a set has at most so many curves
abbrev pub within : ℕ → ℕ → Bool
within bound u = leb (size u) bound

-- With the curves cs of the packages: what the rating r says of the package k. No pair of it and a package behind it that fits has as many common curves as
-- the score. A partner other than 0 is the best second package of such a pair, and the score is one more than what the two have in common.
pub record Rated (fits : ℕ → Bool) (cs : List ℕ) (k : ℕ) (r : Rating) : Type 0 where
  pub most : (j : ℕ) → k < j → j < length cs → fits (get_or cs k 0 ∪ get_or cs j 0) ≡ true → 1 + shared cs (at k j) ≤ r.score
  pub own : 0 < r.partner
      → (best_of (eligible fits cs) (closer cs) (at k) (length cs) nobody ≡ found (at k r.partner)) × (r.score ≡ 1 + shared cs (at k r.partner))

abbrev pub unrated : Rating
unrated = record { score = 0; partner = 0 }

-- the ratings rs of all packages
abbrev pub AllRated : ℕ → List ℕ → List Rating → Type 0
AllRated bound cs rs = (k : ℕ) → k < length cs → Rated (within bound) cs k (get_or rs k unrated)

-- the rating r, but no partner
abbrev pub lone_of : Rating → Rating
lone_of r = record { score = r.score; partner = 0 }

-- The rating of another package after a join with the second package j, which is no partner any more; those behind it move up by one.
abbrev pub moved_up : ℕ → Rating → Rating
moved_up j r = cond (eqb r.partner j) (lone_of r) (cond (ltb j r.partner) (record { score = r.score; partner = r.partner - 1 }) r)
