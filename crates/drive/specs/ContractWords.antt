-- Words for the choice of the drops, which only contracts of private functions cite: the candidates in groups by their next use, and which of two goes first.
use Rattle.std.specs.Prelude.{◌≡◌, true, false, List, ℕ, ◌≤◌, ◌<◌, get_or}
use Rattle.bitset.specs.Set.{bit}
use Rattle.drive.specs.declared.choice.NextUse.{NextUse}
use Rattle.drive.specs.declared.choice.NextUse.TheVariants.{At, Never}
use Rattle.drive.specs.declared.choice.Candidate.{Candidate}
use Rattle.drive.specs.Uses.{next_use, further}

-- "Every candidate curve goes with its next use, which is a later step or never": of the candidates cs, where the later steps want ws, those in `unused` are
-- never used, and the others are in `count` groups, the soonest first: the next use of those in group j is step `when j`
pub record Grouped (cs unused count : ℕ) (groups when ws : List ℕ) : Type 0 where
  pub few : count ≤ 64
  pub never : (c : ℕ) → bit c unused ≡ 1 → (bit c cs ≡ 1) × (next_use c ws ≡ Never)
  pub used : (j c : ℕ) → j < count → bit c (get_or groups j 0) ≡ 1 → (bit c cs ≡ 1) × (next_use c ws ≡ At (get_or when j 0))
  pub all : (c : ℕ) → bit c cs ≡ 1 → bit c unused ≡ 0 → (j : ℕ) × (j < count) × (bit c (get_or groups j 0) ≡ 1)
  pub rising : (i j : ℕ) → i < j → j < count → get_or when i 0 < get_or when j 0
  pub some : (j : ℕ) → j < count → 0 < get_or groups j 0

-- "each time the curve whose next use in a later step is furthest"; wish 2: "Of curves with equally distant next use the highest number is dropped": c goes
-- before d. The next use of d is not further; and where d has the higher number, that of c is. (Of two different curves just one goes before the other; each
-- goes before itself.)
abbrev pub GoesBefore : List ℕ → ℕ → ℕ → Type 0
GoesBefore ws c d = (further (next_use d ws) (next_use c ws) ≡ false) × (c < d → further (next_use c ws) (next_use d ws) ≡ true)

-- the next use of each of the curves cs is u
abbrev pub UsedAt : NextUse → ℕ → List ℕ → Type 0
UsedAt u cs ws = (c : ℕ) → bit c cs ≡ 1 → next_use c ws ≡ u

-- of the candidates cs this one goes first, and goes with its next use
abbrev pub GoesFirst : List ℕ → ℕ → Candidate → Type 0
GoesFirst ws cs v = (bit v.curve cs ≡ 1) × ((v.next ≡ next_use v.curve ws) × ((d : ℕ) → bit d cs ≡ 1 → GoesBefore ws v.curve d))
