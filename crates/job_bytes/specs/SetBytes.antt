-- A set of curves in bytes: "a group map, where bit j says that a byte follows for curves 8j to 8j+7, bytes in rising j, bit i of it being curve 8j+i".
use Rattle.std.specs.Prelude.{Result, Ok, Err, List, [], ◌∷◌, ℕ, zero, suc, ◌+◌, ◌*◌, ◌/◌, ◌%◌, ◌^◌, ◌<◌, ltb}
use Rattle.bitset.specs.Set.{◌∪◌, bit, inside}
use Rattle.job_bytes.specs.declared.set_bytes.GroupFault.{GroupFault}
use Rattle.job_bytes.specs.declared.set_bytes.GroupFault.TheVariants.{Owed, Empty, Unknown}
use Rattle.job.specs.Refusal.{Outcome, done, refused, ◌>>=◌, ◌>>◌, demand}
use Rattle.job.specs.Handed.{all_curves}

-- a list of bytes: each entry is below 256
abbrev pub Bytes : List ℕ → Type 0
Bytes [] = Unit {0}
Bytes (b ∷ bs) = (b < 256) × Bytes bs

-- ---- written

-- the bytes for curves 8j to 8j+7, and the rest: a byte that is zero is left out
unfoldable pub group_of : ℕ → List ℕ → List ℕ
group_of zero bs = bs
group_of (suc b) bs = suc b ∷ bs

-- 1 for a byte that is not zero
unfoldable pub stands : ℕ → ℕ
stands zero = 0
stands (suc b) = 1

-- of k groups
unfoldable pub group_bytes : ℕ → ℕ → List ℕ
group_bytes zero s = []
group_bytes (suc k) s = group_of (s % 256) (group_bytes k (s / 256))

-- the map of k groups: a bit for each that is not empty, the lowest first
unfoldable pub group_map : ℕ → ℕ → ℕ
group_map zero s = 0
group_map (suc k) s = stands (s % 256) + 2 * group_map k (s / 256)

-- the map, then the groups that are not empty
unfoldable pub set_bytes : ℕ → List ℕ
set_bytes s = group_map 8 s ∷ group_bytes 8 s

-- ---- read

-- what was read, the offset behind it, and the bytes from there on
pub record Got (A : Type 0) : Type 0 where
  pub value : A
  pub next : ℕ
  pub rest : List ℕ

-- a value, and the bytes from position i on, which are still to be read
abbrev pub got : {A : Type 0} → A → ℕ → List ℕ → Got A
got a i bs = record { value = a; next = i; rest = bs }

-- the byte at offset i, where the bytes bs begin; refusal k where it is owed: i is the input length then
unfoldable pub byte_at : ℕ → ℕ → List ℕ → Outcome (Got ℕ)
byte_at k i [] = refused k i
byte_at k i (b ∷ bs) = done (got b (suc i) bs)

-- the refusals of a byte that is owed, one that is zero, and one that names a curve at or above the number of curves
module _ (owed empty unknown curves : ℕ) where
  -- group j, if its bit d stands
  unfoldable pub read_group : ℕ → ℕ → ℕ → List ℕ → Outcome (Got ℕ)
  read_group zero j i bs = done (got 0 i bs)
  read_group (suc d) j i bs = do
    b ← byte_at owed i bs
    demand (ltb 0 b.value) empty i
    demand (inside (b.value * 2 ^ (8 * j)) (all_curves curves)) unknown i
    done (got (b.value * 2 ^ (8 * j)) b.next b.rest)

  -- k groups from group j on, the groups before them having given the set s
  unfoldable pub read_groups : ℕ → ℕ → ℕ → ℕ → ℕ → List ℕ → Outcome (Got ℕ)
  read_groups zero j map s i bs = done (got s i bs)
  read_groups (suc k) j map s i bs = do
    g ← read_group (bit j map) j i bs
    read_groups k (suc j) map (s ∪ g.value) g.next g.rest

-- the answer to the reading of one group byte, which stands at offset i, in the numbers of the three refusals
unfoldable pub group_outcome : (owed empty unknown : ℕ) → ℕ → Result ℕ GroupFault → Outcome ℕ
group_outcome owed empty unknown i (Ok s) = done s
group_outcome owed empty unknown i (Err Owed) = refused owed i
group_outcome owed empty unknown i (Err Empty) = refused empty i
group_outcome owed empty unknown i (Err Unknown) = refused unknown i
