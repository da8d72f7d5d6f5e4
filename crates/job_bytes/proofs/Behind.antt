-- Bytes that are behind those that a reading takes do not change it.
use mathlib.Core.Bool.{Bool, true, false}
use mathlib.Core.List.{List, [], ◌∷◌, ◌++◌}
use Prim.Native.Nat.{ℕ, zero, suc, ◌+◌, ◌≤◌}
use native.Mathlib.Omega.{arith}
use lib.ListN.{length}
use Rattle.bitset.specs.Set.{◌∪◌, bit}
use Rattle.job.specs.Refusal.{Outcome, done, refused, ◌>>=◌, ◌>>◌, demand}
use Rattle.job_bytes.specs.SetBytes.{Got, got, byte_at, read_group, read_groups}

-- two readings, of xs and of xs with ys behind: the same refusal, or the same value with at least m bytes left before ys
pub data Same {A : Type 0} (ys : List ℕ) (m : ℕ) : Outcome (Got A) → Outcome (Got A) → Type 0 where
  value : (a : A) (n : ℕ) (xs : List ℕ) → m ≤ length xs → Same ys m (done (got a n xs)) (done (got a n (xs ++ ys)))
  fault : (k f : ℕ) → Same ys m (refused k f) (refused k f)

module _ (ys : List ℕ) where
  -- one reading after another
  pub same_then : {A B : Type 0} (m p : ℕ) {o q : Outcome (Got A)} (f : Got A → Outcome (Got B)) → Same ys m o q
      → ((a : A) (n : ℕ) (xs : List ℕ) → m ≤ length xs → Same ys p (f (got a n xs)) (f (got a n (xs ++ ys)))) → Same ys p (◌>>=◌ o f) (◌>>=◌ q f)
  unfolding ◌>>=◌
  same_then m p f (value a n xs l) h = h a n xs l
  same_then m p f (fault k i) h = fault k i

  pub same_test : {A : Type 0} (p : ℕ) {o q : Outcome (Got A)} (t : Bool) (k f : ℕ) → Same ys p o q → Same ys p (◌>>◌ (demand t k f) o) (◌>>◌ (demand t k f) q)
  unfolding ◌>>◌ demand
  same_test p true k f s = s
  same_test p false k f s = fault k f

  pub byte_same : (o i m : ℕ) (xs : List ℕ) → 1 + m ≤ length xs → Same ys m (byte_at o i xs) (byte_at o i (xs ++ ys))
  unfolding byte_at
  byte_same o i m [] l = absurd (omega arith)
  byte_same o i m (x ∷ xs) l = value x (suc i) xs (omega arith)

  module _ (owed empty unknown curves : ℕ) where
    group_same : (d j i m : ℕ) (xs : List ℕ) → 1 + m ≤ length xs
        → Same ys m (read_group owed empty unknown curves d j i xs) (read_group owed empty unknown curves d j i (xs ++ ys))
    unfolding read_group
    group_same zero j i m xs l = value 0 i xs (omega arith)
    group_same (suc d) j i m xs l = same_then m m _ (byte_same owed i m xs l) (λ b n xs l. same_test m _ empty i (same_test m _ unknown i (value _ n xs l)))

    pub groups_same : (k j map s i m : ℕ) (xs : List ℕ) → k + m ≤ length xs
        → Same ys m (read_groups owed empty unknown curves k j map s i xs) (read_groups owed empty unknown curves k j map s i (xs ++ ys))
    unfolding read_groups
    groups_same zero j map s i m xs l = value s i xs (omega arith)
    groups_same (suc k) j map s i m xs l =
        same_then (k + m) m _ (group_same (bit j map) j i (k + m) xs (omega arith)) (λ g n xs l. groups_same k (suc j) map (s ∪ g) n m xs l)
