-- One turn of a loop over bytes: what a rule that reads comes to at byte k of the part bs, which begins at offset a of the input.
use mathlib.Core.Path.{◌≡◌, refl}
use mathlib.Core.List.{List, [], ◌∷◌, ◌++◌}
use Prim.Native.Nat.{ℕ, suc, ◌+◌, ◌-◌, ◌≤◌, ◌<◌}
use native.Mathlib.Omega.{arith}
use native.Mathlib.Numerals.{add-one}
use lib.ListN.{length, get_or, drop, drop_of_length-le}
use lib.Seq.{drop-cons}
use Rattle.bitset.specs.Set.{◌∪◌, bit}
use Rattle.job.specs.Refusal.{Outcome, done, refused, ◌>>=◌}
use Rattle.job_bytes.specs.SetBytes.{Got, got, byte_at, read_group, read_groups}
use Rattle.job_bytes.specs.JobBytes.{read_record, read_records}

-- ---- one byte: position k of the bytes bs, at offset i of the input
module _ (o i k : ℕ) (bs : List ℕ) where
  pub byte_there : k < length bs → byte_at o i (drop k bs) ≡ done (got (get_or bs k 0) (suc i) (drop (suc k) bs))
  unfolding byte_at
  byte_there h = rw (drop-cons bs k 0 h) refl

  pub byte_none : length bs ≤ k → byte_at o i (drop k bs) ≡ refused o i
  unfolding byte_at
  byte_none h = rw (drop_of_length-le bs h) refl

module _ (o a k : ℕ) (bs : List ℕ) where
  pub byte_here : k < length bs → byte_at o (a + k) (drop k bs) ≡ done (got (get_or bs k 0) (a + (k + 1)) (drop (k + 1) bs))
  byte_here h = let e : a + (k + 1) ≡ suc (a + k) = omega arith in rw (e, add-one k) (byte_there o (a + k) k bs h)

  pub byte_owed : length bs ≤ k → byte_at o (a + k) (drop k bs) ≡ refused o (a + k)
  byte_owed h = byte_none o (a + k) k bs h

-- ---- one group
module _ (owed empty unknown curves map s a k j : ℕ) (bs : List ℕ) (below : j < 8) where
  abbrev groups_here : Outcome (Got ℕ)
  groups_here = read_groups owed empty unknown curves (8 - j) j map s (a + k) (drop k bs)

  pub cons_here : groups_here
      ≡ ◌>>=◌ (read_group owed empty unknown curves (bit j map) j (a + k) (drop k bs))
      (λ g. read_groups owed empty unknown curves (8 - (j + 1)) (j + 1) map (s ∪ g.value) g.next g.rest)
  unfolding read_groups
  cons_here = let e : 8 - j ≡ suc (8 - (j + 1)) = omega arith in rw (e, add-one j) refl

pub groups_end : (owed empty unknown curves map s i : ℕ) (bs : List ℕ) → read_groups owed empty unknown curves (8 - 8) 8 map s i bs ≡ done (got s i bs)
unfolding read_groups
groups_end owed empty unknown curves map s i bs = refl

-- ---- one record of n
module _ (curves n t : ℕ) (wants : List ℕ) (i : ℕ) (bs : List ℕ) where
  pub record_next : t < n
      → read_records curves (n - t) wants i bs ≡ ◌>>=◌ (read_record curves i bs)
      (λ r. read_records curves (n - (t + 1)) (wants ++ (r.value ∷ [])) r.next r.rest)
  unfolding read_records
  record_next h = let e : n - t ≡ suc (n - (t + 1)) = omega arith in rw e refl

  pub records_end : n ≤ t → read_records curves (n - t) wants i bs ≡ done (got wants i bs)
  unfolding read_records
  records_end h = let e : n - t ≡ 0 = omega arith in rw e refl
