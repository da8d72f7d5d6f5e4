-- Lists of one number for each package: counts of common curves, and sizes.
use mathlib.Core.Path.{◌≡◌, refl, sym, ap, ◌∙◌}
use mathlib.Core.List.{List, [], ◌∷◌, ◌++◌, map, map-append}
use Prim.Native.Nat.{ℕ, zero, suc, ◌+◌, ◌-◌, ◌^◌, ◌≤◌, ◌<◌}
use native.Mathlib.Omega.{arith}
use lib.ListN.{length, get_or, take, drop, set, length-drop, length-map, get_or-map}
use lib.Seq.{get_or-drop, get_or-append-add, length-take-le}
use Rattle.bitset.specs.Set.{size}
use Rattle.bitset.proofs.Bits.{size_empty}
use Rattle.bitset.proofs.Laws.{size_le, size-∩-le}
use Rattle.job.specs.Refusal.{overwritten}
use Rattle.packages.specs.Tests.{common}
use Rattle.packages.specs.ContractWords.{joined_entry}
use Rattle.packages.proofs.Lists.{tail_lent, tail_back}

module _ {A B : Type 0} (f : A → B) where
  pub map_take : (n : ℕ) (l : List A) → map f (take n l) ≡ take n (map f l)
  map_take zero l = refl
  map_take (suc n) [] = refl
  map_take (suc n) (x ∷ l) = ap (λ (r : List B). f x ∷ r) (map_take n l)

  map_drop : (n : ℕ) (l : List A) → map f (drop n l) ≡ drop n (map f l)
  map_drop zero l = refl
  map_drop (suc n) [] = refl
  map_drop (suc n) (x ∷ l) = map_drop n l

  map_set : (l : List A) (i : ℕ) (x : A) → map f (set l i x) ≡ set (map f l) i (f x)
  map_set [] i x = refl
  map_set (y ∷ l) zero x = refl
  map_set (y ∷ l) (suc i) x = ap (λ (r : List B). f y ∷ r) (map_set l i x)

-- one number for each entry, after a join: v in the first's position, none in the second's
pub map_entries : {A : Type 0} (f : A → ℕ) (l : List A) (i j : ℕ) (v : A)
    → map f (take j (set l i v) ++ drop (suc j) (set l i v)) ≡ joined_entry (map f l) i j (f v)
map_entries f l i j v =
    let m = set l i v in
    map-append f (take j m) (drop (suc j) m) ∙ ap (λ (r : List ℕ). r ++ map f (drop (suc j) m)) (map_take f j m ∙ ap (take j) (map_set f l i v))
    ∙ ap (λ (r : List ℕ). take j (set (map f l) i (f v)) ++ r) (map_drop f (suc j) m ∙ ap (drop (suc j)) (map_set f l i v))

module _ (f : ℕ → ℕ) where
  map_at : (xs rest : List ℕ) (k : ℕ) → k < length xs → get_or (map f xs ++ rest) k 0 ≡ f (get_or xs k 0)
  map_at [] rest k h = absurd (omega arith)
  map_at (x ∷ xs) rest zero h = refl
  map_at (x ∷ xs) rest (suc k) h = map_at xs rest k (omega arith)

  -- what f made of each entry, where it was written
  pub mapped_at : (xs old : List ℕ) (k : ℕ) → k < length xs → get_or (overwritten (map f xs) old) k 0 ≡ f (get_or xs k 0)
  unfolding overwritten
  mapped_at xs old k h = map_at xs _ k h

  -- the same where the parts from k on were lent, and the part `new` came back
  pub mapped_behind : (xs old new : List ℕ) (k j : ℕ) → k ≤ j → j < length xs → length xs ≤ length old
      → new ≡ overwritten (map f (take (length xs - k) (drop k xs))) (take (length old - k) (drop k old))
      → get_or (take k old ++ (new ++ drop (length old - k) (drop k old))) j 0 ≡ f (get_or xs j 0)
  mapped_behind xs old new k j l h n e =
      let d = j - k in
      let p : j ≡ length (take k old) + d = omega (arith, length-take-le k old (omega arith)) in
      let q : k + d ≡ j = omega arith in
      let rest = take (length old - k) (drop k old) in
      ap (λ (ys : List ℕ). get_or ys j 0) (tail_back old new k) ∙ ap (λ (i : ℕ). get_or (take k old ++ new) i 0) p ∙ get_or-append-add (take k old) new d 0
      ∙ ap (λ (ys : List ℕ). get_or ys d 0) (e ∙ ap (λ (ys : List ℕ). overwritten (map f ys) rest) (tail_lent xs k))
      ∙ mapped_at (drop k xs) rest d (omega (arith, length-drop k xs)) ∙ ap f (get_or-drop k xs d 0 ∙ ap (λ (i : ℕ). get_or xs i 0) q)

module _ (cs sizes : List ℕ) (sized : sizes ≡ map size cs) where
  pub sizes_long : length sizes ≡ length cs
  sizes_long = ap length sized ∙ length-map cs size

  pub size_at : (k : ℕ) → get_or sizes k 0 ≡ size (get_or cs k 0)
  size_at k =
      ap (λ (l : List ℕ). get_or l k 0) sized ∙ ap (λ (d : ℕ). get_or (map size cs) k d) (sym size_empty) ∙ get_or-map size cs k 0

  -- what `union_size` asks of the sizes and of what two packages have in common
  pub union_size_asks : ((k : ℕ) → get_or cs k 0 < 2 ^ 64) → (i j n : ℕ) → n ≡ common (get_or cs i 0) (get_or cs j 0)
      → (get_or sizes i 0 ≤ 64) × (get_or sizes j 0 ≤ 64) × (n ≤ get_or sizes i 0)
  union_size_asks small i j n e = (
    omega (arith, size_at i, size_le 64 (get_or cs i 0) (small i)),
    omega (arith, size_at j, size_le 64 (get_or cs j 0) (small j)),
    omega (arith, size_at i, e, size-∩-le (get_or cs i 0) (get_or cs j 0)),
  )

  -- the sizes after a join: u are the joined package's curves, and v is their size
  pub sizes_joined : (i j u v : ℕ) (ds made : List ℕ) → v ≡ size u → ds ≡ joined_entry cs i j u → take (length sizes - 1) made ≡ joined_entry sizes i j v
      → take (length cs - 1) made ≡ map size ds
  sizes_joined i j u v ds made p q r =
      ap (λ (n : ℕ). take (n - 1) made) (sym sizes_long) ∙ r ∙ ap (λ (l : List ℕ). joined_entry l i j v) sized ∙ ap (joined_entry (map size cs) i j) p
      ∙ sym (map_entries size cs i j u) ∙ ap (map size) (sym q)
