-- Lists that the code of method 3 changes in place: a part that is lent, and sums of lengths.
use mathlib.Core.Path.{◌≡◌, refl, ap, ◌∙◌}
use mathlib.Core.List.{List, [], ◌∷◌, ◌++◌, map, reverse, append-nil, reverse-append, reverse-reverse}
use Prim.Native.Nat.{ℕ, zero, suc, ◌+◌, ◌-◌, ◌≤◌, ◌<◌}
use native.Mathlib.Omega.{arith}
use lib.ListN.{length, get_or, take, drop, set, length-append, length-drop, length-set, length-reverse, replicate, drop_of_length-le}
use lib.Seq.{take-take, take_all, take_at, drop_at}
use lib.Seq.{get_or-take, get_or-set_other, split_at, length-take-le}
use Rattle.std.specs.List.{sum}
use Rattle.std.proofs.lemmas.List.Sums.{sum_by-append, sum_by-cons, sum_by-set}
use Rattle.packages.specs.Packages.{flat}
use Rattle.packages.specs.ContractWords.{joined_entry}

-- ---- two parts exchanged by three reversals

pub three_reversals : (xs : List ℕ) (k : ℕ) → reverse (reverse (take k xs) ++ reverse (drop k xs)) ≡ drop k xs ++ take k xs
three_reversals xs k =
    reverse-append (reverse (take k xs)) (reverse (drop k xs)) ∙ ap (λ (l : List ℕ). l ++ reverse (reverse (take k xs))) (reverse-reverse (drop k xs))
    ∙ ap (λ (l : List ℕ). drop k xs ++ l) (reverse-reverse (take k xs))

-- a part from a to the end: what is lent, and the list with r in its place
pub tail_lent : (xs : List ℕ) (a : ℕ) → take (length xs - a) (drop a xs) ≡ drop a xs
tail_lent xs a = take_all (length xs - a) (drop a xs) (omega (arith, length-drop a xs))

pub tail_back : (xs r : List ℕ) (a : ℕ) → take a xs ++ (r ++ drop (length xs - a) (drop a xs)) ≡ take a xs ++ r
tail_back xs r a =
    ap (λ (l : List ℕ). take a xs ++ (r ++ l)) (drop_of_length-le (drop a xs) {i = length xs - a} (omega (arith, length-drop a xs)))
    ∙ ap (λ (l : List ℕ). take a xs ++ l) (append-nil r)

-- the three reversals where each part is lent and put back: ys is the list after the first
pub exchanged : (xs ys y z : List ℕ) (k : ℕ) → k ≤ length xs → y ≡ reverse (take k xs) → ys ≡ y ++ drop k xs → z ≡ reverse (take (length ys - k) (drop k ys))
    → reverse (take k ys ++ (z ++ drop (length ys - k) (drop k ys))) ≡ drop k xs ++ take k xs
exchanged xs ys y z k h p e q =
    let n : length y ≡ k = ap length p ∙ length-reverse (take k xs) ∙ length-take-le k xs h in
    let front : take k ys ≡ reverse (take k xs) = ap (take k) e ∙ take_at y (drop k xs) k n ∙ p in
    let back : z ≡ reverse (drop k xs) = q ∙ ap reverse (tail_lent ys k ∙ ap (drop k) e ∙ drop_at y (drop k xs) k n) in
    ap reverse (tail_back ys z k ∙ ap (λ (l : List ℕ). l ++ z) front ∙ ap (λ (l : List ℕ). reverse (take k xs) ++ l) back) ∙ three_reversals xs k

-- ---- sums

-- an entry, and those before and behind it
pub sum_at : (xs : List ℕ) (k : ℕ) → k < length xs → sum xs ≡ sum (take k xs) + (get_or xs k 0 + sum (drop (suc k) xs))
sum_at xs k h =
    let back = get_or xs k 0 ∷ drop (suc k) xs in
    ap sum (split_at xs k 0 h) ∙ sum_by-append (λ x. x) (take k xs) back
    ∙ ap (λ (n : ℕ). sum (take k xs) + n) (sum_by-cons (λ x. x) (get_or xs k 0) (drop (suc k) xs))

module _ (xs : List ℕ) (i j : ℕ) (h : i < j) (l : j < length xs) where
  -- the entries i and j lie between those before i and the end
  pub sum_pair : (sum (take i xs) + (get_or xs i 0 + get_or xs j 0) ≤ sum (take j xs) + get_or xs j 0) × (sum (take j xs) + get_or xs j 0 ≤ sum xs)
  sum_pair =
      let front = take j xs in
      let e = sum_at front i (omega (arith, length-take-le j xs (omega arith))) in
      let f : sum (take i front) ≡ sum (take i xs) = ap sum (take-take i j xs (omega arith)) in
      (omega (arith, e, f, get_or-take j xs i 0 h), omega (arith, sum_at xs j l))

  -- the sum stays where two entries are joined
  pub sum_joined : sum (joined_entry xs i j (get_or xs i 0 + get_or xs j 0)) ≡ sum xs
  sum_joined =
      let v = get_or xs i 0 + get_or xs j 0 in
      let ys = set xs i v in
      omega (
        arith,
        sum_by-append (λ x. x) (take j ys) (drop (suc j) ys),
        sum_at ys j (omega (arith, length-set xs i v)),
        get_or-set_other xs i j v 0 (λ e. omega (arith, e)),
        sum_by-set (λ x. x) xs i v 0 (omega arith),
      )

pub sum_lengths : (ps : List (List ℕ)) → sum (map length ps) ≡ length (flat ps)
unfolding flat
sum_lengths [] = refl
sum_lengths (p ∷ ps) = omega (arith, sum_by-cons (λ x. x) (length p) (map length ps), sum_lengths ps, length-append p (flat ps))

-- ---- what the code begins with

pub take_same : (x n m : ℕ) → n ≤ m → take n (replicate m x) ≡ replicate n x
take_same x zero m h = refl
take_same x (suc n) zero h = absurd (omega arith)
take_same x (suc n) (suc m) h = ap (λ (l : List ℕ). x ∷ l) (take_same x n m (omega arith))

sum_same : (n : ℕ) → sum (replicate n 1) ≡ n
sum_same zero = refl
sum_same (suc n) = omega (arith, sum_by-cons (λ x. x) 1 (replicate n 1), sum_same n)

pub sum_ones : (n m : ℕ) → n ≤ m → sum (take n (replicate m 1)) ≡ n
sum_ones n m h = ap sum (take_same 1 n m h) ∙ sum_same n
