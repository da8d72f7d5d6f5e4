-- The closest pair, row by row: row i is the best second package for the first i. A second of 0 stands for none, since the second is behind the first.
use mathlib.Core.Path.{◌≡◌, refl, sym, ap, ◌∙◌}
use mathlib.Core.Bool.{Bool, true, false, ◌&&◌}
use mathlib.Core.List.{List}
use Prim.Native.Nat.{ℕ, zero, suc, ◌+◌, ◌^◌, ◌≤◌, ◌<◌}
use native.Mathlib.Omega.{arith}
use native.Mathlib.Numerals.{add-one}
use lib.ListN.{length, get_or}
use lib.Dec.{ltb}
use borrow.Author.Tests.{lt-ltb, le-ltb, ltb-true, ltb-false}
use Rattle.bitset.specs.Set.{◌∪◌, ◌∩◌, size}
use Rattle.bitset.proofs.Laws.{size_le, size-∩-le}
use Rattle.lists.specs.Choice.{Found, nobody, found, keep, choose, best_of}
use Rattle.lists.proofs.Chosen.{passed, best_skip}
use Rattle.packages.specs.ContractWords.{at, score_with}
use Rattle.packages.specs.Packages.{Pair, shared, eligible, closer, best_pair}

-- ---- what is found after b, from what is found after nobody

unfoldable merge : {A : Type 0} → (A → A → Bool) → Found A → Found A → Found A
merge better b nobody = b
merge better nobody (found x) = found x
merge better (found y) (found x) = keep (better x y) x (found y)

merge_none : {A : Type 0} (better : A → A → Bool) (z : Found A) → merge better nobody z ≡ z
unfolding merge
merge_none better nobody = refl
merge_none better (found x) = refl

module _ {A : Type 0} (fair : A → Bool) (key : A → ℕ) where
  abbrev higher : A → A → Bool
  higher x y = ltb (key y) (key x)

  merge_last : (x y : A) (e : Bool) → fair x ≡ e → choose fair higher x (found y) ≡ merge higher (found y) (choose fair higher x nobody)
  unfolding merge choose keep
  merge_last x y true p = rw p refl
  merge_last x y false p = rw p refl

  merge_both : (x y w : A) (e t u v : Bool) → fair x ≡ e → higher w y ≡ t → higher x w ≡ u → higher x y ≡ v
      → (t ≡ true → u ≡ true → v ≡ true) → (t ≡ false → u ≡ false → v ≡ false)
      → choose fair higher x (keep (higher w y) w (found y)) ≡ merge higher (found y) (keep (fair x && higher x w) x (found w))
  unfolding merge choose keep
  merge_both x y w false true u v p q r s f g = rw (q, p, q) refl
  merge_both x y w false false u v p q r s f g = rw (q, p, q) refl
  merge_both x y w true true true v p q r s f g = rw (q, p, r, s, f refl refl) refl
  merge_both x y w true true false v p q r s f g = rw (q, p, r, q) refl
  merge_both x y w true false true v p q r s f g = rw (q, p, r) refl
  merge_both x y w true false false v p q r s f g = rw (q, p, r, s, q, g refl refl) refl

  merge_choose : (x : A) (b z : Found A) → choose fair higher x (merge higher b z) ≡ merge higher b (choose fair higher x z)
  unfolding merge choose
  merge_choose x nobody z = ap (choose fair higher x) (merge_none higher z) ∙ sym (merge_none higher (choose fair higher x z))
  merge_choose x (found y) nobody = merge_last x y (fair x) refl
  merge_choose x (found y) (found w) =
      merge_both x y w (fair x) (higher w y) (higher x w) (higher x y) refl refl refl refl
      (λ p q. lt-ltb (key y) (key x) (omega (arith, ltb-true (key y) (key w) p, ltb-true (key w) (key x) q)))
      (λ p q. le-ltb (key y) (key x) (omega (arith, ltb-false (key y) (key w) p, ltb-false (key w) (key x) q)))

  best_after : (f : ℕ → A) (n : ℕ) (b : Found A) → best_of fair higher f n b ≡ merge higher b (best_of fair higher f n nobody)
  unfolding best_of merge
  best_after f zero b = refl
  best_after f (suc n) b = ap (choose fair higher (f n)) (best_after f n b) ∙ merge_choose (f n) b (best_of fair higher f n nobody)

-- ---- one row

-- the pair with the second j, none where j is 0
abbrev pub chosen : ℕ → ℕ → Found Pair
chosen i j = keep (ltb 0 j) (at i j) nobody

-- one more than what the pair has in common, 0 of none
pub score : List ℕ → ℕ → ℕ → ℕ
score cs i zero = 0
score cs i (suc j) = 1 + shared cs (at i (suc j))

pub score_none : (cs : List ℕ) (i : ℕ) → score cs i 0 ≡ 0
unfolding score
score_none cs i = refl

pub score_some : (cs : List ℕ) (i j : ℕ) → 0 < j → score cs i j ≡ 1 + shared cs (at i j)
unfolding score
score_some cs i zero h = absurd (omega arith)
score_some cs i (suc j) h = refl

pub score_as : (cs : List ℕ) (i j : ℕ) → score_with cs i j ≡ score cs i j
score_as cs i zero = sym (score_none cs i)
score_as cs i (suc j) = rw (lt-ltb 0 (suc j) (omega arith)) (sym (score_some cs i (suc j) (omega arith)))

pub chosen_none : (i : ℕ) → chosen i 0 ≡ nobody
unfolding keep
chosen_none i = refl

pub chosen_some : (i j : ℕ) → 0 < j → chosen i j ≡ found (at i j)
unfolding keep
chosen_some i j h = rw (lt-ltb 0 j h) refl

taken : (b c : Bool) (x y : Pair) → b ≡ true → c ≡ true → keep (b && c) x (found y) ≡ found x
unfolding keep
taken b c x y p q = rw (p, q) refl

stays : (b c : Bool) (x y : Pair) → c ≡ false → keep (b && c) x (found y) ≡ found y
unfolding keep
stays true c x y q = rw q refl
stays false c x y q = refl

module _ (fits : ℕ → Bool) (cs : List ℕ) (i : ℕ) where
  abbrev pub row_to : ℕ → Found Pair
  row_to n = best_of (eligible fits cs) (closer cs) (λ j. at i j) n nobody

  pub row_start : row_to (i + 1) ≡ chosen i 0
  unfolding best_of
  row_start =
      let e : i + 1 ≡ (i + 1) + 0 = omega arith in
      rw e (best_skip (eligible fits cs) (closer cs) (λ j. at i j) nobody (i + 1) 0 (λ c l h. rw (le-ltb i c (omega arith)) refl)) ∙ sym (chosen_none i)

  module _ (j s most : ℕ) (so_far : row_to j ≡ chosen i s) where
    step : row_to (j + 1) ≡ choose (eligible fits cs) (closer cs) (at i j) (chosen i s)
    unfolding best_of
    step = rw (add-one j) (ap (choose (eligible fits cs) (closer cs) (at i j)) so_far)

    -- the new second is eligible and has more in common
    pub row_take : i < j → most ≡ score cs i s → most < 1 + shared cs (at i j) → fits (get_or cs i 0 ∪ get_or cs j 0) ≡ true → row_to (j + 1) ≡ chosen i j
    row_take l e h f = step ∙ go s e ∙ sym (chosen_some i j (omega arith))
      where
        go : (s : ℕ) → most ≡ score cs i s → choose (eligible fits cs) (closer cs) (at i j) (chosen i s) ≡ found (at i j)
        go zero e = unfold choose keep in rw (lt-ltb i j l, f) refl
        go (suc s) e =
            ap (choose (eligible fits cs) (closer cs) (at i j)) (chosen_some i (suc s) (omega arith))
            ∙ (unfold choose in
            taken (eligible fits cs (at i j)) (closer cs (at i j) (at i (suc s))) (at i j) (at i (suc s)) (rw (lt-ltb i j l, f) refl)
            (lt-ltb (shared cs (at i (suc s))) (shared cs (at i j)) (omega (arith, e, score_some cs i (suc s) (omega arith)))))

    -- their union does not fit
    pub row_pass : fits (get_or cs i 0 ∪ get_or cs j 0) ≡ false → row_to (j + 1) ≡ chosen i s
    row_pass f = step ∙ passed (eligible fits cs) (closer cs) (at i j) (chosen i s) (go (ltb i j))
      where
        go : (b : Bool) → b && fits (get_or cs i 0 ∪ get_or cs j 0) ≡ false
        go true = f
        go false = refl

    -- the new second has no more in common
    pub row_keep : most ≡ score cs i s → 1 + shared cs (at i j) ≤ most → row_to (j + 1) ≡ chosen i s
    row_keep e h = step ∙ go s e
      where
        go : (s : ℕ) → most ≡ score cs i s → choose (eligible fits cs) (closer cs) (at i j) (chosen i s) ≡ chosen i s
        go zero e = unfold score in absurd (omega (arith, e))
        go (suc s) e =
            let same : choose (eligible fits cs) (closer cs) (at i j) (found (at i (suc s))) ≡ found (at i (suc s)) =
            unfold choose in
            stays (eligible fits cs (at i j)) (closer cs (at i j) (at i (suc s))) (at i j) (at i (suc s))
            (le-ltb (shared cs (at i (suc s))) (shared cs (at i j)) (omega (arith, e, score_some cs i (suc s) (omega arith)))) in
            ap (choose (eligible fits cs) (closer cs) (at i j)) (chosen_some i (suc s) (omega arith)) ∙ same ∙ sym (chosen_some i (suc s) (omega arith))

-- ---- the rows together

module _ (fits : ℕ → Bool) (cs : List ℕ) (i j f s : ℕ) (so_far : best_pair fits cs i ≡ chosen f s) (row : row_to fits cs i (length cs) ≡ chosen i j) where
  both : best_pair fits cs (suc i) ≡ merge (closer cs) (chosen f s) (chosen i j)
  unfolding best_pair
  both =
      best_after (eligible fits cs) (shared cs) (λ j. at i j) (length cs) (best_pair fits cs i)
      ∙ ap (λ (b : Found Pair). merge (closer cs) b (row_to fits cs i (length cs))) so_far ∙ ap (merge (closer cs) (chosen f s)) row

  merged : (s j : ℕ) → merge (closer cs) (chosen f (suc s)) (chosen i (suc j))
      ≡ keep (closer cs (at i (suc j)) (at f (suc s))) (at i (suc j)) (found (at f (suc s)))
  unfolding merge
  merged s j =
      ap (λ (b : Found Pair). merge (closer cs) b (chosen i (suc j))) (chosen_some f (suc s) (omega arith))
      ∙ ap (merge (closer cs) (found (at f (suc s)))) (chosen_some i (suc j) (omega arith))

  -- the row's best takes the place where its score is higher
  pub pair_take : score cs f s < score cs i j → best_pair fits cs (suc i) ≡ chosen i j
  pair_take h = both ∙ go s j h
    where
      go : (s j : ℕ) → score cs f s < score cs i j → merge (closer cs) (chosen f s) (chosen i j) ≡ chosen i j
      go s zero h = absurd (omega (arith, h, score_none cs i))
      go zero (suc j) h = ap (λ (b : Found Pair). merge (closer cs) b (chosen i (suc j))) (chosen_none f) ∙ merge_none (closer cs) (chosen i (suc j))
      go (suc s) (suc j) h =
          unfold keep in
          merged s j
          ∙ ap (λ (t : Bool). keep t (at i (suc j)) (found (at f (suc s))))
          (lt-ltb (shared cs (at f (suc s))) (shared cs (at i (suc j)))
          (omega (arith, h, score_some cs f (suc s) (omega arith), score_some cs i (suc j) (omega arith))))
          ∙ sym (chosen_some i (suc j) (omega arith))

  pub pair_stay : score cs i j ≤ score cs f s → best_pair fits cs (suc i) ≡ chosen f s
  pair_stay h = both ∙ go s j h
    where
      go : (s j : ℕ) → score cs i j ≤ score cs f s → merge (closer cs) (chosen f s) (chosen i j) ≡ chosen f s
      go s zero h = unfold merge in ap (merge (closer cs) (chosen f s)) (chosen_none i)
      go zero (suc j) h = absurd (omega (arith, h, score_none cs f, score_some cs i (suc j) (omega arith)))
      go (suc s) (suc j) h =
          unfold keep in
          merged s j
          ∙ ap (λ (t : Bool). keep t (at i (suc j)) (found (at f (suc s))))
          (le-ltb (shared cs (at f (suc s))) (shared cs (at i (suc j)))
          (omega (arith, h, score_some cs f (suc s) (omega arith), score_some cs i (suc j) (omega arith))))
          ∙ sym (chosen_some f (suc s) (omega arith))

-- at the start nothing is found
pub pair_start : (fits : ℕ → Bool) (cs : List ℕ) → best_pair fits cs 0 ≡ chosen 0 0
unfolding best_pair
pair_start fits cs = sym (chosen_none 0)

-- what two sets have in common is at most 64
pub few_shared : (a b n : ℕ) → a < 2 ^ 64 → n ≡ size (a ∩ b) → n ≤ 64
few_shared a b n h e = omega (arith, e, size-∩-le a b, size_le 64 a h)
