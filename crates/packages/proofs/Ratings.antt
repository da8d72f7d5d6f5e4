-- The closest pair by the ratings: it is that of the highest score, where its partner is known. A partner that is looked for anew makes the ratings lighter.
use mathlib.Core.Path.{◌≡◌, sym, ap, ◌∙◌}
use mathlib.Core.Bool.{Bool}
use mathlib.Core.List.{List, [], ◌∷◌}
use Prim.Native.Nat.{ℕ, zero, suc, ◌+◌, ◌-◌, ◌≤◌, ◌<◌}
use native.Mathlib.Omega.{arith}
use native.Mathlib.Decide.{dec_lt, ℕ_discrete}
use lib.ListN.{length, get_or, set}
use Rattle.lists.specs.Choice.{nobody, found}
use Rattle.packages.specs.Packages.{best_pair}
use Rattle.packages.specs.ContractWords.{at, unrated, Rated}
use Rattle.packages.specs.declared.Rating.{Rating}
use Rattle.packages.proofs.Rows.{chosen, chosen_none, chosen_some, score, score_none, score_some, row_to, pair_start, pair_take, pair_stay}
use Rattle.packages.proofs.Renew.{row_found, rated_score}

none_by_score : (cs : List ℕ) (a b : ℕ) → score cs a b ≡ 0 → chosen a b ≡ nobody
none_by_score cs a zero e = chosen_none a
none_by_score cs a (suc b) e = absurd (omega (arith, e, score_some cs a (suc b) (omega arith)))

module _ (fits : ℕ → Bool) (cs : List ℕ) (rs : List Rating) (rated : (k : ℕ) → k < length cs → Rated fits cs k (get_or rs k unrated)) where
  -- the closest pair of the first i rows has a score below s
  abbrev Low : ℕ → ℕ → Type 0
  Low s i = (a : ℕ) × (b : ℕ) × (best_pair fits cs i ≡ chosen a b) × (score cs a b < s)

  more : (s i a b q : ℕ) → best_pair fits cs i ≡ chosen a b → score cs a b < s → row_to fits cs i (length cs) ≡ chosen i q → score cs i q < s
      → Dec (score cs a b < score cs i q) → Low s (suc i)
  more s i a b q e l r m (yes d) = (i, q, pair_take fits cs i q a b e r d, m)
  more s i a b q e l r m (no d) = (a, b, pair_stay fits cs i q a b e r (omega arith), l)

  low : (s : ℕ) → 0 < s → (i : ℕ) → i ≤ length cs → ((k : ℕ) → k < i → (get_or rs k unrated).score < s) → Low s i
  low s z zero l h = (0, 0, pair_start fits cs, omega (arith, score_none cs 0))
  low s z (suc i) l h =
      let p = low s z i (omega arith) (λ k m. h k (omega arith)) in
      let q = row_found fits cs i (omega arith) in
      more s i p.0 p.1 q.0 p.2 p.3 q.1
      (omega (arith, rated_score fits cs i (get_or rs i unrated) (omega arith) (rated i (omega arith)) q.0 q.1, h i (omega arith)))
      (dec_lt (score cs p.0 p.1) (score cs i q.0))

  -- every score is 0
  pub rated_none : ((k : ℕ) → (get_or rs k unrated).score ≡ 0) → best_pair fits cs (length cs) ≡ nobody
  rated_none h =
      let p = low 1 (omega arith) (length cs) (omega arith) (λ k m. omega (arith, h k)) in
      p.2 ∙ none_by_score cs p.0 p.1 (omega (arith, p.3))

  -- f is the first row with the highest score, and its partner is known
  module _ (f : ℕ) (within : f < length cs) (most : (k : ℕ) → (get_or rs k unrated).score ≤ (get_or rs f unrated).score)
      (earliest : (k : ℕ) → k < f → (get_or rs k unrated).score < (get_or rs f unrated).score)
      (known : 0 < (get_or rs f unrated).partner) where
    row : row_to fits cs f (length cs) ≡ chosen f ((get_or rs f unrated).partner)
    row = ((rated f within).own known).0 ∙ sym (chosen_some f ((get_or rs f unrated).partner) known)

    count : (get_or rs f unrated).score ≡ score cs f ((get_or rs f unrated).partner)
    count = ((rated f within).own known).1 ∙ sym (score_some cs f ((get_or rs f unrated).partner) known)

    positive : 0 < (get_or rs f unrated).score
    positive = omega (arith, count, score_some cs f ((get_or rs f unrated).partner) known)

    rest : (d : ℕ) → f + suc d ≤ length cs → best_pair fits cs (f + suc d) ≡ chosen f ((get_or rs f unrated).partner)
    rest zero l =
        let p = low ((get_or rs f unrated).score) positive f (omega arith) earliest in
        let e : f + 1 ≡ suc f = omega arith in
        rw e (pair_take fits cs f ((get_or rs f unrated).partner) p.0 p.1 p.2 row (omega (arith, p.3, count)))
    rest (suc d) l =
        let x = f + suc d in
        let e : f + suc (suc d) ≡ suc x = omega arith in
        let q = row_found fits cs x (omega arith) in
        rw e
        (pair_stay fits cs x q.0 f ((get_or rs f unrated).partner) (rest d (omega arith)) q.1
        (omega (arith, rated_score fits cs x (get_or rs x unrated) (omega arith) (rated x (omega arith)) q.0 q.1, most x, count)))

    pub rated_pair : best_pair fits cs (length cs) ≡ found (at f (get_or rs f unrated).partner)
    rated_pair =
        let e : length cs ≡ f + suc (length cs - suc f) = omega arith in
        ap (best_pair fits cs) e ∙ rest (length cs - suc f) (omega arith) ∙ chosen_some f _ known

-- ---- a measure of the ratings

pub weight : Rating → ℕ
weight r = r.score + (1 - r.partner)

pub weights : List Rating → ℕ
weights [] = 0
weights (r ∷ rs) = weight r + weights rs

pub weights_set : (rs : List Rating) (i : ℕ) (v : Rating) → i < length rs → weight v < weight (get_or rs i unrated) → weights (set rs i v) < weights rs
unfolding weights
weights_set [] i v l h = absurd (omega arith)
weights_set (r ∷ rs) zero v l h = omega (arith, h)
weights_set (r ∷ rs) (suc i) v l h = omega (arith, weights_set rs i v (omega arith) h)

-- the new rating is no higher, and without a partner its score is 0
pub lighter : (r v : Rating) → r.partner ≡ 0 → 0 < r.score → v.score ≤ r.score → (v.partner ≡ 0 → v.score ≡ 0) → weight v < weight r
unfolding weight
lighter r v p z m n = go (ℕ_discrete v.partner 0)
  where
    go : Dec (v.partner ≡ 0) → v.score + (1 - v.partner) < r.score + (1 - r.partner)
    go (yes e) = omega (arith, n e, e, p, z)
    go (no e) = omega (arith, m, p)
