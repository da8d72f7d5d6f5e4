-- The rating of each row, kept over a join: what is best by comparison is what the row's scan finds, and what a join changes of it.
use mathlib.Core.Path.{◌≡◌, refl, sym, ap, ◌∙◌, subst}
use mathlib.Core.Bool.{Bool, true, false, false≢true}
use mathlib.Core.List.{List, ◌++◌}
use Prim.Native.Nat.{ℕ, zero, suc, ◌+◌, ◌-◌, ◌^◌, ◌≤◌, ◌<◌}
use native.Mathlib.Omega.{arith}
use native.Mathlib.Decide.{ℕ_discrete, dec_lt}
use lib.ListN.{length, get_or, take, drop, set, length-set, length-take, get_or-append, get_or-eq_default}
use lib.Seq.{take-append-le, get_or-take, get_or-drop, get_or-append-add, get_or-set_same, get_or-set_other, length-take-le}
use borrow.Author.Tests.{lt-ltb, le-ltb, eq-eqb, ne_eqb}
use Rattle.bitset.specs.Set.{◌∪◌}
use Rattle.lists.specs.Choice.{Found, nobody, found}
use Rattle.packages.specs.Tests.{common}
use Rattle.packages.specs.Packages.{Pair}
use Rattle.packages.specs.ContractWords.{joined_entry, unrated, Rated, lone_of, moved_up}
use Rattle.packages.specs.declared.Rating.{Rating}
use Rattle.packages.proofs.Rows.{chosen, chosen_some, chosen_none, score, score_none, score_some, row_to, row_start, row_take, row_pass, row_keep}

-- p is the best second for the first k among those below n: 0 where none fits, else the first of those with most in common
pub record Best (fits : ℕ → Bool) (cs : List ℕ) (k n p : ℕ) : Type 0 where
  pub own : 0 < p → (k < p) × (p < n) × (fits (get_or cs k 0 ∪ get_or cs p 0) ≡ true)
  pub most : (j : ℕ) → k < j → j < n → fits (get_or cs k 0 ∪ get_or cs j 0) ≡ true → score cs k j ≤ score cs k p
  pub first : (j : ℕ) → k < j → j < p → fits (get_or cs k 0 ∪ get_or cs j 0) ≡ true → score cs k j < score cs k p

module _ (fits : ℕ → Bool) (cs : List ℕ) (k : ℕ) where
  abbrev Row : ℕ → Type 0
  Row n = (q : ℕ) × (row_to fits cs k n ≡ chosen k q) × Best fits cs k n q

  -- one package more, which does not fit or is no better
  best_keep : (j q : ℕ) → Best fits cs k j q → (fits (get_or cs k 0 ∪ get_or cs j 0) ≡ true → score cs k j ≤ score cs k q) → Best fits cs k (j + 1) q
  best_keep j q b h =
      record {
        own = λ z. ((b.own z).0, omega (arith, (b.own z).1), (b.own z).2);
        most = λ i m n g. below i (ℕ_discrete i j) m n g;
        first = b.first;
      }
    where
      below : (i : ℕ) → Dec (i ≡ j) → k < i → i < j + 1 → fits (get_or cs k 0 ∪ get_or cs i 0) ≡ true → score cs k i ≤ score cs k q
      below i (yes d) m n g = omega (arith, ap (score cs k) d, h (ap (λ (x : ℕ). fits (get_or cs k 0 ∪ get_or cs x 0)) (sym d) ∙ g))
      below i (no d) m n g = b.most i m (omega arith) g

  -- one package more
  row_turn : (j q : ℕ) → k < j → row_to fits cs k j ≡ chosen k q → Best fits cs k j q → (t : Bool) → fits (get_or cs k 0 ∪ get_or cs j 0) ≡ t
      → Dec (score cs k q < score cs k j) → Row (j + 1)
  row_turn j q l e b true f (yes h) =
      let s = score_some cs k j (omega arith) in (
        j,
        row_take fits cs k j q (score cs k q) e l refl (omega (arith, s)) f,
        record {
          own = λ z. (l, omega arith, f);
          most = λ i m n g. below i (ℕ_discrete i j) m n g;
          first = λ i m n g. omega (arith, b.most i m n g);
        },
      )
    where
      below : (i : ℕ) → Dec (i ≡ j) → k < i → i < j + 1 → fits (get_or cs k 0 ∪ get_or cs i 0) ≡ true → score cs k i ≤ score cs k j
      below i (yes d) m n g = omega (arith, ap (score cs k) d)
      below i (no d) m n g = omega (arith, b.most i m (omega arith) g)
  row_turn j q l e b true f (no h) =
      let s = score_some cs k j (omega arith) in
      (q, row_keep fits cs k j q (score cs k q) e refl (omega (arith, s)), best_keep j q b (λ g. omega arith))
  row_turn j q l e b false f d = (q, row_pass fits cs k j q (score cs k q) e f, best_keep j q b (λ g. absurd (false≢true (sym f ∙ g))))

  rows : (d : ℕ) → Row (k + 1 + d)
  rows zero =
      let e : k + 1 + 0 ≡ k + 1 = omega arith in (
        0,
        rw e (row_start fits cs k),
        record { own = λ z. absurd (omega arith); most = λ i m n g. absurd (omega arith); first = λ i m n g. absurd (omega arith) },
      )
  rows (suc d) =
      let j = k + 1 + d in
      let e : k + 1 + suc d ≡ j + 1 = omega arith in
      let r = rows d in
      rw e (row_turn j r.0 (omega arith) r.1 r.2 (fits (get_or cs k 0 ∪ get_or cs j 0)) refl (dec_lt (score cs k r.0) (score cs k j)))

  row_all : k < length cs → Row (length cs)
  row_all h = let e : k + 1 + (length cs - (k + 1)) ≡ length cs = omega arith in subst Row e (rows (length cs - (k + 1)))

  pub row_found : k < length cs → (q : ℕ) × (row_to fits cs k (length cs) ≡ chosen k q)
  row_found h = let r = row_all h in (r.0, r.1)

  lower : (n p q : ℕ) → Best fits cs k n p → Best fits cs k n q → p < q → ⊥
  lower n zero q b c h = let o = c.own h in omega (arith, b.most q o.0 o.1 o.2, score_none cs k, score_some cs k q h)
  lower n (suc p) q b c h =
      let o = c.own (omega arith) in
      let w = b.own (omega arith) in
      omega (arith, b.most q o.0 o.1 o.2, c.first (suc p) w.0 h w.2)

  only : (n p q : ℕ) → Best fits cs k n p → Best fits cs k n q → p ≡ q
  only n p q b c = go (dec_lt p q) (dec_lt q p)
    where
      go : Dec (p < q) → Dec (q < p) → p ≡ q
      go (yes h) d = absurd (lower n p q b c h)
      go (no h) (yes l) = absurd (lower n q p c b l)
      go (no h) (no l) = omega arith

  second_of : Found Pair → ℕ
  second_of nobody = 0
  second_of (found q) = q.second

  second_is : (p : ℕ) → second_of (chosen k p) ≡ p
  unfolding second_of
  second_is zero = ap second_of (chosen_none k)
  second_is (suc p) = ap second_of (chosen_some k (suc p) (omega arith))

  same_second : (p q : ℕ) → chosen k p ≡ chosen k q → p ≡ q
  same_second p q e = sym (second_is p) ∙ ap second_of e ∙ second_is q

  pub row_best : (p : ℕ) → k < length cs → row_to fits cs k (length cs) ≡ chosen k p → Best fits cs k (length cs) p
  row_best p h e = let r = row_all h in subst (Best fits cs k (length cs)) (same_second r.0 p (sym r.1 ∙ e)) r.2

  -- a second is behind the first
  pub row_behind : (p : ℕ) → k < length cs → row_to fits cs k (length cs) ≡ chosen k p → 0 < p → (k < p) × (p < length cs)
  row_behind p h e z = let o = (row_best p h e).own z in (o.0, o.1)

  pub best_row : (p : ℕ) → k < length cs → Best fits cs k (length cs) p → row_to fits cs k (length cs) ≡ chosen k p
  best_row p h b = let r = row_all h in r.1 ∙ ap (chosen k) (only (length cs) r.0 p r.2 b)

-- ---- a join of the packages i and j: ds are the curves after it

-- the place before the join of the package that is now at x, and the place now of the one that was at p
pub old_place : ℕ → ℕ → ℕ
old_place j x = x + (1 - (j - x))

pub new_place : ℕ → ℕ → ℕ
new_place j p = p - (1 - (suc j - p))

pub old_low : (j x : ℕ) → x < j → old_place j x ≡ x
unfolding old_place
old_low j x h = omega arith

old_high : (j x : ℕ) → j ≤ x → old_place j x ≡ suc x
unfolding old_place
old_high j x h = omega arith

old_within : (j x n : ℕ) → x < n → j ≤ n → (x ≤ old_place j x) × (old_place j x < suc n)
unfolding old_place
old_within j x n l m = (omega arith, omega arith)

old_same : (j x i : ℕ) → i < j → old_place j x ≡ i → x ≡ i
unfolding old_place
old_same j x i h e = omega arith

new_low : (j p : ℕ) → p ≤ j → new_place j p ≡ p
unfolding new_place
new_low j p h = omega arith

new_high : (j p : ℕ) → j < p → new_place j p ≡ p - 1
unfolding new_place
new_high j p h = omega arith

new_within : (j p n : ℕ) → (p ≡ j → ⊥) → j ≤ n → p < suc n → new_place j p < n
unfolding new_place
new_within j p n h l m = omega arith

new_pos : (j p : ℕ) → 0 < new_place j p → 0 < p
unfolding new_place
new_pos j p h = omega arith

pos_new : (j p : ℕ) → 0 < j → 0 < p → 0 < new_place j p
unfolding new_place
pos_new j p h l = omega arith

-- places keep their sequence
old_less : (j x y : ℕ) → x < y → old_place j x < old_place j y
unfolding old_place
old_less j x y h = omega arith

old_new : (j p : ℕ) → (p ≡ j → ⊥) → old_place j (new_place j p) ≡ p
unfolding old_place new_place
old_new j p h = omega arith

new_above : (j k p : ℕ) → (p ≡ j → ⊥) → old_place j k < p → k < new_place j p
unfolding old_place new_place
new_above j k p h l = omega arith

old_below : (j x p : ℕ) → (p ≡ j → ⊥) → x < new_place j p → old_place j x < p
old_below j x p h l = omega (arith, old_less j x (new_place j p) l, old_new j p h)

-- a list ls without its entry j
entry_out : {A : Type 0} (d : A) (ds ls : List A) (j : ℕ) → j ≤ length ls → ds ≡ take j ls ++ drop (suc j) ls → (x : ℕ)
    → get_or ds x d ≡ get_or ls (old_place j x) d
entry_out {A} d ds ls j within made x = go (dec_lt x j)
  where
    n : length (take j ls) ≡ j
    n = length-take-le j ls within

    go : Dec (x < j) → get_or ds x d ≡ get_or ls (old_place j x) d
    go (yes h) =
        ap (λ (m : List A). get_or m x d) made ∙ get_or-append (take j ls) (drop (suc j) ls) d x (omega (arith, n)) ∙ get_or-take j ls x d h
        ∙ ap (λ (m : ℕ). get_or ls m d) (sym (old_low j x h))
    go (no h) =
        let e : x ≡ length (take j ls) + (x - j) = omega (arith, n) in
        let f : suc j + (x - j) ≡ old_place j x = omega (arith, old_high j x (omega arith)) in
        ap (λ (m : List A). get_or m x d) made ∙ ap (λ (m : ℕ). get_or (take j ls ++ drop (suc j) ls) m d) e
        ∙ get_or-append-add (take j ls) (drop (suc j) ls) (x - j) d
        ∙ get_or-drop (suc j) ls (x - j) d ∙ ap (λ (m : ℕ). get_or ls m d) f

-- what holds of each set of a list of curves holds of the first ones
pub small_front : (xs : List ℕ) (n : ℕ) → ((k : ℕ) → get_or xs k 0 < 2 ^ 64) → (k : ℕ) → get_or (take n xs) k 0 < 2 ^ 64
small_front xs n h k = go (dec_lt k n)
  where
    go : Dec (k < n) → get_or (take n xs) k 0 < 2 ^ 64
    go (yes l) = omega (arith, get_or-take n xs k 0 l, h k)
    go (no l) = omega (arith, get_or-eq_default (take n xs) 0 {n = k} (omega (arith, length-take n xs)))

-- sets of curves below 64 stay such
pub joined_small : (cs : List ℕ) (i j v : ℕ) → i < length cs → j ≤ length cs → ((k : ℕ) → get_or cs k 0 < 2 ^ 64) → v < 2 ^ 64 → (k : ℕ)
    → get_or (joined_entry cs i j v) k 0 < 2 ^ 64
joined_small cs i j v l m h w k = go (ℕ_discrete (old_place j k) i)
  where
    at : get_or (joined_entry cs i j v) k 0 ≡ get_or (set cs i v) (old_place j k) 0
    at = entry_out 0 (joined_entry cs i j v) (set cs i v) j (omega (arith, length-set cs i v)) refl k

    go : Dec (old_place j k ≡ i) → get_or (joined_entry cs i j v) k 0 < 2 ^ 64
    go (yes d) = omega (arith, at, ap (λ (n : ℕ). get_or (set cs i v) n 0) d, get_or-set_same cs i v 0 l, w)
    go (no d) = omega (arith, at, get_or-set_other cs i (old_place j k) v 0 d, h (old_place j k))

module _ (fits : ℕ → Bool) (cs ds : List ℕ) (i j : ℕ) (before : i < j) (long : length cs ≡ suc (length ds)) (within : j ≤ length ds)
    (made : ds ≡ take j (set cs i (get_or cs i 0 ∪ get_or cs j 0)) ++ drop (suc j) (set cs i (get_or cs i 0 ∪ get_or cs j 0))) where
  entry_at : (x : ℕ) → get_or ds x 0 ≡ get_or (set cs i (get_or cs i 0 ∪ get_or cs j 0)) (old_place j x) 0
  entry_at = entry_out 0 ds (set cs i (get_or cs i 0 ∪ get_or cs j 0)) j (omega (arith, length-set cs i (get_or cs i 0 ∪ get_or cs j 0))) made

  -- all but the joined package are as they were
  others : (x : ℕ) → (x ≡ i → ⊥) → get_or ds x 0 ≡ get_or cs (old_place j x) 0
  others x h = entry_at x ∙ get_or-set_other cs i (old_place j x) (get_or cs i 0 ∪ get_or cs j 0) 0 (λ e. h (old_same j x i before e))

  module _ (k : ℕ) (other : k ≡ i → ⊥) where
    score_is : (x : ℕ) → (x ≡ i → ⊥) → 0 < x → score ds k x ≡ score cs (old_place j k) (old_place j x)
    score_is x h l =
        score_some ds k x l ∙ ap (λ (a : ℕ). 1 + common a (get_or ds x 0)) (others k other)
        ∙ ap (λ (b : ℕ). 1 + common (get_or cs (old_place j k) 0) b) (others x h)
        ∙ sym (score_some cs (old_place j k) (old_place j x) (omega (arith, old_less j 0 x l)))

    fits_is : (x : ℕ) → (x ≡ i → ⊥) → fits (get_or ds k 0 ∪ get_or ds x 0) ≡ fits (get_or cs (old_place j k) 0 ∪ get_or cs (old_place j x) 0)
    fits_is x h = ap (λ (a : ℕ). fits (a ∪ get_or ds x 0)) (others k other) ∙ ap (λ (b : ℕ). fits (get_or cs (old_place j k) 0 ∪ b)) (others x h)

    module _ (p : ℕ) (best : Best fits cs (old_place j k) (length cs) p) (stays : p ≡ j → ⊥) (apart : 0 < p → p ≡ i → ⊥) where
      not_joined : 0 < p → new_place j p ≡ i → ⊥
      not_joined l e = apart l (sym (old_new j p stays) ∙ ap (old_place j) e ∙ old_low j i before)

      score_new : score ds k (new_place j p) ≡ score cs (old_place j k) p
      score_new = go (ℕ_discrete p 0)
        where
          go : Dec (p ≡ 0) → score ds k (new_place j p) ≡ score cs (old_place j k) p
          go (yes e) = ap (score ds k) (new_low j p (omega arith) ∙ e) ∙ score_none ds k ∙ sym (ap (score cs (old_place j k)) e ∙ score_none cs (old_place j k))
          go (no e) =
              score_is (new_place j p) (not_joined (omega arith)) (pos_new j p (omega arith) (omega arith)) ∙ ap (score cs (old_place j k)) (old_new j p stays)

      own_new : 0 < new_place j p → (k < new_place j p) × (new_place j p < length ds) × (fits (get_or ds k 0 ∪ get_or ds (new_place j p) 0) ≡ true)
      own_new h =
          let o = best.own (new_pos j p h) in (
            new_above j k p stays o.0,
            new_within j p (length ds) stays within (omega (arith, o.1)),
            fits_is (new_place j p) (not_joined (new_pos j p h)) ∙ ap (λ (x : ℕ). fits (get_or cs (old_place j k) 0 ∪ get_or cs x 0)) (old_new j p stays) ∙ o.2,
          )

      most_new : (x : ℕ) → (x ≡ i → ⊥) → k < x → x < length ds → fits (get_or ds k 0 ∪ get_or ds x 0) ≡ true → score ds k x ≤ score ds k (new_place j p)
      most_new x h l m f =
          omega (
            arith,
            score_is x h (omega arith),
            score_new,
            best.most (old_place j x) (old_less j k x l) (omega (arith, old_within j x (length ds) m within)) (sym (fits_is x h) ∙ f),
          )

      first_new : (x : ℕ) → (x ≡ i → ⊥) → k < x → x < new_place j p → fits (get_or ds k 0 ∪ get_or ds x 0) ≡ true → score ds k x < score ds k (new_place j p)
      first_new x h l m f =
          omega (arith, score_is x h (omega arith), score_new, best.first (old_place j x) (old_less j k x l) (old_below j x p stays m) (sym (fits_is x h) ∙ f))

      -- the joined package does not come in question, or is no better: the best stays
      pub stay : (k < i → fits (get_or ds k 0 ∪ get_or ds i 0) ≡ true
          → (score ds k i ≤ score ds k (new_place j p)) × (i < new_place j p → score ds k i < score ds k (new_place j p)))
          → Best fits ds k (length ds) (new_place j p)
      stay worse =
          record {
            own = own_new;
            most = λ x l m f. at_most x (ℕ_discrete x i) l m f;
            first = λ x l m f. below x (ℕ_discrete x i) l m f;
          }
        where
          at_most : (x : ℕ) → Dec (x ≡ i) → k < x → x < length ds → fits (get_or ds k 0 ∪ get_or ds x 0) ≡ true → score ds k x ≤ score ds k (new_place j p)
          at_most x (yes e) l m f = omega (arith, ap (score ds k) e, (worse (omega arith) (ap (λ (y : ℕ). fits (get_or ds k 0 ∪ get_or ds y 0)) (sym e) ∙ f)).0)
          at_most x (no e) l m f = most_new x e l m f

          below : (x : ℕ) → Dec (x ≡ i) → k < x → x < new_place j p → fits (get_or ds k 0 ∪ get_or ds x 0) ≡ true → score ds k x < score ds k (new_place j p)
          below x (yes e) l m f =
              omega (arith, ap (score ds k) e, (worse (omega arith) (ap (λ (y : ℕ). fits (get_or ds k 0 ∪ get_or ds y 0)) (sym e) ∙ f)).1 (omega arith))
          below x (no e) l m f = first_new x e l m f

-- ---- ratings

module _ (fits : ℕ → Bool) (cs : List ℕ) (k : ℕ) (r : Rating) (row : k < length cs) where
  -- what a scan of the row finds is a rating
  pub row_rated : row_to fits cs k (length cs) ≡ chosen k (r.partner) → r.score ≡ score cs k (r.partner) → Rated fits cs k r
  row_rated e s =
      let b = row_best fits cs k (r.partner) row e in
      record {
        most = λ j l m f. omega (arith, b.most j l m f, s, score_some cs k j (omega arith));
        own = λ z. (e ∙ chosen_some k (r.partner) z, s ∙ score_some cs k (r.partner) z);
      }

  rated_best : Rated fits cs k r → 0 < r.partner → Best fits cs k (length cs) (r.partner)
  rated_best q z = row_best fits cs k (r.partner) row ((q.own z).0 ∙ sym (chosen_some k (r.partner) z))

  best_rated : ((j : ℕ) → k < j → j < length cs → fits (get_or cs k 0 ∪ get_or cs j 0) ≡ true → score cs k j ≤ r.score)
      → (0 < r.partner → Best fits cs k (length cs) (r.partner) × (r.score ≡ score cs k (r.partner))) → Rated fits cs k r
  best_rated m o =
      record {
        most = λ j l n f. omega (arith, m j l n f, score_some cs k j (omega arith));
        own = λ z. (best_row fits cs k (r.partner) row (o z).0 ∙ chosen_some k (r.partner) z, (o z).1 ∙ score_some cs k (r.partner) z);
      }

  -- no package of the row has a higher score
  pub rated_score : Rated fits cs k r → (q : ℕ) → row_to fits cs k (length cs) ≡ chosen k q → score cs k q ≤ r.score
  rated_score w q e = go (ℕ_discrete q 0)
    where
      go : Dec (q ≡ 0) → score cs k q ≤ r.score
      go (yes z) = omega (arith, ap (score cs k) z, score_none cs k)
      go (no z) =
          let o = (row_best fits cs k q row e).own (omega arith) in
          omega (arith, w.most q o.0 o.1 o.2, score_some cs k q (omega arith))

-- t is what is left of the rating r when the packages i and j are joined: the score, and the partner if that is another one
pub record Kept (i j : ℕ) (r t : Rating) : Type 0 where
  pub same : t.score ≡ r.score
  pub partner : 0 < t.partner → (0 < r.partner) × (t.partner ≡ new_place j (r.partner)) × (r.partner ≡ i → ⊥) × (r.partner ≡ j → ⊥)

pub kept_none : (i j : ℕ) (r t : Rating) → t ≡ lone_of r → Kept i j r t
kept_none i j r t e = record { same = ap (λ (x : Rating). x.score) e; partner = λ z. absurd (omega (arith, ap (λ (x : Rating). x.partner) e)) }

pub kept_moved : (i j : ℕ) (r t : Rating) → i < j → (0 < r.partner → r.partner ≡ i → ⊥) → t ≡ moved_up j r → Kept i j r t
kept_moved i j r t l h e = go (ℕ_discrete (r.partner) j) (dec_lt j (r.partner))
  where
    go : Dec (r.partner ≡ j) → Dec (j < r.partner) → Kept i j r t
    go (yes a) d = kept_none i j r t (e ∙ rw (eq-eqb (r.partner) j a) refl)
    go (no a) (yes d) =
        let f : t ≡ record { score = r.score; partner = r.partner - 1 } = e ∙ rw (ne_eqb (r.partner) j a, lt-ltb j (r.partner) d) refl in
        let m = new_high j (r.partner) d in
        record {
          same = ap (λ (x : Rating). x.score) f;
          partner = λ z. (omega arith, omega (arith, ap (λ (x : Rating). x.partner) f, m), h (omega arith), a);
        }
    go (no a) (no d) =
        let f : t ≡ r = e ∙ rw (ne_eqb (r.partner) j a, le-ltb j (r.partner) (omega arith)) refl in
        let m = new_low j (r.partner) (omega arith) in
        let p = ap (λ (x : Rating). x.partner) f in
        record { same = ap (λ (x : Rating). x.score) f; partner = λ z. (omega (arith, p), omega (arith, p, m), h (omega (arith, p)), a) }

-- row k after the join, whose rating before it was r
module _ (fits : ℕ → Bool) (cs ds : List ℕ) (i j : ℕ) (before : i < j) (long : length cs ≡ suc (length ds)) (within : j ≤ length ds)
    (made : ds ≡ take j (set cs i (get_or cs i 0 ∪ get_or cs j 0)) ++ drop (suc j) (set cs i (get_or cs i 0 ∪ get_or cs j 0)))
    (k : ℕ) (row : k < length ds) (other : k ≡ i → ⊥) (r t : Rating) (was : Rated fits cs (old_place j k) r) where
  old_row : old_place j k < length cs
  old_row = omega (arith, old_within j k (length ds) row within)

  old_best : 0 < r.partner → Best fits cs (old_place j k) (length cs) (r.partner)
  old_best = rated_best fits cs (old_place j k) r old_row was

  old_score : 0 < r.partner → r.score ≡ score cs (old_place j k) (r.partner)
  old_score z = (was.own z).1 ∙ sym (score_some cs (old_place j k) (r.partner) z)

  -- no other package has a higher score than before
  most_kept : (x : ℕ) → (x ≡ i → ⊥) → k < x → x < length ds → fits (get_or ds k 0 ∪ get_or ds x 0) ≡ true → score ds k x ≤ r.score
  most_kept x h l m f =
      let up = old_less j k x l in
      omega (
        arith,
        score_is fits cs ds i j before long within made k other x h (omega arith),
        score_some cs (old_place j k) (old_place j x) (omega (arith, up)),
        was.most (old_place j x) up (omega (arith, old_within j x (length ds) m within)) (sym (fits_is fits cs ds i j before long within made k other x h) ∙ f),
      )

  module _ (kept : Kept i j r t) where
    new_score : (z : 0 < t.partner) → t.score ≡ score ds k (new_place j (r.partner))
    new_score z =
        let q = kept.partner z in
        kept.same ∙ old_score q.0 ∙ sym (score_new fits cs ds i j before long within made k other (r.partner) (old_best q.0) q.3 (λ _. q.2))

    -- the joined package does not come in question, or is no better
    pub rated_stays : (k < i → fits (get_or ds k 0 ∪ get_or ds i 0) ≡ true → (score ds k i ≤ t.score) × (i < t.partner → score ds k i < t.score))
        → Rated fits ds k t
    rated_stays worse =
        best_rated fits ds k t row (λ x l m f. at_most x (ℕ_discrete x i) l m f)
        (λ z.
        let q = kept.partner z in
        let p = new_place j (r.partner) in (
          subst (Best fits ds k (length ds)) (sym q.1)
              (stay fits cs ds i j before long within made k other (r.partner) (old_best q.0) q.3 (λ _. q.2)
              (λ l f. (omega (arith, (worse l f).0, new_score z), λ n. omega (arith, (worse l f).1 (omega (arith, q.1)), new_score z)))),
          new_score z ∙ ap (score ds k) (sym q.1),
        ))
      where
        at_most : (x : ℕ) → Dec (x ≡ i) → k < x → x < length ds → fits (get_or ds k 0 ∪ get_or ds x 0) ≡ true → score ds k x ≤ t.score
        at_most x (yes e) l m f = omega (arith, ap (score ds k) e, (worse (omega arith) (ap (λ (y : ℕ). fits (get_or ds k 0 ∪ get_or ds y 0)) (sym e) ∙ f)).0)
        at_most x (no e) l m f = omega (arith, most_kept x e l m f, kept.same)

    -- the joined package fits and is better, or as good and earlier
    pub rated_beaten : (u : Rating) → u.score ≡ score ds k i → u.partner ≡ i → k < i → fits (get_or ds k 0 ∪ get_or ds i 0) ≡ true
        → t.score ≤ score ds k i → (score ds k i ≤ t.score → i < t.partner) → Rated fits ds k u
    rated_beaten u us up l f a b =
        best_rated fits ds k u row (λ x m n g. omega (arith, at_most x (ℕ_discrete x i) m n g, us))
        (λ z. (subst (Best fits ds k (length ds)) (sym up) best, us ∙ ap (score ds k) (sym up)))
      where
        at_most : (x : ℕ) → Dec (x ≡ i) → k < x → x < length ds → fits (get_or ds k 0 ∪ get_or ds x 0) ≡ true → score ds k x ≤ score ds k i
        at_most x (yes e) m n g = omega (arith, ap (score ds k) e)
        at_most x (no e) m n g = omega (arith, most_kept x e m n g, kept.same, a)

        below : (x : ℕ) → Dec (t.score < score ds k i) → k < x → x < i → fits (get_or ds k 0 ∪ get_or ds x 0) ≡ true → score ds k x < score ds k i
        below x (yes d) m n g = omega (arith, most_kept x (λ e. omega arith) m (omega arith) g, kept.same)
        below x (no d) m n g =
            let later = b (omega arith) in
            let z : 0 < t.partner = omega (arith, later) in
            let q = kept.partner z in
            omega (
              arith,
              first_new fits cs ds i j before long within made k other (r.partner) (old_best q.0) q.3 (λ _. q.2) x (λ e. omega arith) m
                  (omega (arith, later, q.1)) g,
              new_score z,
              a,
            )

        best : Best fits ds k (length ds) i
        best =
            record {
              own = λ z. (l, omega arith, f);
              most = λ x m n g. at_most x (ℕ_discrete x i) m n g;
              first = λ x m n g. below x (dec_lt (t.score) (score ds k i)) m n g;
            }

-- the ratings of all rows: rs before the join, xs without the entry j and with the joined package's own, ys with those before it renewed, zs with those
-- behind it too
module _ (fits : ℕ → Bool) (cs ds : List ℕ) (rs xs ys zs : List Rating) (i j : ℕ) (own : Rating) (before : i < j)
    (long : length cs ≡ suc (length ds)) (within : j ≤ length ds)
    (made : ds ≡ take j (set cs i (get_or cs i 0 ∪ get_or cs j 0)) ++ drop (suc j) (set cs i (get_or cs i 0 ∪ get_or cs j 0)))
    (as_long : length rs ≡ suc (length ds)) (still : length ys ≡ length rs)
    (out : take (length rs - 1) xs ≡ take j (set rs i own) ++ drop (suc j) (set rs i own))
    (joined : Rated fits ds i own)
    (front : (k : ℕ) → k < i → Rated fits cs k (get_or xs k unrated) → Rated fits ds k (get_or ys k unrated))
    (rest : (k : ℕ) → i ≤ k → get_or ys k unrated ≡ get_or xs k unrated)
    (back : (k : ℕ) → i < k → k < length ys → get_or zs k unrated ≡ moved_up j (get_or ys k unrated))
    (stays : (k : ℕ) → k ≤ i → get_or zs k unrated ≡ get_or ys k unrated)
    (was : (k : ℕ) → k < length cs → Rated fits cs k (get_or rs k unrated)) where
  placed : (k : ℕ) → k < length ds → get_or xs k unrated ≡ get_or (set rs i own) (old_place j k) unrated
  placed k h =
      sym (get_or-take (length rs - 1) xs k unrated (omega (arith, as_long)))
      ∙ entry_out unrated (take (length rs - 1) xs) (set rs i own) j (omega (arith, as_long, length-set rs i own)) out k

  other_at : (k : ℕ) → k < length ds → (old_place j k ≡ i → ⊥) → get_or xs k unrated ≡ get_or rs (old_place j k) unrated
  other_at k h n = placed k h ∙ get_or-set_other rs i (old_place j k) own unrated n

  behind : (k : ℕ) → k < length ds → i < k → Rated fits ds k (get_or zs k unrated)
  behind k h l =
      let r = get_or rs (old_place j k) unrated in
      let there = old_within j k (length ds) h within in
      let w = was (old_place j k) (omega (arith, there)) in
      rated_stays fits cs ds i j before long within made k h (λ e. omega arith) r (get_or zs k unrated) w
      (kept_moved i j r (get_or zs k unrated) before
      (λ z e. omega (arith, e, there, ((rated_best fits cs (old_place j k) r (omega (arith, there)) w z).own z).0))
      (back k l (omega (arith, still, as_long)) ∙ ap (moved_up j) (rest k (omega arith) ∙ other_at k h (λ e. omega (arith, e, there)))))
      (λ m f. absurd (omega arith))

  pub all_rated : (k : ℕ) → k < length ds → Rated fits ds k (get_or zs k unrated)
  all_rated k h = go (dec_lt k i) (dec_lt i k)
    where
      go : Dec (k < i) → Dec (i < k) → Rated fits ds k (get_or zs k unrated)
      go (yes a) b =
          let low = old_low j k (omega arith) in
          subst (Rated fits ds k) (sym (stays k (omega arith)))
          (front k a
          (subst (Rated fits cs k) (sym (other_at k h (λ e. omega (arith, e, low)) ∙ ap (λ (n : ℕ). get_or rs n unrated) low)) (was k (omega arith))))
      go (no a) (yes b) = behind k h b
      go (no a) (no b) =
          let e : k ≡ i = omega arith in
          let mine : get_or zs k unrated ≡ own =
          stays k (omega arith) ∙ rest k (omega arith) ∙ placed k h ∙ ap (λ (n : ℕ). get_or (set rs i own) n unrated) (old_low j k (omega arith) ∙ e)
          ∙ get_or-set_same rs i own unrated (omega (arith, as_long)) in
          subst (λ (n : ℕ). Rated fits ds n (get_or zs k unrated)) (sym e) (subst (Rated fits ds i) (sym mine) joined)

-- the ratings in a list that was lent and came back as ys
pub front_rated : (fits : ℕ → Bool) (cs : List ℕ) (ys zs : List Rating) (n : ℕ) → n ≤ length ys → length cs ≤ n
    → ((k : ℕ) → k < length cs → Rated fits cs k (get_or ys k unrated))
    → (k : ℕ) → k < length cs → Rated fits cs k (get_or (take n (ys ++ zs)) k unrated)
front_rated fits cs ys zs n a b h k l =
    subst (Rated fits cs k) (sym (ap (λ (m : List Rating). get_or m k unrated) (take-append-le n ys zs a) ∙ get_or-take n ys k unrated (omega arith))) (h k l)
