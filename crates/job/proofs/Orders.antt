-- Counting in lists: each of n tests once, and lists on the way there.
use mathlib.Core.Path.{◌≡◌, refl, sym, ap, ◌∙◌, subst}
use mathlib.Core.Bool.{Bool, true, false, ◌||◌, false≢true}
use mathlib.Core.List.{List, [], ◌∷◌, ◌++◌, reverse, reverse-cons}
use Prim.Native.Nat.{ℕ, zero, suc, ◌+◌, ◌^◌, ◌≤◌, ◌<◌}
use native.Mathlib.Omega.{arith}
use native.Mathlib.Decide.{ℕ_discrete, dec_le}
use lib.ListN.{length, get_or, length-append, drop_of_length-le}
use lib.Dec.{eqb}
use lib.Pow.{pow_mono, pow_pos}
use borrow.Author.Tests.{eqb-true, eq-eqb, ne_eqb}
use Rattle.bitset.specs.Set.{bit}
use Rattle.bitset.proofs.Bits.{bit_single, bit_other}
use Rattle.bitset.proofs.Element.{size_single, sum, sum_same, sum_add, sum_none, size_sum}
use Rattle.job.specs.Handed.{listed}
use Rattle.job.specs.Words.{digit, count, IsOrder}

pub count_append : (t : ℕ) (a b : List ℕ) → count t (a ++ b) ≡ count t a + count t b
unfolding count
count_append t [] b = omega arith
count_append t (s ∷ ss) b = omega (arith, count_append t ss b)

pub count_reverse : (t : ℕ) (ss : List ℕ) → count t (reverse ss) ≡ count t ss
unfolding count
count_reverse t [] = refl
count_reverse t (s ∷ ss) = ap (count t) (reverse-cons s ss) ∙ omega (arith, count_append t (reverse ss) (s ∷ []), count_reverse t ss)

pub one_same : (t : ℕ) → digit (eqb t t) ≡ 1
unfolding digit
one_same t = rw (eq-eqb t t refl) refl

-- a test that is not counted is not listed
pub unlisted : (t : ℕ) (ss : List ℕ) → count t ss ≡ 0 → listed ss t ≡ false
unfolding count listed digit
unlisted t [] h = refl
unlisted t (s ∷ ss) h = go (eqb s t) h (unlisted t ss)
  where
    go : (b : Bool) → digit b + count t ss ≡ 0 → (count t ss ≡ 0 → listed ss t ≡ false) → b || listed ss t ≡ false
    go true h ih = absurd (omega arith)
    go false h ih = ih (omega arith)

-- a test is listed exactly where it stands at some position
pub listed_position : (t : ℕ) (ss : List ℕ) → listed ss t ≡ true → (q : ℕ) × (q < length ss) × (get_or ss q 0 ≡ t)
unfolding listed
listed_position t [] h = absurd (false≢true h)
listed_position t (s ∷ ss) h = go (eqb s t) refl h (listed_position t ss)
  where
    go : (b : Bool) → eqb s t ≡ b → b || listed ss t ≡ true → (listed ss t ≡ true → (q : ℕ) × (q < length ss) × (get_or ss q 0 ≡ t))
        → (q : ℕ) × (q < suc (length ss)) × (get_or (s ∷ ss) q 0 ≡ t)
    go true e h ih = (0, omega arith, eqb-true s t e)
    go false e h ih = let x = ih h in (suc x.0, omega (arith, x.1), x.2)

pub position_listed : (t : ℕ) (ss : List ℕ) (q : ℕ) → q < length ss → get_or ss q 0 ≡ t → listed ss t ≡ true
unfolding listed
position_listed t [] q h e = absurd (omega arith)
position_listed t (s ∷ ss) zero h e = rw (eq-eqb s t e) refl
position_listed t (s ∷ ss) (suc q) h e = go (eqb s t) (position_listed t ss q (omega arith) e)
  where
    go : (b : Bool) → listed ss t ≡ true → b || listed ss t ≡ true
    go true e = refl
    go false e = e

-- ---- each of n tests once: n entries

one_bit : (s k : ℕ) → digit (eqb s k) ≡ bit k (2 ^ s)
unfolding digit
one_bit s k = go (ℕ_discrete k s)
  where
    go : Dec (k ≡ s) → digit (eqb s k) ≡ bit k (2 ^ s)
    go (yes e) = rw e (rw (eq-eqb s s refl, bit_single s) refl)
    go (no d) = rw (ne_eqb s k (λ e. d (sym e)), bit_other k s d) refl

sum_one : (n s : ℕ) → s < n → sum n (λ k. digit (eqb s k)) ≡ 1
sum_one n s h =
    sum_same n (λ k. digit (eqb s k)) (λ k. bit k (2 ^ s)) (λ k l. one_bit s k) ∙ sym (size_sum n (2 ^ s) (omega (arith, pow_mono h, pow_pos s)))
    ∙ size_single s

pub sum_count : (n : ℕ) (ss : List ℕ) → ((t : ℕ) → n ≤ t → count t ss ≡ 0) → sum n (λ t. count t ss) ≡ length ss
unfolding count
sum_count n [] h = sum_none n (λ t. 0) (λ t l. refl)
sum_count n (s ∷ ss) h =
    sum_add n (λ t. digit (eqb s t)) (λ t. count t ss) ∙ omega (arith, sum_one n s (below (dec_le n s)), sum_count n ss (λ t l. omega (arith, h t l)))
  where
    below : Dec (n ≤ s) → s < n
    below (yes l) = absurd (omega (arith, h s l, one_same s))
    below (no l) = omega arith

sum_ones : (n : ℕ) (f : ℕ → ℕ) → ((k : ℕ) → k < n → f k ≡ 1) → sum n f ≡ n
unfolding sum
sum_ones zero f h = refl
sum_ones (suc n) f h = omega (arith, h 0 (omega arith), sum_ones n (λ k. f (suc k)) (λ k l. h (suc k) (omega arith)))

pub order_length : (n : ℕ) (order : List ℕ) → IsOrder n order → length order ≡ n
order_length n order o = sym (sum_count n order o.only) ∙ sum_ones n (λ t. count t order) o.once

-- no tests have one order, which is empty
pub no_order : (n : ℕ) (order : List ℕ) → n ≡ 0 → IsOrder n order → order ≡ []
no_order n order e o = drop_of_length-le order {i = 0} (omega (arith, order_length n order o))

pub order_none : (n : ℕ) → n ≡ 0 → IsOrder n []
unfolding count
order_none n e = record { once = λ t l. absurd (omega arith); only = λ t l. refl }

pub uncounted : (t : ℕ) (ss : List ℕ) → listed ss t ≡ false → count t ss ≡ 0
unfolding count listed digit
uncounted t [] h = refl
uncounted t (s ∷ ss) h = go (eqb s t) h (uncounted t ss)
  where
    go : (b : Bool) → b || listed ss t ≡ false → (listed ss t ≡ false → count t ss ≡ 0) → digit b + count t ss ≡ 0
    go true h ih = absurd (false≢true (sym h))
    go false h ih = omega (arith, ih h)

pub one_le : (b : Bool) → digit b ≤ 1
unfolding digit
one_le true = omega arith
one_le false = omega arith

-- ---- part of an order: some of the n tests, none twice

pub record Part (n : ℕ) (ss : List ℕ) : Type 0 where
  pub short : length ss ≤ n
  pub most : (t : ℕ) → count t ss ≤ 1
  pub own : (t : ℕ) → n ≤ t → count t ss ≡ 0

pub part_one : (n t : ℕ) (ss : List ℕ) → Part n ss → length ss < n → t < n → count t ss ≡ 0 → Part n (ss ++ (t ∷ []))
unfolding count
part_one n t ss p l tn z =
    record {
      short = omega (arith, length-append ss (t ∷ []));
      most = λ s. go s (ℕ_discrete t s);
      own = λ s h. omega (arith, p.own s h, count_append s ss (t ∷ []), other s (λ e. omega arith));
    }
  where
    other : (s : ℕ) → (t ≡ s → ⊥) → digit (eqb t s) ≡ 0
    other s d = rw (ne_eqb t s d) (unfold digit in refl)

    go : (s : ℕ) → Dec (t ≡ s) → count s (ss ++ (t ∷ [])) ≤ 1
    go s (yes e) = subst (λ (x : ℕ). count x (ss ++ (t ∷ [])) ≤ 1) e (omega (arith, count_append t ss (t ∷ []), one_same t))
    go s (no d) = omega (arith, p.most s, count_append s ss (t ∷ []), other s d)

-- numbers that are at most 1, and n of them that make n
pub all_ones : (n : ℕ) (f : ℕ → ℕ) → ((k : ℕ) → f k ≤ 1) → n ≤ sum n f → (k : ℕ) → k < n → f k ≡ 1
unfolding sum
all_ones zero f h s k l = absurd (omega arith)
all_ones (suc n) f h s zero l = omega (arith, h 0, most n (λ k. f (suc k)) (λ k. h (suc k)))
  where
    most : (n : ℕ) (f : ℕ → ℕ) → ((k : ℕ) → f k ≤ 1) → sum n f ≤ n
    most zero f h = omega arith
    most (suc n) f h = omega (arith, h 0, most n (λ k. f (suc k)) (λ k. h (suc k)))
all_ones (suc n) f h s (suc k) l = all_ones n (λ k. f (suc k)) (λ k. h (suc k)) (omega (arith, h 0)) k (omega arith)

-- a part that has them all
pub whole_part : (n : ℕ) (ss : List ℕ) → Part n ss → n ≤ length ss → IsOrder n ss
whole_part n ss p h = record { once = all_ones n (λ t. count t ss) p.most (omega (arith, sum_count n ss p.own)); only = p.own }

pub part_none : (n : ℕ) → Part n []
unfolding count
part_none n = record { short = omega arith; most = λ t. omega arith; own = λ t h. refl }

-- where nothing else is counted, each entry is one of the n tests
pub own_entries : (n : ℕ) (ss : List ℕ) → ((t : ℕ) → n ≤ t → count t ss ≡ 0) → (i : ℕ) → i < length ss → get_or ss i 0 < n
unfolding count
own_entries n [] own i h = absurd (omega arith)
own_entries n (s ∷ ss) own zero h = below (dec_le n s)
  where
    below : Dec (n ≤ s) → s < n
    below (yes l) = absurd (omega (arith, own s l, one_same s))
    below (no l) = omega arith
own_entries n (s ∷ ss) own (suc i) h = own_entries n ss (λ t l. omega (arith, own t l)) i (omega arith)
