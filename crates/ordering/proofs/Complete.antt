-- Each method's order names each test exactly once.
use mathlib.Core.Path.{◌≡◌, refl, sym, ◌∙◌}
use mathlib.Core.Bool.{Bool, true, false, not, ◌&&◌, false≢true}
use mathlib.Core.List.{List, [], ◌∷◌, map}
use Prim.Native.Nat.{ℕ, zero, suc, ◌+◌, ◌≤◌, ◌<◌}
use native.Mathlib.Omega.{arith}
use native.Mathlib.Decide.{ℕ_discrete}
use lib.ListN.{length, get_or, length-append}
use lib.Dec.{ltb}
use borrow.Author.Tests.{ltb-true, ltb-false, lt-ltb, le-ltb}
use Rattle.bitset.proofs.Element.{sum}
use Rattle.lists.specs.Choice.{Found, nobody, found}
use Rattle.lists.proofs.Chosen.{Ranked, BestOf, best_of_lem}
use Rattle.job.specs.Handed.{listed}
use Rattle.job.specs.Words.{count, IsOrder}
use Rattle.job.proofs.Orders.{count_reverse, unlisted, uncounted, sum_count, Part, part_one, part_none, whole_part}
use Rattle.packages.specs.Tests.{up_to}
use Rattle.packages.proofs.Listed.{up_to_order}
use Rattle.packages.proofs.Rounds.{packages_order}
use Rattle.ordering.specs.Methods.{appended, grown, best_unlisted, neighbour, or_else, next_of, smaller, cuthill_mckee, degree, reverse_cuthill_mckee}
use Rattle.ordering.specs.Methods.{as_listed, order_by}

-- ---- smaller keys rank

pub ranked_least : (key : ℕ → ℕ) → Ranked (λ s t. ltb (key s) (key t))
ranked_least key =
    record {
      self = λ x. le-ltb (key x) (key x) (omega arith);
      less = λ x y z p q. le-ltb (key x) (key y) (omega (arith, ltb-true (key y) (key z) p, ltb-false (key x) (key z) q));
      more = λ x y z p q. lt-ltb (key y) (key x) (omega (arith, ltb-true (key y) (key z) p, ltb-false (key x) (key z) q));
    }

-- ---- a list that grows by unlisted tests

-- what may be appended to ts: an unlisted test of the n; nothing only where all are listed
abbrev pub Fresh : ℕ → List ℕ → Found ℕ → Type 0
Fresh n ts nobody = (t : ℕ) → t < n → listed ts t ≡ true
Fresh n ts (found t) = (t < n) × (listed ts t ≡ false)

pub not_both : (b c : Bool) → not b && c ≡ true → b ≡ false
not_both true c e = absurd (false≢true e)
not_both false c e = refl

not_none : (b : Bool) → not b && true ≡ false → b ≡ true
not_none true e = refl
not_none false e = absurd (false≢true (sym e))

module _ (fair : ℕ → Bool) (better : ℕ → ℕ → Bool) (ranked : Ranked better) (n : ℕ) (ts : List ℕ) where
  unlisted_found : (b : Found ℕ) → BestOf (λ t. not (listed ts t) && fair t) better n b → (r : Found ℕ) → Fresh n ts r → Fresh n ts (or_else b r)
  unfolding or_else
  unlisted_found nobody c r f = f
  unlisted_found (found t) c r f = (c.below, not_both (listed ts t) (fair t) c.fair)

  best_or_else : (r : Found ℕ) → Fresh n ts r → Fresh n ts (or_else (best_unlisted fair better n ts) r)
  unfolding best_unlisted
  best_or_else r f = unlisted_found (best_unlisted fair better n ts) (best_of_lem (λ t. not (listed ts t) && fair t) better ranked n) r f

module _ (better : ℕ → ℕ → Bool) (ranked : Ranked better) (n : ℕ) (ts : List ℕ) where
  remaining : (b : Found ℕ) → BestOf (λ t. not (listed ts t) && true) better n b → Fresh n ts b
  remaining nobody c = λ t l. not_none (listed ts t) (c t l)
  remaining (found t) c = (c.below, not_both (listed ts t) true c.fair)

  pub best_remaining : Fresh n ts (best_unlisted (λ t. true) better n ts)
  unfolding best_unlisted
  best_remaining = remaining (best_unlisted (λ t. true) better n ts) (best_of_lem (λ t. not (listed ts t) && true) better ranked n)

-- all are listed: there are n
pub full : (n : ℕ) (ts : List ℕ) → Part n ts → ((t : ℕ) → t < n → listed ts t ≡ true) → n ≤ length ts
unfolding sum
full n ts p h = omega (arith, sum_count n ts p.own, at_least n (λ t. count t ts) (λ t l. pos t (ℕ_discrete (count t ts) 0) l))
  where
    pos : (t : ℕ) → Dec (count t ts ≡ 0) → t < n → 1 ≤ count t ts
    pos t (yes e) l = absurd (false≢true (sym (unlisted t ts e) ∙ h t l))
    pos t (no d) l = omega arith

    at_least : (n : ℕ) (f : ℕ → ℕ) → ((k : ℕ) → k < n → 1 ≤ f k) → n ≤ sum n f
    at_least zero f h = omega arith
    at_least (suc n) f h = omega (arith, h 0 (omega arith), at_least n (λ k. f (suc k)) (λ k l. h (suc k) (omega arith)))

module _ (n : ℕ) (next : List ℕ → Found ℕ) (fresh : (ts : List ℕ) → Fresh n ts (next ts)) where
  appended_part : (k : ℕ) (ts : List ℕ) (b : Found ℕ) → Fresh n ts b → Part n ts → length ts + suc k ≡ n
      → Part n (appended ts b) × (length (appended ts b) + k ≡ n)
  unfolding appended
  appended_part k ts nobody f p e = absurd (omega (arith, full n ts p f))
  appended_part k ts (found t) f p e = (part_one n t ts p (omega arith) f.0 (uncounted t ts f.1), omega (arith, length-append ts (t ∷ [])))

  grown_part : (k : ℕ) (ts : List ℕ) → Part n ts → length ts + k ≡ n → IsOrder n (grown next k ts)
  unfolding grown
  grown_part zero ts p e = whole_part n ts p (omega arith)
  grown_part (suc k) ts p e = let a = appended_part k ts (next ts) (fresh ts) p e in grown_part k (appended ts (next ts)) a.0 a.1

  grown_order : IsOrder n (grown next n [])
  grown_order = grown_part n [] (part_none n) (omega arith)

-- ---- 0

as_listed_lem : (wants : List ℕ) → IsOrder (length wants) (as_listed wants)
as_listed_lem wants = up_to_order (length wants)

-- ---- 1

module _ (wants degrees : List ℕ) where
  pub fresh_next : (ts ss : List ℕ) → Fresh (length wants) ts (next_of wants degrees ts ss)
  unfolding next_of neighbour
  fresh_next ts [] = best_remaining (smaller wants degrees) (ranked_least (λ t. get_or degrees t 0)) (length wants) ts
  fresh_next ts (s ∷ ss) =
      best_or_else _ (smaller wants degrees) (ranked_least (λ t. get_or degrees t 0)) (length wants) ts (next_of wants degrees ts ss) (fresh_next ts ss)

  pub cuthill_order : IsOrder (length wants) (cuthill_mckee wants degrees)
  unfolding cuthill_mckee
  cuthill_order = grown_order (length wants) (λ ts. next_of wants degrees ts ts) (λ ts. fresh_next ts ts)

reverse_cuthill_mckee_lem : (wants : List ℕ) → IsOrder (length wants) (reverse_cuthill_mckee wants)
unfolding reverse_cuthill_mckee
reverse_cuthill_mckee_lem wants =
    let ds = map (degree wants) (up_to (length wants)) in
    let o : IsOrder (length wants) (cuthill_mckee wants ds) = cuthill_order wants ds in
    record { once = λ t l. count_reverse t (cuthill_mckee wants ds) ∙ o.once t l; only = λ t l. count_reverse t (cuthill_mckee wants ds) ∙ o.only t l }

-- ---- the methods by their numbers

-- EACH METHOD'S ORDER names each test exactly once
pub order_complete : (method places : ℕ) (wants : List ℕ) → IsOrder (length wants) (order_by method places wants)
unfolding order_by
order_complete zero places wants = as_listed_lem wants
order_complete (suc zero) places wants = reverse_cuthill_mckee_lem wants
order_complete (suc (suc m)) places wants = packages_order places wants
