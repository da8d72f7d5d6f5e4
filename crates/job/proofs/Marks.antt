-- Flags of the tests that were met: flag t is set where t is one of the list.
use mathlib.Core.Path.{◌≡◌, refl, sym, ap, ◌∙◌}
use mathlib.Core.Bool.{Bool, true, false, ◌||◌}
use mathlib.Core.List.{List, [], ◌∷◌, ◌++◌}
use Prim.Native.Nat.{ℕ, zero, suc, ◌<◌}
use native.Mathlib.Decide.{ℕ_discrete}
use lib.Dec.{eqb}
use lib.ListN.{length, get_or, set, replicate}
use lib.Seq.{get_or-set_same, get_or-set_other}
use borrow.Author.Tests.{eq-eqb, ne_eqb}
use Rattle.job.specs.Handed.{listed}

unset : (n t : ℕ) → get_or (replicate n false) t false ≡ false
unset zero t = refl
unset (suc n) zero = refl
unset (suc n) (suc t) = unset n t

-- none is met at first
pub unmarked : (n t : ℕ) → get_or (replicate n false) t false ≡ listed [] t
unfolding listed
unmarked n t = unset n t

-- a test that is appended is listed, and the others are as before
pub listed_last : (ts : List ℕ) (t : ℕ) → listed (ts ++ (t ∷ [])) t ≡ true
unfolding listed
listed_last [] t = rw (eq-eqb t t refl) refl
listed_last (s ∷ ts) t = go (eqb s t) (listed_last ts t)
  where
    go : (b : Bool) → listed (ts ++ (t ∷ [])) t ≡ true → b || listed (ts ++ (t ∷ [])) t ≡ true
    go true e = refl
    go false e = e

pub listed_other : (ts : List ℕ) (t s : ℕ) → (t ≡ s → ⊥) → listed (ts ++ (t ∷ [])) s ≡ listed ts s
unfolding listed
listed_other [] t s h = rw (ne_eqb t s h) refl
listed_other (r ∷ ts) t s h = ap (λ (b : Bool). eqb r s || b) (listed_other ts t s h)

-- t is met
pub marked : (seen : List Bool) (ts : List ℕ) (t : ℕ) → t < length seen → ((s : ℕ) → get_or seen s false ≡ listed ts s)
    → (s : ℕ) → get_or (set seen t true) s false ≡ listed (ts ++ (t ∷ [])) s
marked seen ts t h all s = go (ℕ_discrete t s)
  where
    go : Dec (t ≡ s) → get_or (set seen t true) s false ≡ listed (ts ++ (t ∷ [])) s
    go (yes e) = rw (← e) (get_or-set_same seen t true false h ∙ sym (listed_last ts t))
    go (no d) = get_or-set_other seen t s true false (λ e. d (sym e)) ∙ all s ∙ sym (listed_other ts t s d)
