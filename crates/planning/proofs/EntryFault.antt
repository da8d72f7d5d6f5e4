-- Where the drops or loads do not fit the steps, refusal 12 names the first missing or surplus position of either.
use mathlib.Core.Path.{◌≡◌, refl, sym, ap, ◌∙◌}
use mathlib.Core.Logic.{◌↔◌}
use mathlib.Core.Bool.{Bool, true, false, ◌&&◌, false≢true}
use Prim.Native.Nat.{ℕ, ◌≤◌, ◌<◌, min}
use native.Mathlib.Omega.{arith}
use native.Mathlib.Nat.{zero-add}
use native.Mathlib.Decide.{dec_le}
use lib.Dec.{eqb}
use borrow.Author.Tests.{eqb-true, eq-eqb}
use Rattle.job.specs.Refusal.{done, refused, demand}
use Rattle.job.proofs.Laws.{both, and}
use Rattle.job.proofs.Faults.{First, Examines, faultless, faulty, examines_exact}
use Rattle.planning.specs.Planning.{sets_known}
use Rattle.planning.proofs.Sequence.{sets_known_lem, sets_long}

-- what is wrong at position p of d drop sets and l load sets, for n steps
pub data EntryFault (n d l p : ℕ) : Type 0 where
  -- a "missing .. position of the drops": a step, and no entry
  missing_drops : p < n → d ≤ p → EntryFault n d l p
  -- a "surplus position of the drops": an entry, and no step
  surplus_drops : n ≤ p → p < d → EntryFault n d l p
  -- the same of the loads
  missing_loads : p < n → l ≤ p → EntryFault n d l p
  surplus_loads : n ≤ p → p < l → EntryFault n d l p

module _ (n d l : ℕ) where
  -- the first is where the shortest of the three ends
  abbrev least : ℕ
  least = min (min d l) n

  none_before : (p : ℕ) → p < least → EntryFault n d l p → ⊥
  none_before p h (missing_drops a b) = omega arith
  none_before p h (surplus_drops a b) = omega arith
  none_before p h (missing_loads a b) = omega arith
  none_before p h (surplus_loads a b) = omega arith

  none : d ≡ n → l ≡ n → (p : ℕ) → EntryFault n d l p → ⊥
  none e f p (missing_drops a b) = omega arith
  none e f p (surplus_drops a b) = omega arith
  none e f p (missing_loads a b) = omega arith
  none e f p (surplus_loads a b) = omega arith

  fault_there : ((d ≡ n) × (l ≡ n) → ⊥) → EntryFault n d l least
  fault_there h = go (dec_le n least) (dec_le d least) (dec_le l least)
    where
      go : Dec (n ≤ least) → Dec (d ≤ least) → Dec (l ≤ least) → EntryFault n d l least
      go (no a) (yes b) c = missing_drops (omega arith) b
      go (no a) (no b) c = missing_loads (omega arith) (omega arith)
      go (yes a) (no b) c = surplus_drops a (omega arith)
      go (yes a) (yes b) (no c) = surplus_loads a (omega arith)
      go (yes a) (yes b) (yes c) = absurd (h (omega arith, omega arith))

  sets_examines : Examines (EntryFault n d l) 12 0 (sets_known n d l)
  unfolding sets_known demand
  sets_examines = go (eqb d n && eqb l n) refl
    where
      go : (b : Bool) → eqb d n && eqb l n ≡ b → Examines (EntryFault n d l) 12 0 (demand b 12 least)
      go true e = let x = both (eqb d n) (eqb l n) e in faultless refl (none (eqb-true d n x.0) (eqb-true l n x.1))
      go false e =
          faulty least (ap (refused 12) (sym (zero-add least)))
          (fault_there (λ x. false≢true (sym e ∙ and (eqb d n) (eqb l n) (eq-eqb d n x.0) (eq-eqb l n x.1))), none_before)

  -- THE POSITION NAMED IS THE FIRST THAT IS MISSING OR SURPLUS ..
  pub sets_exact : (p : ℕ) → sets_known n d l ≡ refused 12 p ↔ First (EntryFault n d l) p
  sets_exact p = simp zero-add at (examines_exact (EntryFault n d l) 12 0 (sets_known n d l) sets_examines p)

  -- .. and no position is named exactly where each list has an entry for each step
  pub entries_exact : sets_known n d l ≡ done tt ↔ ((d ≡ n) × (l ≡ n))
  entries_exact = (sets_long n d l, λ x. sets_known_lem n d l x.0 x.1)
