-- Refusal 8 names the first position with a fault.
use mathlib.Core.Path.{◌≡◌, refl, sym, ap, ◌∙◌, subst, subst₂}
use mathlib.Core.Logic.{◌↔◌}
use mathlib.Core.Bool.{Bool, true, false, not, ◌&&◌, false≢true}
use mathlib.Core.List.{List, [], ◌∷◌, ◌++◌, append_assoc}
use Prim.Native.Nat.{ℕ, suc, ◌+◌, ◌≤◌, ◌<◌}
use native.Mathlib.Omega.{arith}
use native.Mathlib.Nat.{zero-add}
use lib.Dec.{leb, ltb}
use lib.ListN.{length, get_or, length-append, get_or-append}
use lib.Seq.{get_or-append_seam}
use borrow.Author.Tests.{ltb-true, ltb-false, leb-true, leb-false, not-true}
use Rattle.job.specs.Refusal.{refused, demand}
use Rattle.job.specs.Handed.{listed}
use Rattle.job.proofs.Laws.{both}
use Rattle.job.proofs.Orders.{listed_position, position_listed}
use Rattle.job.proofs.Faults.{First, Examines, faultless, faulty, examines_exact, examines_next}
use Rattle.job.specs.Order.{order_from, order_known}

-- what is wrong at position p of an order of n tests
pub data OrderFault (n : ℕ) (order : List ℕ) (p : ℕ) : Type 0 where
  -- "a number out of range"
  out_of_range : p < length order → n ≤ get_or order p 0 → OrderFault n order p
  -- a number "seen before"
  seen_before : p < length order → (q : ℕ) → q < p → get_or order q 0 ≡ get_or order p 0 → OrderFault n order p
  -- a "missing" position
  missing : length order ≤ p → p < n → OrderFault n order p
  -- a "surplus position"
  surplus : n ≤ p → p < length order → OrderFault n order p

module _ (n : ℕ) where
  -- position p of the rest is position `length before + p` of the order
  abbrev FaultFrom : List ℕ → List ℕ → ℕ → Type 0
  FaultFrom before rest p = OrderFault n (before ++ rest) (length before + p)

  -- ---- the position of t behind the tests before it
  module _ (before : List ℕ) (t : ℕ) (ts : List ℕ) where
    abbrev passes : Bool
    passes = ltb (length before) n && ltb t n && not (listed before t)

    within : length before < length (before ++ t ∷ ts)
    within = omega (arith, length-append before (t ∷ ts))

    fault : passes ≡ false → OrderFault n (before ++ t ∷ ts) (length before)
    fault = go (ltb (length before) n) refl (ltb t n) refl (listed before t) refl
      where
        go : (a : Bool) → ltb (length before) n ≡ a → (b : Bool) → ltb t n ≡ b → (c : Bool) → listed before t ≡ c → a && b && not c ≡ false
            → OrderFault n (before ++ t ∷ ts) (length before)
        go false p b q c r e = surplus (ltb-false (length before) n p) within
        go true p false q c r e = out_of_range within (omega (arith, ltb-false t n q, get_or-append_seam before t ts 0))
        go true p true q false r e = absurd (false≢true (sym e))
        go true p true q true r e =
            let x = listed_position t before r in
            seen_before within x.0 x.1 (get_or-append before (t ∷ ts) 0 x.0 x.1 ∙ x.2 ∙ sym (get_or-append_seam before t ts 0))

    no_fault : passes ≡ true → OrderFault n (before ++ t ∷ ts) (length before) → ⊥
    no_fault e = go (ltb-true (length before) n b.0) (ltb-true t n b.1) (not-true (listed before t) a.1)
      where
        a : (ltb (length before) n && ltb t n ≡ true) × (not (listed before t) ≡ true)
        a = both (ltb (length before) n && ltb t n) (not (listed before t)) e

        b : (ltb (length before) n ≡ true) × (ltb t n ≡ true)
        b = both (ltb (length before) n) (ltb t n) a.0

        go : length before < n → t < n → listed before t ≡ false → OrderFault n (before ++ t ∷ ts) (length before) → ⊥
        go l tn u (out_of_range h r) = omega (arith, get_or-append_seam before t ts 0)
        go l tn u (seen_before h q ql s) =
            false≢true (sym u ∙ position_listed t before q ql (sym (get_or-append before (t ∷ ts) 0 q ql) ∙ s ∙ get_or-append_seam before t ts 0))
        go l tn u (missing h r) = omega (arith, within)
        go l tn u (surplus h r) = omega arith

  -- ---- the position behind the last
  end : (before : List ℕ) (b : Bool) → leb n (length before) ≡ b → Examines (FaultFrom before []) 8 (length before) (demand b 8 (length before))
  unfolding demand
  end before false e =
      let z : length before ≡ length before + 0 = omega arith in
      faulty 0 (ap (refused 8) z) (missing (omega (arith, length-append before [])) (omega (arith, leb-false n (length before) e)), λ q l. absurd (omega arith))
  end before true e = faultless refl none
    where
      none : (t : ℕ) → FaultFrom before [] t → ⊥
      none t (out_of_range h r) = omega (arith, length-append before [])
      none t (seen_before h q l s) = omega (arith, length-append before [])
      none t (missing h r) = omega (arith, leb-true n (length before) e)
      none t (surplus h r) = omega (arith, length-append before [])

  order_examines : (before rest : List ℕ) → Examines (FaultFrom before rest) 8 (length before) (order_from n before rest)
  unfolding order_from
  order_examines before [] = end before (leb n (length before)) refl
  order_examines before (t ∷ ts) =
      examines_next (FaultFrom before (t ∷ ts)) (FaultFrom (before ++ t ∷ []) ts) 8 (length before) (length (before ++ t ∷ [])) (passes before t ts) _
      (λ e. subst (OrderFault n (before ++ t ∷ ts)) z (fault before t ts e)) (λ e f. no_fault before t ts e (subst (OrderFault n (before ++ t ∷ ts)) (sym z) f))
      len (λ p. (subst₂ (OrderFault n) assoc (s p), subst₂ (OrderFault n) (sym assoc) (sym (s p)))) (order_examines (before ++ t ∷ []) ts)
    where
      z : length before ≡ length before + 0
      z = omega arith

      len : length (before ++ t ∷ []) ≡ suc (length before)
      len = omega (arith, length-append before (t ∷ []))

      assoc : (before ++ t ∷ []) ++ ts ≡ before ++ t ∷ ts
      assoc = append_assoc before (t ∷ []) ts

      s : (p : ℕ) → length (before ++ t ∷ []) + p ≡ length before + suc p
      s p = omega (arith, len)

  -- THE POSITION NAMED IS THE FIRST WITH A FAULT
  pub order_fault_exact : (order : List ℕ) (p : ℕ) → order_known n order ≡ refused 8 p ↔ First (OrderFault n order) p
  order_fault_exact order p = simp zero-add at (examines_exact (FaultFrom [] order) 8 0 (order_known n order) (order_examines [] order) p)
