-- Refusal 8 is not given exactly where an order names each test once.
use mathlib.Core.Path.{◌≡◌, refl, sym, ap, ◌∙◌, subst}
use mathlib.Core.Logic.{◌↔◌}
use mathlib.Core.Bool.{not, ◌&&◌}
use mathlib.Core.List.{List, [], ◌∷◌, ◌++◌, append-nil, append_assoc}
use Prim.Native.Nat.{ℕ, ◌+◌, ◌≤◌, ◌<◌}
use native.Mathlib.Omega.{arith}
use native.Mathlib.Decide.{dec_le}
use lib.ListN.{length, get_or, length-append}
use lib.Dec.{leb, ltb, eqb}
use borrow.Author.Tests.{ltb-true, leb-true, lt-ltb, le-leb, not-true}
use Rattle.job.specs.Refusal.{done, demand}
use Rattle.job.specs.Handed.{listed}
use Rattle.job.proofs.Laws.{both, and, demand_true, demand_done, both_done, done_both}
use Rattle.job.specs.Words.{digit, count, IsOrder}
use Rattle.job.proofs.Orders.{count_append, one_same, unlisted, uncounted, Part, part_one, part_none, whole_part, order_length, own_entries}
use Rattle.job.specs.Order.{order_from, order_known}
use Rattle.job.proofs.Refuses.{Refuses, refuses_demand, refuses_both}

-- ---- an order passes

passes_from : (n : ℕ) (before rest : List ℕ) → length before + length rest ≡ n
    → ((t : ℕ) → t < n → count t before + count t rest ≡ 1) → ((t : ℕ) → n ≤ t → count t rest ≡ 0) → order_from n before rest ≡ done tt
unfolding order_from count
passes_from n before [] len once only = demand_done (leb n (length before)) 8 (length before) (le-leb n (length before) (omega arith))
passes_from n before (t ∷ ts) len once only =
    done_both (demand (ltb (length before) n && ltb t n && not (listed before t)) 8 (length before)) (order_from n (before ++ (t ∷ [])) ts)
    (demand_done _ 8 (length before) (and _ _ (and _ _ (lt-ltb (length before) n (omega arith)) (lt-ltb t n tn)) (ap not (unlisted t before zero_before))))
    ∙ passes_from n (before ++ (t ∷ [])) ts (omega (arith, length-append before (t ∷ [])))
    (λ s l. omega (arith, once s l, count_append s before (t ∷ []), single s)) (λ s l. omega (arith, only s l, counted s))
  where
    counted : (s : ℕ) → count s (t ∷ ts) ≡ digit (eqb t s) + count s ts
    counted s = refl

    single : (s : ℕ) → count s (t ∷ ts) ≡ count s (t ∷ []) + count s ts
    single s = omega arith

    below : Dec (n ≤ t) → t < n
    below (yes l) = absurd (omega (arith, only t l, counted t, one_same t))
    below (no l) = omega arith

    tn : t < n
    tn = below (dec_le n t)

    zero_before : count t before ≡ 0
    zero_before = omega (arith, once t tn, counted t, one_same t)

pub order_passes : (n : ℕ) (order : List ℕ) → IsOrder n order → order_known n order ≡ done tt
unfolding count
order_passes n order o = passes_from n [] order (omega (arith, order_length n order o)) (λ t l. omega (arith, o.once t l)) o.only

passed_from : (n : ℕ) (before rest : List ℕ) → Part n before → order_from n before rest ≡ done tt → Part n (before ++ rest) × (length before + length rest ≡ n)
unfolding order_from
passed_from n before [] p e =
    (subst (Part n) (sym (append-nil before)) p, omega (arith, p.short, leb-true n (length before) (demand_true (leb n (length before)) 8 (length before) e)))
passed_from n before (t ∷ ts) p e =
    let q = both_done (demand (ltb (length before) n && ltb t n && not (listed before t)) 8 (length before)) (order_from n (before ++ (t ∷ [])) ts) tt e in
    let a = both (ltb (length before) n && ltb t n) (not (listed before t)) (demand_true _ 8 (length before) q.0) in
    let b = both (ltb (length before) n) (ltb t n) a.0 in
    let r = passed_from n (before ++ (t ∷ [])) ts
    (part_one n t before p (ltb-true (length before) n b.0) (ltb-true t n b.1) (uncounted t before (not-true (listed before t) a.1))) q.1 in
    (subst (Part n) (append_assoc before (t ∷ []) ts) r.0, omega (arith, r.1, length-append before (t ∷ [])))

pub passed_order : (n : ℕ) (order : List ℕ) → order_known n order ≡ done tt → IsOrder n order
passed_order n order e = let r = passed_from n [] order (part_none n) e in whole_part n order r.0 (omega (arith, r.1))

-- "An order of it names each of its tests exactly once." is exactly the condition under which refusal 8 is not given
pub order_exact : (n : ℕ) (order : List ℕ) → order_known n order ≡ done tt ↔ IsOrder n order
order_exact n order = (passed_order n order, order_passes n order)

-- no other refusal is given
pub order_refuses : (n : ℕ) (before rest : List ℕ) → Refuses (λ k i. k ≡ 8) (order_from n before rest)
unfolding order_from
order_refuses n before [] = refuses_demand (λ k i. k ≡ 8) (leb n (length before)) 8 (length before) refl
order_refuses n before (t ∷ ts) =
    refuses_both (λ k i. k ≡ 8) _ _ (refuses_demand (λ k i. k ≡ 8) _ 8 (length before) refl) (order_refuses n (before ++ (t ∷ [])) ts)

-- an order names only tests of the job, so the wants of each step are those of a test
pub own_tests : (n : ℕ) (order : List ℕ) → IsOrder n order → (i : ℕ) → i < length order → get_or order i 0 < n
own_tests n order o = own_entries n order o.only

-- the order has an entry for each test ..
pub order_long : (n : ℕ) (order : List ℕ) → order_known n order ≡ done tt → length order ≡ n
order_long n order e = order_length n order (passed_order n order e)
