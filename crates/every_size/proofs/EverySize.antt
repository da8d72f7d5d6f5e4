-- The walk along a list for every drive size: behind each step the slots say what each drive holds, and the loads so far with those to come are the single
-- plan's.
use mathlib.Core.Path.{◌≡◌, refl, ◌∙◌}
use mathlib.Core.List.{List, ◌∷◌}
use Prim.Native.Nat.{ℕ, zero, suc, ◌+◌, ◌*◌, ◌^◌, ◌≤◌, ◌<◌}
use native.Mathlib.Omega.{arith}
use native.Mathlib.Decide.{dec_le}
use lib.ListN.{length, get_or, drop, replicate, get_or-eq_default, drop_of_length-le}
use Rattle.bitset.specs.Set.{◌∪◌, ◌∖◌, size}
use Rattle.bitset.proofs.Bits.{bit_empty}
use Rattle.bitset.proofs.Laws.{size_le}
use Rattle.drive.specs.Steps.{curve_count, load_count}
use Rattle.drive.specs.Plan.{furthest, plan_from}
use Rattle.every_size.specs.ContractWords.{sum, held_next, Slotted}

-- i steps are walked
pub record Walking (wants : List ℕ) (i : ℕ) (slots loads : List ℕ) (seen : ℕ) : Type 0 where
  pub hold : ℕ → ℕ
  pub slotted : Slotted hold seen (drop i wants) slots
  pub counted : (p : ℕ) → 1 ≤ p → p ≤ 64
      → sum (drop p loads) + load_count (plan_from (furthest 64) p (hold p) (drop i wants)) ≡ load_count (plan_from (furthest 64) p 0 wants)
  pub few : sum loads ≤ 64 * i

sum_zeros : (n p : ℕ) → sum (drop p (replicate n 0)) ≡ 0
unfolding sum
sum_zeros zero zero = refl
sum_zeros zero (suc p) = refl
sum_zeros (suc n) zero = omega (arith, sum_zeros n 0)
sum_zeros (suc n) (suc p) = sum_zeros n p

-- no drive holds a curve at first: each slot is 64
pub walking_start : (wants slots : List ℕ) → ((c : ℕ) → c < 64 → get_or slots c 0 ≡ 64) → length slots ≡ 64 → Walking wants 0 slots (replicate 65 0) 0
walking_start wants slots slot long =
    record {
      hold = λ p. 0;
      slotted = record {
        most = λ c. most c (dec_le 64 c);
        known = λ p c. omega arith;
        agree = λ c p l u o m. bit_empty c ∙ omega (arith, slot c l);
        apart = λ c d l m u v e pos low. absurd (omega (arith, slot c l));
      };
      counted = λ p o m. omega (arith, sum_zeros 65 p);
      few = omega (arith, sum_zeros 65 0);
    }
  where
    most : (c : ℕ) → Dec (64 ≤ c) → get_or slots c 0 ≤ 64
    most c (yes l) = let h : length slots ≤ c = omega arith in omega (arith, get_or-eq_default {A = ℕ} slots 0 h)
    most c (no l) = omega (arith, slot c (omega arith))

-- one step: of a test that wants w, before later ones that want ws
module _ {wants : List ℕ} {i : ℕ} {slots loads : List ℕ} {seen : ℕ} (at : Walking wants i slots loads seen) (w : ℕ) (ws : List ℕ)
    (steps : drop i wants ≡ w ∷ ws) where
  pub slotted_here : Slotted at.hold seen (w ∷ ws) slots
  slotted_here = rw steps at at.slotted

  pub walking_next : {slots' loads' : List ℕ} → w < 2 ^ 64 → ws ≡ drop (i + 1) wants → Slotted (held_next at.hold w ws) (seen ∪ w) ws slots'
      → ((p : ℕ) → 1 ≤ p → p ≤ 64 → sum (drop p loads') ≡ sum (drop p loads) + size (w ∖ at.hold p)) → sum loads' ≡ sum loads + size w
      → Walking wants (i + 1) slots' loads' (seen ∪ w)
  unfolding plan_from curve_count
  walking_next {slots'} {loads'} range later s l m =
      record {
        hold = held_next at.hold w ws;
        slotted = rw (← later) s;
        counted = λ p o n. rw (← later) (count p (rw steps at (at.counted p o n)) (l p o n));
        few = omega (arith, m, at.few, size_le 64 w range);
      }
    where
      count : (p : ℕ) → sum (drop p loads) + load_count (plan_from (furthest 64) p (at.hold p) (w ∷ ws)) ≡ load_count (plan_from (furthest 64) p 0 wants)
          → sum (drop p loads') ≡ sum (drop p loads) + size (w ∖ at.hold p)
          → sum (drop p loads') + load_count (plan_from (furthest 64) p (held_next at.hold w ws p) ws) ≡ load_count (plan_from (furthest 64) p 0 wants)
      count p e f = omega (arith, e, f)

-- all steps are walked
pub walking_end : {wants : List ℕ} {i : ℕ} {slots loads : List ℕ} {seen : ℕ} → Walking wants i slots loads seen → length wants ≤ i
    → (p : ℕ) → 1 ≤ p → p ≤ 64 → sum (drop p loads) ≡ load_count (plan_from (furthest 64) p 0 wants)
unfolding plan_from curve_count
walking_end {wants} at h p o m = let e = rw (drop_of_length-le wants h) at (at.counted p o m) in omega (arith, e)
