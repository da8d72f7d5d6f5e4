-- "3 method": 10 at 3 is given exactly where the numbers before it are known and the method is none of 0, 1 and 3. So a handed 2 gets it (02, wish 8).
use mathlib.Core.Path.{◌≡◌, refl, sym, ◌∙◌}
use mathlib.Core.Logic.{◌↔◌, ◌⊎◌, inl, inr}
use mathlib.Core.Bool.{Bool, true, false, false≢true}
use Prim.Native.Nat.{ℕ}
use native.Mathlib.Omega.{arith}
use lib.ListN.{length}
use Rattle.job.specs.Refusal.{Outcome, done, refused, ◌>>◌}
use Rattle.job.specs.Words.{Job, IsMethod}
use Rattle.job.specs.Handed.{is_method, method_known, wants_known, numbers_known, booked_known, job_known_by}
use Rattle.job.proofs.Laws.{demand_false, refused_split}
use Rattle.job.proofs.Examination.{known_bounds, by_method}
use Rattle.job.proofs.Refuses.{refuses, OfNumbers, numbers_refuse, OfWants, wants_refuse}
use Rattle.job.proofs.JobExact.{true_method, method_true}
use Rattle.job.proofs.BookedExact.{OfBooked, booked_refused}

module _ (method : ℕ) (j : Job) where
  abbrev numbers : Outcome (Unit {0})
  numbers = numbers_known j.rig (length j.wants)

  abbrev wants : Outcome (Unit {0})
  wants = wants_known j.rig.curves j.wants

  unknown : is_method method ≡ false → IsMethod method → ⊥
  unknown e is = false≢true (sym e ∙ method_true method is)

  -- what comes behind the method is refused elsewhere
  behind : numbers ≡ done tt → ◌>>◌ wants (booked_known j.rig) ≡ refused 10 3 → ⊥
  behind n e = go (refused_split wants (booked_known j.rig) 10 3 e)
    where
      by_booked : OfBooked j.rig 10 3 → ⊥
      by_booked (inl x) = omega (arith, x.2)
      by_booked (inr x) = omega (arith, x.2)

      go : (wants ≡ refused 10 3) ⊎ ((x : Unit {0}) × (wants ≡ done x) × (booked_known j.rig ≡ refused 10 3)) → ⊥
      go (inl w) =
          let r = refuses OfWants wants 10 3 (wants_refuse j.rig.curves j.wants (known_bounds j.rig (length j.wants) n).1) w in
          omega (arith, r.1)
      go (inr (x, w, b)) = by_booked (booked_refused j.rig 10 3 b)

  -- 10 AT 3
  pub method_exact : job_known_by method j ≡ refused 10 3 ↔ ((numbers_known j.rig (length j.wants) ≡ done tt) × (IsMethod method → ⊥))
  unfolding job_known_by method_known
  method_exact = (λ e. at_numbers (refused_split numbers _ 10 3 e), λ x. by_method method j x.0 (not_known (is_method method) refl x.1))
    where
      not_known : (t : Bool) → is_method method ≡ t → (IsMethod method → ⊥) → t ≡ false
      not_known true e other = absurd (other (true_method method e))
      not_known false e other = refl

      at_method : numbers ≡ done tt → (method_known method ≡ refused 10 3)
          ⊎ ((x : Unit {0}) × (method_known method ≡ done x) × (◌>>◌ wants (booked_known j.rig) ≡ refused 10 3))
          → (numbers ≡ done tt) × (IsMethod method → ⊥)
      at_method n (inl e) = (n, unknown (demand_false (is_method method) 10 3 10 3 e).0)
      at_method n (inr (x, m, e)) = absurd (behind n e)

      at_numbers : (numbers ≡ refused 10 3)
          ⊎ ((x : Unit {0}) × (numbers ≡ done x) × (◌>>◌ (method_known method) (◌>>◌ wants (booked_known j.rig)) ≡ refused 10 3))
          → (numbers ≡ done tt) × (IsMethod method → ⊥)
      at_numbers (inl e) = absurd (omega (arith, (refuses OfNumbers numbers 10 3 (numbers_refuse j.rig (length j.wants)) e).1))
      at_numbers (inr (tt, n, e)) = at_method n (refused_split (method_known method) _ 10 3 e)
