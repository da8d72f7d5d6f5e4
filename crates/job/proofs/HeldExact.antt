-- The curves held at the start: 14 is given exactly where one of them is not below the number of curves, with the lowest such curve.
use mathlib.Core.Path.{◌≡◌, refl, sym, ap, ◌∙◌}
use mathlib.Core.Logic.{◌↔◌, ◌⊎◌, inl, inr}
use mathlib.Core.Bool.{Bool, true, false}
use mathlib.Core.List.{List, []}
use Prim.Native.Nat.{ℕ, ◌^◌, ◌≤◌, ◌<◌}
use native.Mathlib.Omega.{arith}
use native.Mathlib.Nat.{zero-add}
use native.Mathlib.Decide.{dec_le}
use lib.Count.{count_trailing_zeros}
use lib.Dec.{eqb}
use lib.ListN.{length}
use borrow.Author.Tests.{eqb-true, eqb-false}
use Rattle.bitset.specs.Set.{◌∖◌, ◌∈◌, bit, inside}
use Rattle.bitset.proofs.Bits.{bit-∖}
use Rattle.bitset.proofs.Laws.{∖-lt}
use Rattle.bitset.proofs.Parts.{bit_below}
use Rattle.bitset.proofs.Element.{∈-pos, lowest_in, lowest_least}
use Rattle.job.specs.Refusal.{Outcome, done, refused, ◌>>◌, demand}
use Rattle.job.specs.Words.{Job, IsJob}
use Rattle.job.specs.Handed.{all_curves, held_known, job_known}
use Rattle.job.specs.Order.{order_known}
use Rattle.job.specs.Calls.{checking_known}
use Rattle.job.proofs.Laws.{demand_true, demand_done, done_both, refused_split}
use Rattle.job.proofs.Examination.{refused_both}
use Rattle.job.proofs.Refuses.{refuses, HandedRefusal, job_by_refuses}
use Rattle.job.proofs.JobExact.{below_inside, inside_below, job_exact}
use Rattle.job.proofs.Faults.{First, Examines, faultless, faulty, examines_exact}
use Rattle.job.proofs.OrderExact.{order_refuses}

-- a held curve that a job with so many curves lacks
abbrev pub UnknownHeld : ℕ → ℕ → ℕ → Type 0
UnknownHeld curves held k = (curves ≤ k) × (k ∈ held)

module _ (curves held : ℕ) where
  abbrev unknown : ℕ
  unknown = held ∖ all_curves curves

  own_bit : (k : ℕ) → k < curves → bit k (all_curves curves) ≡ 1
  own_bit k h = omega (arith, bit_below k curves)

  other_bit : (k : ℕ) → curves ≤ k → bit k (all_curves curves) ≡ 0
  other_bit k h = omega (arith, bit_below k curves)

  unknown_bit : (k : ℕ) → k ∈ unknown ↔ UnknownHeld curves held k
  unknown_bit k = go (dec_le curves k)
    where
      go : Dec (curves ≤ k) → k ∈ unknown ↔ UnknownHeld curves held k
      go (yes h) =
          ((λ e. (h, omega (arith, bit-∖ k held (all_curves curves)))), (λ u. omega (arith, u.1, bit-∖ k held (all_curves curves), other_bit k h)))
      go (no h) =
          ((λ e. absurd (omega (arith, bit-∖ k held (all_curves curves), own_bit k (omega arith)))), (λ u. absurd (omega (arith, u.0))))

  held_examines : held < 2 ^ 64 → Examines (UnknownHeld curves held) 14 0 (held_known curves held)
  unfolding held_known demand inside
  held_examines range = go (eqb unknown 0) refl
    where
      go : (b : Bool) → eqb unknown 0 ≡ b → Examines (UnknownHeld curves held) 14 0 (demand b 14 (count_trailing_zeros 64 unknown))
      go true e = faultless refl (λ k u. omega (arith, ∈-pos k unknown ((unknown_bit k).1 u), eqb-true unknown 0 e))
      go false e =
          let some : 0 < unknown = omega (arith, eqb-false unknown 0 e) in
          let k = count_trailing_zeros 64 unknown in
          faulty k (ap (refused 14) (sym (zero-add k))) (
            (unknown_bit k).0 (lowest_in 64 unknown some (∖-lt 64 held (all_curves curves) range)),
            λ q l u. omega (arith, lowest_least 64 unknown q l, (unknown_bit q).1 u),
          )

  -- THE CURVE NAMED IS THE LOWEST THAT IS HELD AND THAT THE JOB LACKS ..
  pub unknown_held_exact : held < 2 ^ 64 → (k : ℕ) → held_known curves held ≡ refused 14 k ↔ First (UnknownHeld curves held) k
  unknown_held_exact range k = simp zero-add at (examines_exact (UnknownHeld curves held) 14 0 (held_known curves held) (held_examines range) k)

  -- .. and none is named exactly where only curves of the job are held
  pub held_exact : held_known curves held ≡ done tt ↔ (held < 2 ^ curves)
  unfolding held_known
  held_exact = ((λ e. inside_below curves held (demand_true _ 14 _ e)), (λ h. demand_done _ 14 _ (below_inside curves held h)))

-- of all that planning and checking ask: "after 13", and before 8
module _ (j : Job) (held : ℕ) (order : List ℕ) (range : held < 2 ^ 64) (k : ℕ) where
  abbrev behind : Outcome (Unit {0})
  behind = ◌>>◌ (held_known j.rig.curves held) (order_known (length j.wants) order)

  of_held : (held_known j.rig.curves held ≡ refused 14 k)
      ⊎ ((x : Unit {0}) × (held_known j.rig.curves held ≡ done x) × (order_known (length j.wants) order ≡ refused 14 k))
      → First (UnknownHeld j.rig.curves held) k
  of_held (inl e) = (unknown_held_exact j.rig.curves held range k).0 e
  of_held (inr (x, e, f)) = absurd (omega (arith, refuses (λ k i. k ≡ 8) _ 14 k (order_refuses (length j.wants) [] order) f))

  other : HandedRefusal 14 k → ⊥
  other (inl h) = omega (arith, h.0)
  other (inr h) = omega (arith, h.0)

  of_job : (job_known j ≡ refused 14 k) ⊎ ((x : Unit {0}) × (job_known j ≡ done x) × (behind ≡ refused 14 k))
      → IsJob j × First (UnknownHeld j.rig.curves held) k
  of_job (inl e) = absurd (other (refuses HandedRefusal _ 14 k (job_by_refuses 0 j) e))
  of_job (inr (tt, e, f)) = ((job_exact j).0 e, of_held (refused_split (held_known j.rig.curves held) _ 14 k f))

  -- 14 IS EXACT
  pub unknown_exact : checking_known j held order ≡ refused 14 k ↔ (IsJob j × First (UnknownHeld j.rig.curves held) k)
  unfolding checking_known
  unknown_exact = (
    (λ e. of_job (refused_split (job_known j) behind 14 k e)),
    (λ x. done_both _ _ ((job_exact j).1 x.0) ∙ refused_both _ _ 14 k ((unknown_held_exact j.rig.curves held range k).1 x.1)),
  )
