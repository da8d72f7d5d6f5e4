-- Refusal 12 names the first step that breaks a rule, or, before that, the first position where the drops or loads do not fit the tests; and behind the steps
-- the number of tests, where the end set is not what is held.
use mathlib.Core.Path.{◌≡◌, refl, sym, ap, ◌∙◌}
use mathlib.Core.Logic.{◌↔◌, ◌⊎◌, inl, inr}
use mathlib.Core.List.{List, []}
use Prim.Native.Nat.{ℕ, ◌+◌}
use native.Mathlib.Omega.{arith}
use native.Mathlib.Decide.{ℕ_discrete}
use lib.ListN.{length}
use Rattle.std.specs.Prelude.{Result, Ok, Err}
use Rattle.job.specs.Refusal.{Outcome, done, refused, ◌>>◌}
use Rattle.job.specs.Words.{Job, capacity, IsJob, IsHolding, IsOrder}
use Rattle.job.specs.Handed.{all_curves, held_known, job_known}
use Rattle.job.specs.Order.{order_known}
use Rattle.job.specs.Calls.{checking_known}
use Rattle.job.proofs.Laws.{refused≢done, refused_same, refused_split}
use Rattle.job.proofs.Faults.{First}
use Rattle.job.proofs.Refuses.{Refuses, refuses, refuses_more, refuses_both, HandedRefusal, job_by_refuses, HeldRefusal, held_refuses}
use Rattle.job.proofs.OrderExact.{order_refuses}
use Rattle.drive.specs.Steps.{Move, held_after, curve_count}
use Rattle.drive.proofs.CheckExact.{AllKept, FirstFault, check_exact, check_held, fault_exact}
use Rattle.planning.specs.Plan.{Plan}
use Rattle.planning.specs.Planning.{sets_known, checked_outcome, plan_moves, plan_sets, end_known, checking}
use Rattle.planning.proofs.Sequence.{known_exact, exact_known, steps_checked, end_known_lem, end_other, check_sets, check_broken, check_other_end}
use Rattle.planning.proofs.CheckExact.{steps_ended}
use Rattle.planning.proofs.EntryFault.{EntryFault, sets_exact, entries_exact}

-- what the plan check refuses by 12 at step i
pub record Rejected (j : Job) (held : ℕ) (order : List ℕ) (p : Plan) (i : ℕ) : Type 0 where
  pub is_job : IsJob j
  pub is_holding : IsHolding j held
  pub is_order : IsOrder (length j.wants) order
  -- "first step breaking a rule; before that, first missing or surplus position of the drops or loads, the smaller"; 02, wish 1: "a plan whose end set is not
  -- what is held, with the number of tests as its step"
  pub fault : First (EntryFault (length j.wants) (length p.drops) (length p.loads)) i
      ⊎ ((length p.drops ≡ length j.wants) × (length p.loads ≡ length j.wants)
      × (FirstFault (capacity j.rig) (all_curves j.rig.curves) held (plan_moves j order p) i
      ⊎ ((i ≡ length j.wants) × AllKept (capacity j.rig) (all_curves j.rig.curves) held (plan_moves j order p)
      × (p.end ≡ held_after held (plan_sets j order p) → ⊥))))

-- steps that break a rule
broke : (c : Result ℕ ℕ) (i : ℕ) → checked_outcome c ≡ refused 12 i → c ≡ Err i
unfolding checked_outcome
broke (Ok e) i p = absurd (refused≢done (sym p))
broke (Err j) i p = ap Err (refused_same p)

module _ (j : Job) (held : ℕ) (order : List ℕ) (p : Plan) (i : ℕ) where
  abbrev cap : ℕ
  cap = capacity j.rig

  abbrev all : ℕ
  all = all_curves j.rig.curves

  abbrev ms : List Move
  ms = plan_moves j order p

  abbrev n : ℕ
  n = length j.wants

  abbrev d : ℕ
  d = length p.drops

  abbrev l : ℕ
  l = length p.loads

  -- the end set, the check of the steps before it, and the sets before that
  abbrev end_check : Outcome ℕ
  end_check = ◌>>◌ (end_known j held order p) (done (curve_count p.loads))

  abbrev step_check : Outcome ℕ
  step_check = ◌>>◌ (checked_outcome (steps_checked j held order p)) end_check

  abbrev set_check : Outcome ℕ
  set_check = ◌>>◌ (sets_known n d l) step_check

  -- what is wrong behind the lengths
  abbrev StepFault : Type 0
  StepFault = FirstFault cap all held ms i ⊎ ((i ≡ n) × AllKept cap all held ms × (p.end ≡ held_after held (plan_sets j order p) → ⊥))

  -- an end set that is not what is held
  other_end : end_known j held order p ≡ refused 12 i → (i ≡ n) × (p.end ≡ held_after held (plan_sets j order p) → ⊥)
  other_end e = go (ℕ_discrete p.end (held_after held (plan_sets j order p)))
    where
      go : Dec (p.end ≡ held_after held (plan_sets j order p)) → (i ≡ n) × (p.end ≡ held_after held (plan_sets j order p) → ⊥)
      go (yes q) = absurd (refused≢done (sym e ∙ end_known_lem j held order p q))
      go (no q) = (refused_same (sym e ∙ end_other j held order p q), q)

  -- job, holding and order are not refused by 12
  abbrev Other : ℕ → ℕ → Type 0
  Other k i = k ≡ 12 → ⊥

  known_refuses : Refuses Other (checking_known j held order)
  unfolding checking_known
  known_refuses =
      refuses_both Other _ _ (refuses_more HandedRefusal Other (job_known j) by_job (job_by_refuses 0 j))
      (refuses_both Other _ _
      (refuses_more HeldRefusal Other (held_known j.rig.curves held) (λ k i h e. omega (arith, h.0)) (held_refuses j.rig.curves held))
      (refuses_more (λ k i. k ≡ 8) Other (order_known n order) (λ k i h e. omega arith) (order_refuses n [] order)))
    where
      by_job : (k i : ℕ) → HandedRefusal k i → Other k i
      by_job k i (inl h) e = omega (arith, h.0)
      by_job k i (inr h) e = omega (arith, h.0)

  by_end : (end_known j held order p ≡ refused 12 i) ⊎ ((x : Unit {0}) × (end_known j held order p ≡ done x) × (done (curve_count p.loads) ≡ refused 12 i))
      → (i ≡ n) × (p.end ≡ held_after held (plan_sets j order p) → ⊥)
  by_end (inl e) = other_end e
  by_end (inr e) = absurd (refused≢done (sym e.2))

  by_steps : (checked_outcome (steps_checked j held order p) ≡ refused 12 i)
      ⊎ ((x : Unit {0}) × (checked_outcome (steps_checked j held order p) ≡ done x) × (end_check ≡ refused 12 i))
      → StepFault
  by_steps (inl e) =
      let z : i ≡ 0 + i = omega arith in
      inl ((fault_exact cap all 0 held ms i).0 (broke (steps_checked j held order p) i e ∙ ap Err z))
  by_steps (inr e) =
      let s = steps_ended (steps_checked j held order p) e.1 in
      let x = by_end (refused_split (end_known j held order p) (done (curve_count p.loads)) 12 i e.2) in
      inr (x.0, (check_held cap all 0 held ms s.0 s.1).1, x.1)

  rejected : checking j held order p ≡ refused 12 i → Rejected j held order p i
  unfolding checking
  rejected e = by_known (refused_split (checking_known j held order) _ 12 i e)
    where
      by_sets : (sets_known n d l ≡ refused 12 i) ⊎ ((x : Unit {0}) × (sets_known n d l ≡ done x) × (step_check ≡ refused 12 i))
          → First (EntryFault n d l) i ⊎ ((d ≡ n) × (l ≡ n) × StepFault)
      by_sets (inl e) = inl ((sets_exact n d l i).0 e)
      by_sets (inr e) =
          let x = (entries_exact n d l).0 e.1 in
          inr (x.0, x.1, by_steps (refused_split (checked_outcome (steps_checked j held order p)) end_check 12 i e.2))

      by_known : (checking_known j held order ≡ refused 12 i) ⊎ ((x : Unit {0}) × (checking_known j held order ≡ done x) × (set_check ≡ refused 12 i))
          → Rejected j held order p i
      by_known (inl e) = absurd (refuses Other _ 12 i known_refuses e refl)
      by_known (inr x) =
          let k = known_exact j held order x.1 in
          record { is_job = k.0; is_holding = k.1; is_order = k.2; fault = by_sets (refused_split (sets_known n d l) step_check 12 i x.2) }

  rejecting : Rejected j held order p i → checking j held order p ≡ refused 12 i
  rejecting r = go r.fault
    where
      known : checking_known j held order ≡ done tt
      known = exact_known j held order r.is_job r.is_holding r.is_order

      go : First (EntryFault n d l) i ⊎ ((d ≡ n) × (l ≡ n) × StepFault) → checking j held order p ≡ refused 12 i
      go (inl f) = check_sets j held order p known 12 i ((sets_exact n d l i).1 f)
      go (inr (x, y, inl f)) =
          let z : 0 + i ≡ i = omega arith in
          check_broken j held order p known ((entries_exact n d l).1 (x, y)) i ((fault_exact cap all 0 held ms i).1 f ∙ ap Err z)
      go (inr (x, y, inr (e, ok, o))) =
          check_other_end j held order p known ((entries_exact n d l).1 (x, y)) _ ((check_exact cap all 0 held ms).1 ok) o ∙ ap (refused 12) (sym e)

  -- REFUSAL 12 IS EXACT
  pub rejected_exact : checking j held order p ≡ refused 12 i ↔ Rejected j held order p i
  rejected_exact = (rejected, rejecting)
