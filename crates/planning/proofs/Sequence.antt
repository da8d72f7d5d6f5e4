-- Planning and checking, examination by examination: which refusal the examinations so far come to, and what is known behind them.
use mathlib.Core.Path.{◌≡◌, refl, sym, ◌∙◌}
use mathlib.Core.List.{List}
use Prim.Native.Nat.{ℕ, ◌^◌, ◌≤◌, ◌<◌, min}
use native.Mathlib.Omega.{arith}
use lib.Dec.{eqb}
use lib.ListN.{length, get_or, take}
use lib.Seq.{sets}
use borrow.Author.Tests.{eqb-true, eq-eqb, ne_eqb}
use Rattle.std.specs.Prelude.{Result, Ok, Err}
use Rattle.job.specs.Refusal.{done, refused, ◌>>=◌, ◌>>◌, demand}
use Rattle.job.specs.Words.{Job, capacity, IsJob, IsHolding, IsOrder}
use Rattle.job.specs.Handed.{all_curves, held_known, wants_fit, job_known}
use Rattle.job.specs.Calls.{checking_known, planning_known}
use Rattle.job.proofs.Laws.{both, demand_true, demand_done, demand_refused, both_done, done_both, done_room}
use Rattle.job.proofs.Examination.{refused_both}
use Rattle.job.proofs.JobExact.{job_exact}
use Rattle.job.proofs.HeldExact.{held_exact}
use Rattle.job.proofs.OrderExact.{order_exact, own_tests}
use Rattle.job.proofs.Orders.{order_length}
use Rattle.lists.proofs.Overwritten.{sets_front}
use Rattle.drive.specs.Steps.{held_after, curve_count}
use Rattle.drive.specs.Check.{check_from}
use Rattle.drive.proofs.CheckExact.{check_held}
use Rattle.planning.specs.Plan.{Plan, in_order}
use Rattle.planning.specs.Planning.{our_plan, planning, sets_known, checked_outcome, plan_moves, plan_sets, end_known, checking}
use Rattle.planning.proofs.Turns.{length_in_order, wants_at}

-- ---- behind the examinations

module _ (j : Job) (held : ℕ) (order : List ℕ) where
  -- the job is one, only curves of it are held, and the order is one of its tests
  pub known_exact : checking_known j held order ≡ done tt → IsJob j × IsHolding j held × IsOrder (length j.wants) order
  unfolding checking_known
  known_exact e =
      let a = both_done (job_known j) _ tt e in
      let b = both_done (held_known j.rig.curves held) _ tt a.1 in
      ((job_exact j).0 a.0, (held_exact j.rig.curves held).0 b.0, (order_exact (length j.wants) order).0 b.1)

  pub exact_known : IsJob j → IsHolding j held → IsOrder (length j.wants) order → checking_known j held order ≡ done tt
  unfolding checking_known
  exact_known is own ord =
      done_both _ _ ((job_exact j).1 is) ∙ done_both _ _ ((held_exact j.rig.curves held).1 own) ∙ (order_exact (length j.wants) order).1 ord

  -- planning asks for sizes besides
  pub planning_parts : planning_known j held order ≡ done tt → (checking_known j held order ≡ done tt) × (wants_fit (capacity j.rig) j.wants ≡ done tt)
  unfolding planning_known
  planning_parts e = both_done (checking_known j held order) _ tt e

  pub planning_known_lem : checking_known j held order ≡ done tt → planning_known j held order ≡ wants_fit (capacity j.rig) j.wants
  unfolding planning_known
  planning_known_lem e = done_both _ _ e

  module _ (known : checking_known j held order ≡ done tt) where
    -- the steps are as many as the tests
    pub steps_length : length (in_order j.wants order) ≡ length j.wants
    steps_length = length_in_order j.wants order ∙ order_length (length j.wants) order (known_exact known).2

    -- each wants only curves of the job
    pub step_curves : (i : ℕ) → i < length (in_order j.wants order) → get_or (in_order j.wants order) i 0 < 2 ^ j.rig.curves
    step_curves i h =
        let k = known_exact known in
        let l : i < length order = omega (arith, length_in_order j.wants order) in
        rw (wants_at j.wants order i l) (k.0.own_curves (get_or order i 0) (own_tests (length j.wants) order k.2 i l))

    -- their wants, in the first entries of a list
    pub first_steps : (lent : List ℕ) → length j.wants ≤ length lent
        → take (length j.wants) (sets lent 0 (in_order j.wants order)) ≡ in_order j.wants order
    first_steps lent h = sets_front (in_order j.wants order) lent (length j.wants) steps_length h

-- ---- the lengths of the lists of sets
module _ (n drops loads : ℕ) where
  pub sets_known_lem : drops ≡ n → loads ≡ n → sets_known n drops loads ≡ done tt
  unfolding sets_known demand
  sets_known_lem d l = rw (eq-eqb drops n d, eq-eqb loads n l) refl

  pub sets_drops : (drops ≡ n → ⊥) → sets_known n drops loads ≡ refused 12 (min (min drops loads) n)
  unfolding sets_known demand
  sets_drops d = rw (ne_eqb drops n d) refl

  pub sets_loads : drops ≡ n → (loads ≡ n → ⊥) → sets_known n drops loads ≡ refused 12 (min (min drops loads) n)
  unfolding sets_known demand
  sets_loads d l = rw (eq-eqb drops n d, ne_eqb loads n l) refl

  pub sets_long : sets_known n drops loads ≡ done tt → (drops ≡ n) × (loads ≡ n)
  unfolding sets_known
  sets_long e =
      let l = both (eqb drops n) (eqb loads n) (demand_true _ 12 _ e) in
      (eqb-true drops n l.0, eqb-true loads n l.1)

-- ---- checking
module _ (j : Job) (held : ℕ) (order : List ℕ) (p : Plan) where
  pub check_refused : (k i : ℕ) → checking_known j held order ≡ refused k i → checking j held order p ≡ refused k i
  unfolding checking
  check_refused k i e = refused_both _ _ k i e

  -- what the check of the steps answers
  abbrev pub steps_checked : Result ℕ ℕ
  steps_checked = check_from (capacity j.rig) (all_curves j.rig.curves) 0 held (plan_moves j order p)

  -- the end set is what is held, or not
  pub end_known_lem : p.end ≡ held_after held (plan_sets j order p) → end_known j held order p ≡ done tt
  unfolding end_known
  end_known_lem e = demand_done _ 12 _ (eq-eqb _ _ e)

  pub end_other : (p.end ≡ held_after held (plan_sets j order p) → ⊥) → end_known j held order p ≡ refused 12 (length j.wants)
  unfolding end_known
  end_other h = demand_refused _ 12 _ (ne_eqb _ _ h)

  module _ (known : checking_known j held order ≡ done tt) where
    pub check_sets : (k i : ℕ) → sets_known (length j.wants) (length p.drops) (length p.loads) ≡ refused k i → checking j held order p ≡ refused k i
    unfolding checking
    check_sets k i e = done_both _ _ known ∙ refused_both _ _ k i e

    module _ (sets : sets_known (length j.wants) (length p.drops) (length p.loads) ≡ done tt) where
      pub check_broken : (i : ℕ) → steps_checked ≡ Err i → checking j held order p ≡ refused 12 i
      unfolding checking checked_outcome ◌>>◌
      check_broken i e = done_both _ _ known ∙ done_both _ _ sets ∙ rw e refl

      -- steps that end with h held
      module _ (h : ℕ) (ends : steps_checked ≡ Ok h) where
        left : h ≡ held_after held (plan_sets j order p)
        left = (check_held (capacity j.rig) (all_curves j.rig.curves) 0 held (plan_moves j order p) h ends).0

        steps_end : checked_outcome steps_checked ≡ done tt
        unfolding checked_outcome
        steps_end = rw ends refl

        pub check_other_end : (p.end ≡ h → ⊥) → checking j held order p ≡ refused 12 (length j.wants)
        unfolding checking
        check_other_end o =
            done_both _ _ known ∙ done_both _ _ sets ∙ done_both _ _ steps_end ∙ refused_both _ _ 12 _ (end_other (λ e. o (e ∙ sym left)))

        pub check_ended : p.end ≡ h → checking j held order p ≡ done (curve_count p.loads)
        unfolding checking
        check_ended e = done_both _ _ known ∙ done_both _ _ sets ∙ done_both _ _ steps_end ∙ done_both _ _ (end_known_lem (e ∙ left))

-- ---- planning
module _ (j : Job) (held : ℕ) (order : List ℕ) (lent : ℕ) where
  pub plan_refused : (k i : ℕ) → planning_known j held order ≡ refused k i → planning j held order lent ≡ refused k i
  unfolding planning
  plan_refused k i e = refused_both _ _ k i e

  module _ (known : planning_known j held order ≡ done tt) where
    pub plan_done : length j.wants ≤ lent → planning j held order lent ≡ done (our_plan j held order)
    unfolding planning ◌>>=◌
    plan_done h = done_both _ _ known ∙ rw (done_room lent (length j.wants) h) refl
