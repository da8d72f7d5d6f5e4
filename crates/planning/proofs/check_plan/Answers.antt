-- `check_plan` meets its contract: the examinations in the rule's sequence, and then the steps.
use mathlib.Core.Path.{◌≡◌, sym, ap, ◌∙◌}
use mathlib.Core.List.{List}
use Prim.Native.Nat.{ℕ, ◌-◌, ◌^◌, ◌≤◌, min}
use native.Mathlib.Omega.{arith}
use lib.ListN.{length, take}
use lib.Seq.{length-take-le}
use Rattle.job.specs.Refusal.{done, outcome}
use Rattle.job.specs.Words.{job_of, capacity}
use Rattle.job.specs.Handed.{all_curves}
use Rattle.job.specs.Calls.{checking_known}
use Rattle.job.proofs.Laws.{handed_on}
use Rattle.drive.specs.Steps.{Move, moves}
use Rattle.drive.specs.Check.{check_from}
use Rattle.planning.specs.Plan.{in_order}
use Rattle.planning.specs.Planning.{sets_known}
use Rattle.planning.proofs.Sequence.{known_exact, first_steps, sets_long, check_refused, check_sets, check_broken, check_other_end, check_ended}
use Rattle.planning.proofs.check_plan.Goals.{After-check_steps, After-steps-2-1, In_ok-examine_checking, In_ok-examine_sets}
use Rattle.planning.proofs.check_plan.Goals as goal

-- behind each examination
passed : (c : In_ok-examine_checking) → let a =
    c.args in checking_known (job_of a.rig a.wants.now) a.held a.order.now ≡ done tt
unfolding outcome
passed c = sym c.in_ok-examine_checking.ensures

sets_passed : (c : In_ok-examine_sets)
    → let a = c.args in
    sets_known (length a.wants.now) (length a.drops.now) (length a.loads.now) ≡ done tt
unfolding outcome
sets_passed c = sym c.in_ok-examine_sets.ensures

pub returns-in_err-examine_checking : goal.returns-in_err-examine_checking
unfolding outcome
returns-in_err-examine_checking c =
    handed_on _ _ c.from_residual.ensures.1 ∙ sym (check_refused _ _ _ _ _ _ (sym c.in_err-examine_checking.ensures))

pub returns-in_err-examine_sets : goal.returns-in_err-examine_sets
unfolding outcome
returns-in_err-examine_sets c =
    handed_on _ _ c.from_residual-in_err-examine_sets.ensures.1
    ∙ sym (check_sets _ _ _ _ (passed (goal.at.returns-in_err-examine_sets c).In_ok-examine_checking) _ _ (sym c.in_err-examine_sets.ensures))

-- the local list has an entry for each test
enough : (c : After-steps-2-1)
    → length c.args.wants.now ≤ length c.in_order.new.steps
enough c =
    omega (arith, c.in_order.auto.steps, (known_exact _ _ _ (passed (goal.at.After-steps-2-1 c).In_ok-examine_checking)).0.tests_bound)

pub slice_bounds-steps-end : goal.slice_bounds-steps-end
slice_bounds-steps-end c = omega (arith, enough (goal.at.slice_bounds-steps-end c).After-steps-2-1)

pub slice_bounds-check_steps-end : goal.slice_bounds-check_steps-end
slice_bounds-check_steps-end c =
    omega (
      arith,
      length-take-le (length c.args.wants.now) c.in_order.new.steps (enough (goal.at.slice_bounds-check_steps-end c).After-steps-2-1),
    )

-- what was answered of the steps
checked : (c : After-check_steps)
    → let a = c.args in
    c.check_steps.result ≡ check_from (capacity a.rig) (all_curves a.rig.curves) 0 a.held
    (moves (in_order a.wants.now a.order.now) a.drops.now a.loads.now)
checked c =
    let a = c.args in
    let j = job_of a.rig a.wants.now in
    let is = (known_exact j a.held a.order.now (passed (goal.at.After-check_steps c).In_ok-examine_checking)).0 in
    let ms : List ℕ → List Move = λ ws. moves ws a.drops.now a.loads.now in
    let few : min a.rig.curves 64 ≡ a.rig.curves = omega (arith, is.curves_bounds) in
    let b = c.below-all in
    let all : b.result ≡ all_curves a.rig.curves = b.ensures ∙ ap (λ (n : ℕ). 2 ^ n - 1) few in
    let steps : take (length a.wants.now) c.in_order.new.steps ≡ in_order a.wants.now a.order.now =
    ap (take (length a.wants.now)) c.in_order.ensures
    ∙ first_steps j a.held a.order.now (passed (goal.at.After-check_steps c).In_ok-examine_checking) _ (omega (arith, is.tests_bound)) in
    let ws = take (length a.wants.now) c.in_order.new.steps in
    let p = c.capacity-capacity in
    let answered : c.check_steps.result ≡ check_from p.result b.result 0 a.held (ms ws) = c.check_steps.ensures in
    answered
    ∙ ap (λ (n : ℕ). check_from n b.result 0 a.held (ms ws)) p.ensures
    ∙ ap (λ (x : ℕ). check_from (capacity a.rig) x 0 a.held (ms ws)) all
    ∙ ap (λ (ws : List ℕ). check_from (capacity a.rig) (all_curves a.rig.curves) 0 a.held (ms ws)) steps

-- the end set is compared with what is held
pub returns-then-end-left : goal.returns-then-end-left
unfolding outcome
returns-then-end-left c =
    sym (check_other_end _ _ _ _ (passed (goal.at.returns-then-end-left c).In_ok-examine_checking) (sets_passed (goal.at.returns-then-end-left c).In_ok-examine_sets) _
    (sym (checked (goal.at.returns-then-end-left c).After-check_steps) ∙ c.in-Ok.is) c.if-end-left.true)

pub count_curves-requires : goal.count_curves-requires
count_curves-requires c =
    omega (
      arith,
      sets_long _ _ _ (sets_passed (goal.at.count_curves-requires c).In_ok-examine_sets),
      (known_exact _ _ _ (passed (goal.at.count_curves-requires c).In_ok-examine_checking)).0.tests_bound,
    )

pub returns-in-Err : goal.returns-in-Err
unfolding outcome
returns-in-Err c =
    sym (check_broken _ _ _ _ (passed (goal.at.returns-in-Err c).In_ok-examine_checking) (sets_passed (goal.at.returns-in-Err c).In_ok-examine_sets) _
    (sym (checked (goal.at.returns-in-Err c).After-check_steps) ∙ c.in-Err.is))

pub returns-else-end-left : goal.returns-else-end-left
unfolding outcome
returns-else-end-left c =
    rw c.count_curves.ensures
    (sym (check_ended _ _ _ _ (passed (goal.at.returns-else-end-left c).In_ok-examine_checking) (sets_passed (goal.at.returns-else-end-left c).In_ok-examine_sets) _
    (sym (checked (goal.at.returns-else-end-left c).After-check_steps) ∙ c.in-Ok.is) c.if-end-left.false))
