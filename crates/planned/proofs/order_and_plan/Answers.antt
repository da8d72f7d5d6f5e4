-- `planned::order_and_plan` meets its contract: the order stands in the first entries of the list.
use mathlib.Core.Path.{◌≡◌, refl, sym, ap, ◌∙◌}
use Prim.Native.Nat.{ℕ, ◌≤◌}
use native.Mathlib.Omega.{arith}
use lib.ListN.{length, take}
use Rattle.job.specs.Refusal.{done, mapped, leaves, outcome}
use Rattle.job.proofs.Laws.{handed_on}
use Rattle.job_bytes.specs.JobBytes.{Request}
use Rattle.planning.specs.Plan.{set_lists, entries}
use Rattle.planning.specs.ContractWords.{tests_answer, tests_lists}
use Rattle.planning.proofs.Planned.{tests_answer_lem, tests_lists_lem}
use Rattle.planned.specs.Planned.{order_request}
use Rattle.planned.proofs.Stages.{order_known_lem, order_left, order_refused, order_given, plan_answer_lem, plan_left, not_ordered, ordered}
use Rattle.planned.proofs.order_and_plan.Goals.{In_ok-order_tests}
use Rattle.planned.proofs.order_and_plan.Goals as goal

pub returns-in_err-order_tests : goal.returns-in_err-order_tests
unfolding outcome mapped leaves
returns-in_err-order_tests c =
    let a = c.args in
    let q : Request = record { head = a.head; wants = a.wants.now } in
    let few : a.head.tests ≤ length a.order.now = omega (arith, c.requires.tests.0, c.requires.lists.0) in
    let t = c.in_err-order_tests.ensures in
    let n = not_ordered q c.requires.tests.1 _ _ (order_refused q c.requires.tests.1 a.order.now few _ _ (sym t.answer)) in
    record {
      count = handed_on _ _ c.from_residual.ensures.1 ∙ rw n refl;
      order = t.list ∙ order_left q c.requires.tests.1 a.order.now few;
      plan = rw n refl;
    }

-- the order that ordering gave
given : (c : In_ok-order_tests)
    → let a = c.args in
    let n = a.head.tests in
    let O' = c.order_tests.new.order in
    (order_request (record { head = a.head; wants = a.wants.now }) ≡ done (take n O')) × (length (take n O') ≡ n)
unfolding outcome
given c =
    let a = c.args in
    let t = c.order_tests in
    order_given (record { head = a.head; wants = a.wants.now }) c.requires.tests.1 a.order.now (omega (arith, c.requires.tests.0, c.requires.lists.0)) _ _
    (sym c.in_ok-order_tests.ensures.answer) t.ensures.list

pub slice_bounds-plan_tests-end-2 : goal.slice_bounds-plan_tests-end-2
slice_bounds-plan_tests-end-2 c = sym (given (goal.at.slice_bounds-plan_tests-end-2 c).In_ok-order_tests).1

pub returns : goal.returns
returns c =
    let a = c.args in
    let q : Request = record { head = a.head; wants = a.wants.now } in
    let lent = set_lists a.drops.now a.loads.now in
    let t = c.order_tests in
    let g = given (goal.at.returns c).In_ok-order_tests in
    let o = ordered q c.requires.tests.1 _ g.0 in
    let long : a.head.tests ≤ entries lent = omega (arith, c.requires.tests.0, c.requires.lists.1, c.requires.lists.2) in
    let k = order_known_lem q c.requires.tests.1 _ g.0 in
    let p = c.plan_tests.ensures in
    let e = c.capacity-capacity.ensures in
    let order = take a.head.tests t.new.order in
    let answered : _ ≡ tests_answer c.capacity-capacity.result a.wants.now 0 order lent = p.answer in record {
      count = rw o (answered ∙ ap (λ (n : ℕ). tests_answer n a.wants.now 0 order lent) e ∙ tests_answer_lem _ _ _ lent k
          ∙ plan_answer_lem q c.requires.tests.1 _ lent long);
      order = t.ensures.list
          ∙ order_left q c.requires.tests.1 a.order.now (omega (arith, c.requires.tests.0, c.requires.lists.0));
      plan = rw o (p.lists ∙ ap (λ (n : ℕ). tests_lists n a.wants.now 0 order lent) e ∙ tests_lists_lem _ _ _ lent k
          ∙ plan_left q c.requires.tests.1 _ lent long);
    }
