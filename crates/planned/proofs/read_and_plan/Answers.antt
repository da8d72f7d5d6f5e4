-- `planned::read_and_plan` meets its contract: the wants stand in the first entries of the list.
use mathlib.Core.Path.{◌≡◌, sym, ◌∙◌}
use native.Mathlib.Omega.{arith}
use borrow.Author.Rules.{rules}
use Rattle.job.specs.Refusal.{outcome}
use Rattle.job.proofs.Laws.{refused_mapped, handed_on}
use Rattle.planning.specs.Plan.{set_lists}
use Rattle.planned.specs.ContractWords.{lists_of, leaves_lists, told}
use Rattle.planned.proofs.Reading.{ReadFirst, bytes_of, wants_left, read_refused, read_first}
use Rattle.planned.proofs.Stages.{unread, unread_lists, read_lists, tells_refusal, tells_count}
use Rattle.planned.proofs.read_and_plan.Goals.{In_ok-head, After-order_and_plan}
use Rattle.planned.proofs.read_and_plan.Goals as goal

-- what was read
read : (c : In_ok-head) → ReadFirst c.args.job.now c.in_ok-head.head c.read_job.new.wants
read c = read_first _ _ c.type_inv.job c.requires.0 c.in_ok-head.ensures.answer c.read_job.ensures.lent

pub slice_bounds-order_and_plan-end : goal.slice_bounds-order_and_plan-end
slice_bounds-order_and_plan-end c =
    omega (
      arith,
      (read (goal.at.slice_bounds-order_and_plan-end c).In_ok-head).few,
      c.read_job.auto.wants,
      c.requires.0,
    )

pub slice_bounds-order_and_plan-end-2 : goal.slice_bounds-order_and_plan-end-2
slice_bounds-order_and_plan-end-2 c = sym (read (goal.at.slice_bounds-order_and_plan-end-2 c).In_ok-head).tests

pub order_and_plan-requires : goal.order_and_plan-requires
order_and_plan-requires c =
    let r = read (goal.at.order_and_plan-requires c).In_ok-head in
    record { tests = (r.few, r.tests); lists = search rules }

pub returns-in_err-head : goal.returns-in_err-head
unfolding outcome
returns-in_err-head c =
    let a = c.args in
    let r = c.in_err-head.ensures in
    let e = read_refused _ _ c.type_inv.job c.requires.0 _ r.answer in
    let old = lists_of a.wants.now a.order.now (set_lists a.drops.now a.loads.now) in
    record {
      answer = handed_on _ _ c.from_residual.ensures.1 ∙ refused_mapped told _ _ _ (unread a.job.now _ _ e);
      lists = unread_lists a.job.now old _ (r.lent ∙ wants_left a.job.now a.wants.now (bytes_of _ c.type_inv.job) c.requires.0) _ _ e;
    }

-- what the lists hold, whether a plan comes of it or not
lists : (c : After-order_and_plan) →
    let a = c.args in
    let p = c.order_and_plan.new in
    lists_of c.read_job.new.wants p.order (set_lists p.drops p.loads)
    ≡ leaves_lists a.job.now (lists_of a.wants.now a.order.now (set_lists a.drops.now a.loads.now))
lists c =
    let a = c.args in
    let at = goal.at.After-order_and_plan c in
    let p = c.order_and_plan.ensures in
    let w = c.read_job.ensures.lent ∙ wants_left a.job.now a.wants.now (bytes_of _ c.type_inv.job) c.requires.0 in
    read_lists a.job.now (lists_of a.wants.now a.order.now (set_lists a.drops.now a.loads.now)) _ w _ _ _ (read at.In_ok-head).read p.order p.plan

pub returns-in_err-plan : goal.returns-in_err-plan
unfolding outcome
returns-in_err-plan c =
    let at = goal.at.returns-in_err-plan c in
    record {
      answer = handed_on _ _ c.from_residual-in_err-plan.ensures.1
          ∙ sym (tells_refusal c.args.job.now _ (read at.In_ok-head).read _ _ (sym c.in_err-plan.ensures.count));
      lists = lists at.After-order_and_plan;
    }

pub returns : goal.returns
unfolding outcome
returns c =
    let at = goal.at.returns c in
    record {
      answer = tells_count c.args.job.now _ (read at.In_ok-head).read _ (sym c.in_ok-plan.ensures.count);
      lists = lists at.After-order_and_plan;
    }
