use Prim.Native.Nat.{◌≤◌}
use mathlib.Core.Path.{◌≡◌, sym}
use mathlib.Core.List.{[]}
use native.Mathlib.Omega.{arith}
use lib.ListN.{length}
use Rattle.job.specs.Refusal.{done, outcome}
use Rattle.plan_bytes.specs.PlanBytes.{Contents, read_plan_bytes}
use Rattle.plan_bytes.proofs.Steps.{placed, begin, step_more, step_faulty, end_refused, whole}
use Rattle.plan_bytes.proofs.Fetching.{step_inside, part_none, part_here, part_other, part_refused, part_no_end, part_before, part_end}
use Rattle.plan_bytes.proofs.find_step.Goals.{In-Ok-read_end, In-Ok, then-i-position, else-i-position}
use Rattle.plan_bytes.proofs.find_step.Goals as goal

pub loop-i-init : goal.loop-i-init
loop-i-init c = let a =
    c.args in (
      [],
      record {
        behind = begin a.curves a.tests a.plan.now;
        inside = omega arith;
        part = part_none a.plan.now
            a.position;
      },
    )

pub returns-in-Err : goal.returns-in-Err
returns-in-Err c =
    let l = c.loop-i in
    let a = c.args in
    let e = step_faulty a.curves a.tests a.plan.now l.i l.at l.invariant.0 l.invariant.1.behind c.loop-i-test.true _ c.in-Err.ensures in
    record { part = part_refused a.plan.now a.position _ _ _ e; inside = omega arith }

-- the step that was read goes on in the bytes, and ends within them
onward : (c : In-Ok) → (c.loop-i.at ≤ c.in-Ok.step.next) × (c.in-Ok.step.next ≤ length c.args.plan.now)
onward c =
    let l = c.loop-i in
    let a = c.args in
    step_inside a.curves a.tests a.plan.now l.at c.in-Ok.step l.invariant.1.inside c.in-Ok.ensures

pub overflow_sub-count : goal.overflow_sub-count
overflow_sub-count c = omega (arith, (onward (goal.at.overflow_sub-count c).In-Ok).0)

pub loop-i-preserved : goal.loop-i-preserved
loop-i-preserved c =
    let l = c.loop-i in
    let a = c.args in
    let h = c.loop-i-test.true in
    let i = l.invariant.1 in
    let w = onward (goal.at.loop-i-preserved c).In-Ok in
    let b = step_more a.curves a.tests a.plan.now l.i l.at l.invariant.0 i.behind h _ c.in-Ok.ensures in
    elim c.if-i-position.branch [
      | then-i-position q ↦ rw (q.start-is, q.count-is, q.at-is) (
        _,
        record {
          behind = b;
          inside = w.1;
          part = part_here a.plan.now a.position l.invariant.0 (placed l.at _ _ _ _)
              (omega (arith, i.behind.count, q.if-i-position.true)) w.0 w.1;
        },
      )
      | else-i-position q ↦ rw (q.start-is, q.count-is, q.at-is) (
        _,
        record {
          behind = b;
          inside = w.1;
          part = part_other a.plan.now a.position l.invariant.0 _ l.start l.count
              (λ e. q.if-i-position.false (omega (arith, i.behind.count))) i.part;
        },
      )
    ]

-- the plan reads, and the end step stands behind its steps
abbrev contents : (c : In-Ok-read_end) → Contents
contents c =
    let l = c.loop-i in
    record { steps = l.invariant.0; behind = l.at; end = c.in-Ok-read_end.end }

reads : (c : In-Ok-read_end)
    → let a = c.args in
    read_plan_bytes a.curves a.tests a.plan.now ≡ done (contents c)
unfolding outcome
reads c =
    let l = c.loop-i in
    let a = c.args in
    whole a.curves a.tests a.plan.now l.i l.at l.invariant.0 l.invariant.1.behind (omega arith) _ (sym (c.in-Ok-read_end.ensures a.tests))

pub returns-then-end-ne0 : goal.returns-then-end-ne0
returns-then-end-ne0 c =
    let l = c.loop-i in
    let a = c.args in
    let i = l.invariant.1 in record {
      part = part_end a.plan.now a.position _ l.invariant.0 l.at _ (reads (goal.at.returns-then-end-ne0 c).In-Ok-read_end)
          (omega (arith, i.behind.count, c.if-position-tests.true)) c.if-end-ne0.true;
      inside = omega (arith, i.inside);
    }

pub returns-in-Err-read_end : goal.returns-in-Err-read_end
unfolding outcome
returns-in-Err-read_end c =
    let l = c.loop-i in
    let a = c.args in
    let e = end_refused a.curves a.tests a.plan.now l.i l.at l.invariant.0 l.invariant.1.behind (omega arith) _ _
    (sym (c.in-Err-read_end.ensures a.tests)) in
    record { part = part_refused a.plan.now a.position _ _ _ e; inside = omega arith }

pub returns-else-end-ne0 : goal.returns-else-end-ne0
returns-else-end-ne0 c =
    let l = c.loop-i in
    let a = c.args in
    let p = l.invariant.1.part in
    record {
      part = part_no_end a.plan.now a.position _ l.invariant.0 l.at _ (reads (goal.at.returns-else-end-ne0 c).In-Ok-read_end) _ _ c.if-end-ne0.false p;
      inside = p.inside;
    }

pub returns-else-position-tests : goal.returns-else-position-tests
returns-else-position-tests c =
    let l = c.loop-i in
    let a = c.args in
    let i = l.invariant.1 in record {
      part = part_before a.plan.now a.position _ l.invariant.0 l.at _ (reads (goal.at.returns-else-position-tests c).In-Ok-read_end) _ _
          (λ e. c.if-position-tests.false (omega (arith, i.behind.count))) i.part;
      inside = i.part.inside;
    }
