use mathlib.Core.Path.{◌≡◌, refl}
use mathlib.Core.List.{[]}
use native.Mathlib.Omega.{arith}
use lib.ListN.{drop}
use Rattle.std.specs.Prelude.{Result, Ok, Err, IsOk}
use Rattle.job.specs.declared.Refusal.{Refusal}
use Rattle.plan_bytes.specs.declared.StepRead.{StepRead}
use Rattle.plan_bytes.specs.PlanBytes.{read_step}
use Rattle.plan_bytes.specs.ContractWords.{step_outcome}
use Rattle.plan_bytes.proofs.Steps.{begin, step_more, step_faulty, fill_none, fill_more, fill_all, all_read, no_fault}
use Rattle.plan_bytes.proofs.fill_lists.Goals.{After-read_step}
use Rattle.plan_bytes.proofs.fill_lists.Goals as goal

pub loop-k-init : goal.loop-k-init
loop-k-init c =
    let a = c.args in (
      [],
      record {
        behind = begin a.curves a.tests a.plan.now;
        tests = fill_none _ a.order.now;
        drops = fill_none _ a.drops.now;
        loads = fill_none _ a.loads.now;
      },
    )

-- the step at hand reads, since the plan does
reads : (c : After-read_step) → IsOk c.read_step.result
reads c = go c.read_step.result c.read_step.ensures
  where
    go : (r : Result StepRead Refusal) → let a = c.args in
        step_outcome a.plan.now c.loop-k.at r ≡ read_step a.curves a.tests c.loop-k.at (drop c.loop-k.at a.plan.now) → IsOk r
    go (Ok s) e = refl
    go (Err x) e =
        let l = c.loop-k in
        let a = c.args in
        absurd (no_fault _ _ _ c.requires.reads (step_faulty a.curves a.tests a.plan.now l.k l.at l.invariant.0 l.invariant.1.behind c.loop-k-test.true x e))

pub unwrap-step-requires : goal.unwrap-step-requires
unwrap-step-requires c = reads (goal.at.unwrap-step-requires c).After-read_step

pub loop-k-preserved : goal.loop-k-preserved
loop-k-preserved c =
    let l = c.loop-k in
    let a = c.args in
    let i = l.invariant.1 in
    let e = rw c.unwrap-step.ensures at c.read_step.ensures in (
      _,
      record {
        behind = step_more a.curves a.tests a.plan.now l.k l.at l.invariant.0 i.behind c.loop-k-test.true _ e;
        tests = fill_more _ a.order.now l.invariant.0 l.order l.k _ i.behind.count (omega arith) i.tests;
        drops = fill_more _ a.drops.now l.invariant.0 l.drops l.k _ i.behind.count (omega arith) i.drops;
        loads = fill_more _ a.loads.now l.invariant.0 l.loads l.k _ i.behind.count (omega arith) i.loads;
      },
    )

pub returns : goal.returns
returns c =
    let l = c.loop-k in
    let a = c.args in
    let i = l.invariant.1 in
    let e = all_read a.curves a.tests a.plan.now l.k l.at l.invariant.0 i.behind (omega arith) c.requires.reads in
    record {
      tests = fill_all _ a.order.now _ _ _ e.1 i.tests;
      drops = fill_all _ a.drops.now _ _ _ e.1 i.drops;
      loads = fill_all _ a.loads.now _ _ _ e.1 i.loads;
    }
