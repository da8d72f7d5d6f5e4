-- `report::audit::audit_plan` meets its contract.
use mathlib.Core.Path.{sym, ◌∙◌}
use Prim.Native.Nat.{◌≤◌}
use native.Mathlib.Omega.{arith}
use lib.ListN.{length}
use lib.Seq.{length-take-le}
use Rattle.job.specs.Refusal.{outcome}
use Rattle.job.proofs.Laws.{handed_on}
use Rattle.report.proofs.Auditing.{plan_refused, plan_counted}
use Rattle.planning.specs.Plan.{set_lists}
use Rattle.report.proofs.audit.audit_plan.Goals.{After-read_plan}
use Rattle.report.proofs.audit.audit_plan.Goals as goal

-- each list still has an entry for each test
long : (c : After-read_plan)
    → let n = c.args.head.tests in
    let l = c.read_plan.new in
    (n ≤ length l.order) × (n ≤ length l.drops) × (n ≤ length l.loads)
long c =
    let p = c.requires in
    let k = c.read_plan.auto in
    (omega (arith, p, k.order), omega (arith, p, k.drops), omega (arith, p, k.loads))

pub slice_bounds-audit_steps-end : goal.slice_bounds-audit_steps-end
slice_bounds-audit_steps-end c = sym (length-take-le _ _ (long (goal.at.slice_bounds-audit_steps-end c).After-read_plan).0)

pub slice_bounds-audit_steps-end-2 : goal.slice_bounds-audit_steps-end-2
slice_bounds-audit_steps-end-2 c = sym (length-take-le _ _ (long (goal.at.slice_bounds-audit_steps-end-2 c).After-read_plan).1)

pub slice_bounds-audit_steps-end-3 : goal.slice_bounds-audit_steps-end-3
slice_bounds-audit_steps-end-3 c = sym (length-take-le _ _ (long (goal.at.slice_bounds-audit_steps-end-3 c).After-read_plan).2)

pub returns-in_err-read : goal.returns-in_err-read
unfolding outcome
returns-in_err-read c =
    let a = c.args in
    handed_on _ _ c.from_residual.ensures.1
    ∙ sym (plan_refused (record { head = a.head; wants = a.wants.now }) a.plan.now _ (set_lists _ _) (omega (arith, c.requires.1)) _ _
    c.in_err-read.ensures.answer)

pub returns : goal.returns
unfolding outcome
returns c =
    let a = c.args in
    let p = c.read_plan in
    c.audit_steps.ensures
    ∙ plan_counted (record { head = a.head; wants = a.wants.now }) a.plan.now _ (set_lists _ _) (omega (arith, c.requires.1)) _
    c.in_ok-read.ensures.answer _ _ p.ensures.order p.ensures.lists
