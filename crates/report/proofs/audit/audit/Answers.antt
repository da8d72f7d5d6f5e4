-- `report::audit::audit` meets its contract: reading into a list of 256 entries gives the wants.
use mathlib.Core.Path.{sym, ap, ◌∙◌}
use native.Mathlib.Omega.{arith}
use Rattle.job.specs.Refusal.{done, outcome, mapped}
use Rattle.job.proofs.Laws.{handed_on}
use Rattle.planned.proofs.Reading.{ReadFirst, read_refused, read_first}
use Rattle.report.specs.Audit.{audited_outcome}
use Rattle.report.proofs.Auditing.{job_refused, job_done}
use Rattle.report.proofs.audit.audit.Goals.{In_ok-head}
use Rattle.report.proofs.audit.audit.Goals as goal

-- what was read
read : (c : In_ok-head) → ReadFirst c.args.job.now c.in_ok-head.head c.read_job.new.wants
read c = read_first _ _ c.type_inv.job (omega arith) c.in_ok-head.ensures.answer c.read_job.ensures.lent

pub slice_bounds-wants-end : goal.slice_bounds-wants-end
slice_bounds-wants-end c = omega (arith, (read (goal.at.slice_bounds-wants-end c).In_ok-head).few, c.read_job.auto.wants)

pub slice_bounds-audit_plan-end : goal.slice_bounds-audit_plan-end
slice_bounds-audit_plan-end c = sym (read (goal.at.slice_bounds-audit_plan-end c).In_ok-head).tests

pub audit_plan-requires : goal.audit_plan-requires
audit_plan-requires c = let r = read (goal.at.audit_plan-requires c).In_ok-head in (r.tests, r.few)

pub returns-in_err-head : goal.returns-in_err-head
unfolding audited_outcome outcome mapped
returns-in_err-head c =
    let a = c.args in
    rw (handed_on _ _ c.from_residual.ensures.1)
    (job_refused a.job.now a.plan.now _ _ (read_refused _ _ c.type_inv.job (omega arith) _ c.in_err-head.ensures.answer))

pub returns : goal.returns
unfolding audited_outcome outcome mapped
returns c =
    let a = c.args in
    ap done c.audit_plan.ensures ∙ job_done a.job.now a.plan.now _ (read (goal.at.returns c).In_ok-head).read
