-- `report::audit::write_audit` meets its contract. That the fewest loads are at most the plan's is `audit_fewer`.
use mathlib.Core.Path.{ap, ◌∙◌}
use Rattle.std.specs.Prelude.{Ok}
use Rattle.job.specs.Refusal.{outcome, mapped}
use Rattle.planned.proofs.Reading.{bytes_of}
use Rattle.report.specs.Report.{text}
use Rattle.report.specs.Audit.{audited_outcome, audit_text}
use Rattle.report.proofs.Auditing.{audited, audit_written}
use Rattle.report.proofs.Fewest.{audit_fewer}
use Rattle.report.proofs.audit.write_audit.Goals as goal

pub write_counts-requires : goal.write_counts-requires
unfolding audited_outcome outcome mapped
write_counts-requires c =
    let a = c.args in
    audit_fewer a.job.now a.plan.now _ (bytes_of _ c.type_inv.job) (audited _ (c.in-Ok-Ok.is ∙ ap Ok c.in-Ok-Ok.field-0-is) c.audit.ensures)

pub returns-in-Err : goal.returns-in-Err
unfolding audited_outcome outcome mapped audit_text
returns-in-Err c =
    let a = c.args in
    audit_written a.job.now a.plan.now a.out.now (audited _ c.in-Err.is c.audit.ensures) c.write_refusal.ensures

pub returns-in-Ok-Err : goal.returns-in-Ok-Err
unfolding audited_outcome outcome mapped audit_text text
returns-in-Ok-Err c =
    let a = c.args in
    audit_written a.job.now a.plan.now a.out.now (audited _ (c.in-Ok-Err.is ∙ ap Ok c.in-Ok-Err.field-0-is) c.audit.ensures)
    c.write_refusal-in-Ok-Err.ensures

pub returns-in-Ok-Ok : goal.returns-in-Ok-Ok
unfolding audited_outcome outcome mapped
returns-in-Ok-Ok c =
    let a = c.args in
    audit_written a.job.now a.plan.now a.out.now (audited _ (c.in-Ok-Ok.is ∙ ap Ok c.in-Ok-Ok.field-0-is) c.audit.ensures) c.write_counts.ensures
