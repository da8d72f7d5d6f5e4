-- `report::audit::audit_text` meets its contract: its buffer takes every audit (`audit_fits`), so a refusal never comes.
use mathlib.Core.Path.{◌≡◌}
use native.Mathlib.Omega.{arith}
use lib.ListN.{length}
use Rattle.job.specs.Refusal.{done}
use Rattle.planned.proofs.Reading.{bytes_of}
use Rattle.report.specs.Audit.{audit, audit_text, write_audit, audit_answer, audit_buffer}
use Rattle.report.proofs.Fitted.{whole_text, never_refused}
use Rattle.report.proofs.AuditLongest.{audit_fits}
use Rattle.report.proofs.audit.audit_text.Goals.{After-write_audit}
use Rattle.report.proofs.audit.audit_text.Goals as goal

fits : (c : After-write_audit) →
    let a = c.args in
    write_audit a.job.now a.plan.now (length a.text.now) ≡ done (audit_text (audit a.job.now a.plan.now))
fits c = audit_fits c.args.job.now c.args.plan.now _ (bytes_of _ c.type_inv.job) (omega (arith, c.told-text))

pub unwrap-requires : goal.unwrap-requires
unfolding audit_answer
unwrap-requires c = never_refused (fits (goal.at.unwrap-requires c).After-write_audit) _ c.write_audit.ensures.answer

pub returns : goal.returns
unfolding audit_answer audit_buffer
returns c =
    let r = c.write_audit.ensures in
    whole_text (fits (goal.at.returns c).After-write_audit) _ r.answer _ c.unwrap.ensures r.bytes
