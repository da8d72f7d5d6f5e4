-- `report::audit::audit_steps` meets its contract.
use mathlib.Core.Path.{◌∙◌}
use Rattle.job.proofs.Laws.{refused_with, passed_with}
use Rattle.report.specs.Audit.{audit_steps}
use Rattle.report.proofs.Auditing.{mapped_bind}
use Rattle.report.proofs.audit.audit_steps.Goals as goal

pub returns-in_err-count : goal.returns-in_err-count
unfolding audit_steps
returns-in_err-count c = refused_with _ _ _ c.from_residual.ensures.1 c.in_err-count.ensures

pub returns : goal.returns
unfolding audit_steps
returns c = passed_with _ _ c.in_ok-count.ensures (c.beside_fewest.ensures ∙ mapped_bind _ _)
