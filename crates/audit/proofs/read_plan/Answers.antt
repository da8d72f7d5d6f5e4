-- No byte behind the buffer changes an audit (`audit_plan_prefix`).
use native.Mathlib.Omega.{arith}
use lib.ListN.{length}
use Rattle.report.specs.Audit.{audit}
use Rattle.report.proofs.Inputs.{enough, audit_plan_prefix}
use Rattle.audit.proofs.read_plan.Goals as goal

pub returns-clause-enough : goal.returns-clause-enough
returns-clause-enough g c =
    let r = c.read_full in
    let b = r.new.buf in
    λ job. enough (λ whole. audit job whole) r.result b (λ whole. audit_plan_prefix (length b) job whole (omega (arith, r.auto.buf, c.told-plan)))
