-- No byte behind the buffer changes an audit (`audit_job_prefix`).
use native.Mathlib.Omega.{arith}
use lib.ListN.{length}
use Rattle.report.specs.Audit.{audit}
use Rattle.report.proofs.Inputs.{enough, audit_job_prefix}
use Rattle.audit.proofs.read_job.Goals as goal

pub returns-clause-enough : goal.returns-clause-enough
returns-clause-enough g c =
    let r = c.read_full in
    let b = r.new.buf in
    λ plan. enough (λ whole. audit whole plan) r.result b (λ whole. audit_job_prefix (length b) whole plan (omega (arith, r.auto.buf, c.told-job)))
