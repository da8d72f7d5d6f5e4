-- `job_bytes::reading::read_job` meets its contract: the fields of the head, 13, and then the tests.
use mathlib.Core.Path.{◌≡◌, sym, ap, ◌∙◌}
use native.Mathlib.Omega.{arith}
use lib.ListN.{drop}
use Rattle.job.specs.declared.Head.{Head}
use Rattle.job.specs.Refusal.{done, mapped, outcome}
use Rattle.job.proofs.Laws.{handed_on}
use Rattle.job_bytes.specs.SetBytes.{got}
use Rattle.job_bytes.specs.JobBytes.{head_fields}
use Rattle.job_bytes.proofs.Heads.{rows, head_fault, head_booked, head_whole}
use Rattle.job_bytes.proofs.Spans.{head_some}
use Rattle.job_bytes.proofs.Records.{whole_head, job_refused}
use Rattle.job_bytes.proofs.reading.read_job.Goals.{After-head_of-head}
use Rattle.job_bytes.proofs.reading.read_job.Goals as goal

pub read_fields-requires : goal.read_fields-requires
read_fields-requires c = sym rows

-- the fields that were read, as a head
fields : (c : After-head_of-head)
    → let bs = c.args.job.now in
    let n = c.in_ok-start.start in
    head_fields bs ≡ done (got c.head_of-head.result n (drop n bs))
unfolding mapped outcome
fields c =
    c.in_ok-start.ensures
    ∙ ap (λ (h : Head). done (got h c.in_ok-start.start (drop c.in_ok-start.start c.args.job.now))) (sym c.head_of-head.ensures)

pub overflow_sub-start : goal.overflow_sub-start
overflow_sub-start c = omega (arith, head_some _ _ (fields (goal.at.overflow_sub-start c).After-head_of-head))

pub returns-in_err-start : goal.returns-in_err-start
unfolding mapped outcome
returns-in_err-start c =
    let a = c.args in
    let both = job_refused a.job.now a.wants.now _ _ (whole_head a.job.now _ _ (head_fault a.job.now _ _ c.in_err-start.ensures)) in
    record { answer = handed_on _ _ c.from_residual.ensures.1 ∙ both.0; lent = both.1 }

pub returns-in_err-examine_capacity : goal.returns-in_err-examine_capacity
unfolding outcome
returns-in_err-examine_capacity c =
    let a = c.args in
    let f = fields (goal.at.returns-in_err-examine_capacity c).After-head_of-head in
    let both =
    job_refused a.job.now a.wants.now _ _ (whole_head a.job.now _ _ (head_booked a.job.now _ f _ _ (sym c.in_err-examine_capacity.ensures))) in
    record { answer = handed_on _ _ c.from_residual-in_err-examine_capacity.ensures.1 ∙ both.0; lent = both.1 }

pub read_tests-requires : goal.read_tests-requires
unfolding outcome
read_tests-requires c = head_whole _ _ (fields (goal.at.read_tests-requires c).After-head_of-head) (sym c.in_ok-examine_capacity.ensures)
