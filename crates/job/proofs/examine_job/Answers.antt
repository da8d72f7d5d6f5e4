-- `job::examine_job` meets its contract.
use mathlib.Core.Path.{sym, ◌∙◌}
use Rattle.job.specs.Refusal.{outcome}
use Rattle.job.specs.Handed.{job_known_by}
use Rattle.job.proofs.Laws.{refused_then, passed_then}
use Rattle.job.proofs.Examination.{known_bounds, method_passed, method_refused}
use Rattle.job.proofs.examine_job.Goals.{In_ok-examine_numbers}
use Rattle.job.proofs.examine_job.Goals as goal

pub returns-in_err-examine_numbers : goal.returns-in_err-examine_numbers
unfolding job_known_by
returns-in_err-examine_numbers c = refused_then _ _ _ c.from_residual.ensures.1 c.in_err-examine_numbers.ensures

pub returns-then-not-is_method : goal.returns-then-not-is_method
unfolding outcome job_known_by
returns-then-not-is_method c =
    passed_then _ c.in_ok-examine_numbers.ensures (sym (method_refused _ _ (sym c.is_method.ensures ∙ c.if-not-is_method.true)))

pub examine_wants-requires : goal.examine_wants-requires
unfolding outcome
examine_wants-requires c = known_bounds _ _ (sym c.in_ok-examine_numbers.ensures)

pub returns-in_err-examine_wants : goal.returns-in_err-examine_wants
unfolding job_known_by
returns-in_err-examine_wants c =
    passed_then _ c.in_ok-examine_numbers.ensures (refused_then _ _ _ c.from_residual-in_err-examine_wants.ensures.1 c.in_err-examine_wants.ensures
    ∙ sym (method_passed _ _ (sym c.is_method.ensures ∙ c.if-not-is_method.false)))

pub returns : goal.returns
unfolding job_known_by
returns c =
    passed_then _ c.in_ok-examine_numbers.ensures (passed_then _ c.in_ok-examine_wants.ensures c.examine_booked.ensures
    ∙ sym (method_passed _ _ (sym c.is_method.ensures ∙ c.if-not-is_method.false)))
