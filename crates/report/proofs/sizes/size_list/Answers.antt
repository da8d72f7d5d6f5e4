-- `report::sizes::size_list` meets its contract: the order stands in the first entries of its list.
use mathlib.Core.Path.{◌≡◌, sym, refl}
use native.Mathlib.Omega.{arith}
use lib.ListN.{length, take}
use Rattle.job.specs.Refusal.{done, outcome}
use Rattle.job.proofs.Laws.{refused_with, passed_with}
use Rattle.job_bytes.specs.JobBytes.{Request}
use Rattle.planned.specs.Planned.{order_request}
use Rattle.planned.proofs.Stages.{order_refused, order_given}
use Rattle.report.specs.SizeTable.{size_request}
use Rattle.report.proofs.sizes.size_list.Goals.{In_ok-order_tests}
use Rattle.report.proofs.sizes.size_list.Goals as goal

pub returns-in_err-order_tests : goal.returns-in_err-order_tests
unfolding outcome size_request
returns-in_err-order_tests c =
    let a = c.args in
    let q : Request = record { head = a.head; wants = a.wants.now } in
    let e = order_refused q c.requires.0 _ (omega (arith, c.requires.1)) _ _ (sym c.in_err-order_tests.ensures.answer) in
    refused_with _ _ _ c.from_residual.ensures.1 (sym e)

-- the order that ordering gave
given : (c : In_ok-order_tests)
    → let a = c.args in
    let n = a.head.tests in
    let order = c.order_tests.new.order in
    (order_request (record { head = a.head; wants = a.wants.now }) ≡ done (take n order)) × (length (take n order) ≡ n)
unfolding outcome
given c =
    let a = c.args in
    let t = c.order_tests in
    order_given (record { head = a.head; wants = a.wants.now }) c.requires.0 _ (omega (arith, c.requires.1)) _ _
    (sym c.in_ok-order_tests.ensures.answer) t.ensures.list

pub slice_bounds-all_sizes-end : goal.slice_bounds-all_sizes-end
slice_bounds-all_sizes-end c = sym (given (goal.at.slice_bounds-all_sizes-end c).In_ok-order_tests).1

pub returns-in_err-counts : goal.returns-in_err-counts
unfolding outcome size_request
returns-in_err-counts c =
    let o = (given (goal.at.returns-in_err-counts c).In_ok-order_tests).0 in
    passed_with _ _ (sym o) (refused_with _ _ _ c.from_residual-in_err-counts.ensures.1 c.in_err-counts.ensures.answer)

pub returns : goal.returns
unfolding outcome size_request
returns c = passed_with _ _ (sym (given (goal.at.returns c).In_ok-order_tests).0) (passed_with _ _ c.in_ok-counts.ensures.answer refl)
