-- `job::examine_order_alone` meets its contract.
use mathlib.Core.Path.{sym, ◌∙◌}
use borrow.Author.Tests.{lt-leb}
use Rattle.job.specs.Refusal.{outcome}
use Rattle.job.specs.Handed.{tests_known}
use Rattle.job.specs.Calls.{order_alone_known}
use Rattle.job.proofs.Laws.{demand_refused, done_both}
use Rattle.job.proofs.Examination.{refused_both, few_tests}
use Rattle.job.proofs.examine_order_alone.Goals as goal

pub returns-then-order-gt-MOST_TESTS : goal.returns-then-order-gt-MOST_TESTS
unfolding outcome order_alone_known tests_known
returns-then-order-gt-MOST_TESTS c = sym (refused_both _ _ 10 2 (demand_refused _ 10 2 (lt-leb _ 256 c.if-order-gt-MOST_TESTS.true)))

pub returns : goal.returns
unfolding order_alone_known
returns c = c.examine_order.ensures ∙ sym (done_both _ _ (few_tests _ c.if-order-gt-MOST_TESTS.false))
