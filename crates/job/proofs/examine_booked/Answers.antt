-- `job::examine_booked` meets its contract.
use mathlib.Core.Path.{sym, ◌∙◌}
use borrow.Author.Tests.{le-leb, lt-leb}
use Rattle.job.specs.Refusal.{outcome}
use Rattle.job.specs.Handed.{booked_known}
use Rattle.job.proofs.Laws.{demand_done, demand_refused, done_both}
use Rattle.job.proofs.Examination.{refused_both}
use Rattle.job.proofs.examine_booked.Goals as goal

pub returns-then-rig-gt-MOST_BOOKED : goal.returns-then-rig-gt-MOST_BOOKED
unfolding outcome booked_known
returns-then-rig-gt-MOST_BOOKED c = sym (refused_both _ _ 10 260 (demand_refused _ 10 260 (lt-leb _ 63 c.if-rig-gt-MOST_BOOKED.true)))

pub returns : goal.returns
unfolding booked_known
returns c = c.examine_capacity.ensures ∙ sym (done_both _ _ (demand_done _ 10 260 (le-leb _ 63 c.if-rig-gt-MOST_BOOKED.false)))
