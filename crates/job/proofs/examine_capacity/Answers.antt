-- `job::examine_capacity` meets its contract.
use mathlib.Core.Path.{sym}
use borrow.Author.Tests.{lt-ltb, le-ltb}
use Rattle.job.specs.Refusal.{outcome}
use Rattle.job.specs.Handed.{booked_below}
use Rattle.job.proofs.Laws.{demand_done, demand_refused}
use Rattle.job.proofs.examine_capacity.Goals as goal

pub returns-then-rig : goal.returns-then-rig
unfolding outcome booked_below
returns-then-rig c = sym (demand_done _ 13 _ (lt-ltb _ _ c.if-rig.true))

pub returns : goal.returns
unfolding outcome booked_below
returns c = sym (demand_refused _ 13 _ (le-ltb _ _ c.if-rig.false))
