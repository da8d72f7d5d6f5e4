-- `job::examine_sizing` meets its contract.
use mathlib.Core.Path.{sym}
use lib.ListN.{length}
use Prim.Native.Nat.{◌≤◌}
use Rattle.job.specs.Refusal.{outcome}
use Rattle.job.specs.Calls.{sizing_known}
use Rattle.job.proofs.Laws.{refused_then, passed_then}
use Rattle.job.proofs.Examination.{counts_bounds}
use Rattle.job.proofs.examine_sizing.Goals.{In_ok-examine_counts}
use Rattle.job.proofs.examine_sizing.Goals as goal

-- behind the first examination
bounds : (c : In_ok-examine_counts) → (c.args.curves ≤ 64) × (length c.args.wants.now ≤ 256)
unfolding outcome
bounds c = counts_bounds _ _ (sym c.in_ok-examine_counts.ensures)

pub returns-in_err-examine_counts : goal.returns-in_err-examine_counts
unfolding sizing_known
returns-in_err-examine_counts c = refused_then _ _ _ c.from_residual.ensures.1 c.in_err-examine_counts.ensures

pub examine_wants-requires : goal.examine_wants-requires
examine_wants-requires c = bounds (goal.at.examine_wants-requires c).In_ok-examine_counts

pub returns-in_err-examine_wants : goal.returns-in_err-examine_wants
unfolding sizing_known
returns-in_err-examine_wants c =
    passed_then _ c.in_ok-examine_counts.ensures (refused_then _ _ _ c.from_residual-in_err-examine_wants.ensures.1 c.in_err-examine_wants.ensures)

pub examine_order-requires : goal.examine_order-requires
examine_order-requires c = (bounds (goal.at.examine_order-requires c).In_ok-examine_counts).1

pub returns : goal.returns
unfolding sizing_known
returns c = passed_then _ c.in_ok-examine_counts.ensures (passed_then _ c.in_ok-examine_wants.ensures c.examine_order.ensures)
