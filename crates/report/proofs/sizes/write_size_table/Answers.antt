-- `report::sizes::write_size_table` meets its contract.
use mathlib.Core.Path.{sym}
use Rattle.job.specs.Refusal.{outcome}
use Rattle.report.specs.SizeTable.{wanted_found}
use Rattle.report.proofs.Sizing.{table_refused, table_made}
use Rattle.report.proofs.sizes.write_size_table.Goals as goal

pub returns-in-Err : goal.returns-in-Err
unfolding outcome
returns-in-Err c =
    let a = c.args in
    table_refused a.job.now a.out.now (wanted_found a.wanted) _ _ (sym c.in-Err.ensures) c.write_refusal.ensures

pub returns-in-Ok : goal.returns-in-Ok
unfolding outcome
returns-in-Ok c =
    let a = c.args in
    table_made a.job.now a.out.now (wanted_found a.wanted) _ (sym c.in-Ok.ensures) c.write_table.ensures
