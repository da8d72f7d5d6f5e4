-- `report::sizes::size_table_text` meets its contract: its buffer takes every table (`table_fits`), so a refusal never comes.
use mathlib.Core.Path.{◌≡◌}
use native.Mathlib.Omega.{arith}
use lib.ListN.{length}
use Rattle.job.specs.Refusal.{done}
use Rattle.planned.proofs.Reading.{bytes_of}
use Rattle.report.specs.SizeTable.{size_table, write_table, table_answer, table_buffer, wanted_found}
use Rattle.report.proofs.Fitted.{whole_text, never_refused}
use Rattle.report.proofs.Sizing.{asked_word}
use Rattle.report.proofs.TableLongest.{table_fits}
use Rattle.report.proofs.sizes.size_table_text.Goals.{After-write_size_table}
use Rattle.report.proofs.sizes.size_table_text.Goals as goal

fits : (c : After-write_size_table) →
    let a = c.args in
    write_table a.job.now (wanted_found a.wanted) (length a.text.now) ≡ done (size_table a.job.now (wanted_found a.wanted))
fits c =
    let a = c.args in
    table_fits a.job.now (wanted_found a.wanted) _ (bytes_of _ c.type_inv.job) (asked_word a.wanted _ c.well_formed.1.0)
    (omega (arith, c.told-text))

pub unwrap-requires : goal.unwrap-requires
unfolding table_answer
unwrap-requires c = never_refused (fits (goal.at.unwrap-requires c).After-write_size_table) _ c.write_size_table.ensures.answer

pub returns : goal.returns
unfolding table_answer table_buffer
returns c =
    let r = c.write_size_table.ensures in
    whole_text (fits (goal.at.returns c).After-write_size_table) _ r.answer _ c.unwrap.ensures r.bytes
