-- `report::sheet_text` meets its contract: its buffer takes every sheet (`sheet_fits`), so a refusal never comes.
use mathlib.Core.Path.{◌≡◌}
use native.Mathlib.Omega.{arith}
use lib.ListN.{length}
use Rattle.job.specs.Refusal.{done}
use Rattle.planned.proofs.Reading.{bytes_of}
use Rattle.report.specs.Report.{sheet, write_sheet, sheet_answer, sheet_buffer}
use Rattle.report.proofs.Fitted.{whole_text, never_refused}
use Rattle.report.proofs.Longest.{sheet_fits}
use Rattle.report.proofs.sheet_text.Goals.{After-write_report}
use Rattle.report.proofs.sheet_text.Goals as goal

fits : (c : After-write_report) → let a = c.args in write_sheet a.job.now (length a.text.now) ≡ done (sheet a.job.now)
fits c = sheet_fits c.args.job.now _ (bytes_of _ c.type_inv.job) (omega (arith, c.told-text))

pub unwrap-requires : goal.unwrap-requires
unfolding sheet_answer
unwrap-requires c = never_refused (fits (goal.at.unwrap-requires c).After-write_report) _ c.write_report.ensures.answer

pub returns : goal.returns
unfolding sheet_answer sheet_buffer
returns c =
    let r = c.write_report.ensures in
    whole_text (fits (goal.at.returns c).After-write_report) _ r.answer _ c.unwrap.ensures r.bytes
