-- `report::sizes::write_table` meets its contract: the text is short enough to be counted.
use Rattle.std.proofs.Common.{rules}
use native.Mathlib.Omega.{arith}
use Rattle.report.specs.SizeTable.{wanted_found}
use Rattle.report.proofs.Sizing.{asked_word}
use Rattle.report.proofs.TableLines.{table_short}
use Rattle.report.proofs.sizes.write_table.Goals as goal

pub returns : goal.returns
returns c =
    let a = c.args in
    c.write_text.ensures _ (λ before after called. search rules)
    (omega (
      arith,
      table_short (wanted_found a.wanted) a.head a.counts.now (asked_word a.wanted _ c.well_formed.1.1.0) (omega (arith, c.well_formed.0))
          (omega (arith, c.well_formed.0)) (record { sizes = c.requires; small = λ j l. omega (arith, c.type_inv.counts j) }),
    ))
