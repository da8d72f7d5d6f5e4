-- `report::sizes::put_fewest` meets its contract.
use Rattle.report.specs.Report.{text}
use Rattle.report.proofs.TableLines.{fewest_line, none_line, places_found, none_found}
use Rattle.report.proofs.Writing.{◌then◌}
use Rattle.report.proofs.sizes.put_fewest.Goals as goal

pub returns-in-Some : goal.returns-in-Some
unfolding text
returns-in-Some c =
    let a = c.args in
    rw (fewest_line a.loads _ a.counts.now (places_found _ _ _ c.fewest_places.ensures c.in-Some.is))
    (c.text.ensures then c.number.ensures then c.number-in-Some.ensures)

pub returns-in-None : goal.returns-in-None
unfolding text
returns-in-None c =
    let a = c.args in
    rw (none_line a.loads a.counts.now (none_found _ _ c.fewest_places.ensures c.in-None.is))
    (c.text.ensures then c.number.ensures then c.text-in-None.ensures)
