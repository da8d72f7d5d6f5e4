-- The text of a sheet is within its buffer.
use mathlib.Core.Path.{◌≡◌}
use Prim.Native.Nat.{◌≤◌}
use lib.ListN.{length, take}
use Rattle.report.proofs.Fitted.{whole_lent}
use Rattle.sheet.proofs.main.Goals.{After-sheet_text-k}
use Rattle.sheet.proofs.main.Goals as goal

lent : (c : After-sheet_text-k) → let r = c.sheet_text-k in (r.result ≤ length r.new.text) × (r.result ≡ length (take r.result r.new.text))
lent c = whole_lent _ _ _ _ c.sheet_text-k.ensures.count c.sheet_text-k.ensures.bytes

pub slice_bounds-text-end : goal.slice_bounds-text-end
slice_bounds-text-end c = (lent (goal.at.slice_bounds-text-end c).After-sheet_text-k).0

pub slice_bounds-write_all-end : goal.slice_bounds-write_all-end
slice_bounds-write_all-end c = (lent (goal.at.slice_bounds-write_all-end c).After-sheet_text-k).1
