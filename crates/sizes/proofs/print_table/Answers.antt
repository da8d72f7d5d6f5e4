-- The table is within its buffer.
use Rattle.report.proofs.Fitted.{whole_lent}
use Rattle.sizes.proofs.print_table.Goals as goal

pub slice_bounds-text-end : goal.slice_bounds-text-end
slice_bounds-text-end g c = (whole_lent _ _ _ _ c.size_table_text-k.ensures.count c.size_table_text-k.ensures.bytes).0

pub slice_bounds-write_all-end : goal.slice_bounds-write_all-end
slice_bounds-write_all-end g c = (whole_lent _ _ _ _ c.size_table_text-k.ensures.count c.size_table_text-k.ensures.bytes).1
