-- The text of an audit is within its buffer.
use Rattle.report.proofs.Fitted.{whole_lent}
use Rattle.audit.proofs.print_audit.Goals as goal

pub slice_bounds-text-end : goal.slice_bounds-text-end
slice_bounds-text-end g c = (whole_lent _ _ _ _ c.audit_text-k.ensures.count c.audit_text-k.ensures.bytes).0

pub slice_bounds-write_all-end : goal.slice_bounds-write_all-end
slice_bounds-write_all-end g c = (whole_lent _ _ _ _ c.audit_text-k.ensures.count c.audit_text-k.ensures.bytes).1
