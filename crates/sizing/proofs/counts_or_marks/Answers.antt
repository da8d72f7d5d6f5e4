-- `counts_or_marks` meets its contract.
use mathlib.Core.Path.{refl, ◌∙◌}
use Rattle.sizing.proofs.Sized.{counts_taken}
use Rattle.sizing.proofs.counts_or_marks.Goals as goal

pub returns : goal.returns
returns c = c.unwrap_or.ensures ∙ counts_taken c.args.sizes _ refl
