-- `fewest_places` meets its contract: of the counts of all sizes.
use mathlib.Core.Path.{refl, sym, ap, ◌∙◌}
use Rattle.job.specs.Refusal.{done, mapped, outcome}
use Rattle.every_size.specs.Sizes.{fewest_places}
use Rattle.job.proofs.Laws.{refused_mapped, handed_on}
use Rattle.sizing.specs.Sizing.{fewest}
use Rattle.sizing.proofs.fewest_places.Goals as goal

pub returns-in_err-counts : goal.returns-in_err-counts
unfolding outcome mapped fewest
returns-in_err-counts c =
    rw (handed_on _ _ c.from_residual.ensures.1) (refused_mapped (fewest_places c.args.loads) _ _ _ (sym c.in_err-counts.ensures.answer))

pub returns : goal.returns
unfolding outcome mapped fewest
returns c = ap done c.fewest_places.ensures ∙ rw (← c.in_ok-counts.ensures.answer) refl
