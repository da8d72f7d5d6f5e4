-- `state_or_done` meets its contract.
use mathlib.Core.Path.{refl, ◌∙◌}
use Rattle.stepping.proofs.Planned.{state_taken}
use Rattle.stepping.proofs.state_or_done.Goals as goal

pub returns : goal.returns
returns c = c.unwrap_or.ensures ∙ state_taken c.args.made _ refl
