-- `curveplan_look` meets its contract.
use mathlib.Core.Path.{◌∙◌, ap}
use Rattle.job.specs.Refusal.{done}
use Rattle.stepping.specs.declared.NextStep.{NextStep}
use Rattle.exports.specs.States.{step_of}
use Rattle.exports.proofs.curveplan_look.Goals as goal

pub returns : goal.returns
returns c = c.shown.ensures ∙ ap (λ (l : NextStep). step_of (done l)) c.look_in.ensures
