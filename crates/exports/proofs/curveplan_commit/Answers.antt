-- `curveplan_commit` meets its contract.
use mathlib.Core.Path.{◌∙◌, ap}
use Rattle.exports.specs.States.{step_of}
use Rattle.exports.proofs.curveplan_commit.Goals as goal

pub returns : goal.returns
returns c =
    let k = c.commit_in.ensures in
    record { answer = c.answered.ensures ∙ ap step_of k.answer; state = k.state }
