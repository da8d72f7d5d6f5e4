-- `look_in` meets its contract.
use mathlib.Core.Path.{ap, ◌∙◌}
use mathlib.Core.List.{List}
use Prim.Native.Nat.{ℕ}
use lib.ListN.{get_or}
use Rattle.stepping.specs.Stepping.{look_at}
use Rattle.exports.proofs.look_in.Goals as goal

pub returns : goal.returns
returns c =
    let ns = c.args.state.now in
    c.look_at.ensures ∙ ap (λ (ws : List ℕ). look_at (get_or ns 0 0) (get_or ns 1 0) (get_or ns 2 0) ws) c.step_wants.ensures
