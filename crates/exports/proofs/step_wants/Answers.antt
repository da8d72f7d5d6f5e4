-- `step_wants` meets its contract.
use mathlib.Core.Path.{◌≡◌, ap, ◌∙◌}
use Prim.Native.Nat.{ℕ, ◌+◌, ◌-◌}
use native.Mathlib.Omega.{arith}
use lib.ListN.{get_or, take, drop, length-drop}
use Rattle.stepping.proofs.Entries.{first_entries}
use Rattle.exports.proofs.step_wants.Goals as goal

pub returns : goal.returns
returns c =
    let ns = c.args.state.now in
    let k = c.steps_of-end in
    let e : 4 + k.result - 4 ≡ k.result = omega arith in
    ap (λ (n : ℕ). take n (drop 4 ns)) e ∙ first_entries (drop 4 ns) (get_or ns 3 0) k.result (omega (arith, length-drop 4 ns)) k.ensures
