-- `look` meets its contract.
use mathlib.Core.Path.{◌≡◌, ap, ◌∙◌}
use mathlib.Core.List.{List}
use Prim.Native.Nat.{ℕ}
use lib.ListN.{length}
use native.Mathlib.Omega.{arith}
use Rattle.stepping.specs.Stepping.{look_at}
use Rattle.stepping.proofs.Entries.{count_steps, first_entries}
use Rattle.stepping.proofs.look.Goals.{Start}
use Rattle.stepping.proofs.look.Goals as goal

-- a state has 256 entries
entries : (c : Start) → length c.args.state.now.wants ≡ 256
entries c = omega arith

pub slice_bounds-look_at-end : goal.slice_bounds-look_at-end
slice_bounds-look_at-end c =
    let s = c.args.state.now in
    count_steps s.wants s.tests c.steps_of-end.result (entries (goal.at.slice_bounds-look_at-end c).Start) c.steps_of-end.ensures

pub returns : goal.returns
returns c =
    let s = c.args.state.now in
    c.look_at.ensures ∙ ap (λ (ws : List ℕ). look_at s.capacity s.held s.committed ws)
    (first_entries s.wants s.tests c.steps_of-end.result (entries (goal.at.returns c).Start) c.steps_of-end.ensures)
