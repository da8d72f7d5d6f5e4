-- `plan_bytes::step_map` meets its contract.
use mathlib.Core.Path.{◌≡◌}
use Prim.Native.Nat.{◌+◌}
use native.Mathlib.Omega.{arith}
use Rattle.job_bytes.specs.SetBytes.{stands}
use Rattle.job_bytes.proofs.Encoding.{stands_some}
use Rattle.plan_bytes.proofs.Writing.{stands_none}
use Rattle.plan_bytes.proofs.step_map.Goals.{then-drops-ne0, else-drops-ne0, Joined-drops-ne0}
use Rattle.plan_bytes.proofs.step_map.Goals as goal

-- the map with the bit of the drops
with_drops : (c : Joined-drops-ne0) → c.if-drops-ne0.fields ≡ stands c.args.drops + 4
with_drops c =
    let d = c.args.drops in
    elim c.if-drops-ne0.branch [
      | then-drops-ne0 w ↦ omega (arith, w.fields-is, stands_some d w.if-drops-ne0.true)
      | else-drops-ne0 w ↦ omega (arith, w.fields-is, stands_none d w.if-drops-ne0.false)
    ]

pub returns-then-loads-ne0 : goal.returns-then-loads-ne0
returns-then-loads-ne0 c = omega (arith, with_drops (goal.at.returns-then-loads-ne0 c).Joined-drops-ne0, stands_some c.args.loads c.if-loads-ne0.true)

pub returns-else-loads-ne0 : goal.returns-else-loads-ne0
returns-else-loads-ne0 c = omega (arith, with_drops (goal.at.returns-else-loads-ne0 c).Joined-drops-ne0, stands_none c.args.loads c.if-loads-ne0.false)
