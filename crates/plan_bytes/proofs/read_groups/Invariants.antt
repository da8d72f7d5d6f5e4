-- `plan_bytes::read_groups` meets its contract. The invariant: reading all groups comes to reading those from j on.
use Prim.Native.Nat.{◌≤◌, ◌-◌}
use mathlib.Core.Path.{◌≡◌}
use lib.ListN.{length}
use Rattle.job_bytes.specs.SetBytes.{read_groups}
use Rattle.plan_bytes.proofs.read_groups.Given as goal

abbrev pub invariant-loop-j : goal.invariant-loop-j
invariant-loop-j l =
    (l.next ≤ length l.plan)
    × (read_groups 11 11 11 l.curves 8 0 l.groups 0 l.start (lib.ListN.drop l.start l.plan)
    ≡ read_groups 11 11 11 l.curves (8 - l.j) l.j l.groups l.set l.next (lib.ListN.drop l.next l.plan))
