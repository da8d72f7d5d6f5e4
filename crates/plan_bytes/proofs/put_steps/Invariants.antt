-- `plan_bytes::put_steps` meets its contract. The invariant: storing the bytes of the steps from i on, at `to`, leads to the same buffer as storing all.
use Prim.Native.Nat.{◌+◌, ◌*◌, ◌≤◌}
use mathlib.Core.Path.{◌≡◌}
use lib.ListN.{length, drop}
use lib.Seq.{length-sets}
use Rattle.plan_bytes.proofs.Writing.{list_bytes}
use Rattle.plan_bytes.proofs.put_steps.Given as goal

abbrev pub invariant-loop-i : goal.invariant-loop-i
invariant-loop-i l =
    record {
      room : l.to ≤ 20 * l.i;
      long : length l.out ≡ length l.initial.out;
      ends : l.to + length (list_bytes (drop l.i l.order) (drop l.i l.drops) (drop l.i l.loads)) ≡ length (list_bytes l.order l.drops l.loads);
      goes : lib.Seq.sets l.initial.out 0 (list_bytes l.order l.drops l.loads) ≡ lib.Seq.sets l.out l.to
          (list_bytes (drop l.i l.order) (drop l.i l.drops) (drop l.i l.loads));
    }
