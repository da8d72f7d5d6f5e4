-- `in_order` meets its contract. The invariant: what is written in all comes to what is written and the wants of the steps from i on.
use mathlib.Core.Path.{◌≡◌}
use lib.ListN.{length, drop}
use lib.Seq.{sets}
use Rattle.planning.specs.Plan.{in_order}
use Rattle.planning.proofs.in_order.Given as goal

abbrev pub invariant-loop-i : goal.invariant-loop-i
invariant-loop-i l =
    record {
      long : length l.steps ≡ length l.initial.steps;
      goes : sets l.initial.steps 0 (in_order l.wants l.order) ≡ sets l.steps l.i (in_order l.wants (drop l.i l.order));
    }
