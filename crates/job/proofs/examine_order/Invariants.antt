-- `job::examine_order` meets its contract. The invariant: a flag is set for each test of the first i positions, and the whole examination comes to that of
-- the rest.
use mathlib.Core.Path.{◌≡◌}
use mathlib.Core.Bool.{false}
use Prim.Native.Nat.{ℕ}
use lib.ListN.{length, get_or, take, drop}
use Rattle.job.specs.Handed.{listed}
use Rattle.job.specs.Order.{order_from, order_known}
use Rattle.job.proofs.examine_order.Given as goal

abbrev pub invariant-loop-i : goal.invariant-loop-i
invariant-loop-i l =
    record {
      long : length l.seen ≡ 256;
      marks : (t : ℕ) → get_or l.seen t false ≡ listed (take l.i l.order) t;
      goes : order_known l.tests l.order ≡ order_from l.tests (take l.i l.order) (drop l.i l.order);
    }
