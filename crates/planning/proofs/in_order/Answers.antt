use mathlib.Core.Path.{sym, ap, ◌∙◌}
use Prim.Native.Nat.{◌+◌}
use native.Mathlib.Omega.{arith}
use lib.ListN.{length, get_or, drop, length-set}
use lib.Seq.{sets}
use Rattle.lists.proofs.Overwritten.{sets_cons}
use Rattle.planning.specs.Plan.{in_order}
use Rattle.planning.proofs.Turns.{wants_next, wants_end}
use Rattle.planning.proofs.in_order.Goals as goal

pub loop-i-preserved : goal.loop-i-preserved
loop-i-preserved c =
    let q = c.loop-i in
    let ws = c.args.wants.now in
    let os = c.args.order.now in
    record {
      long = ap length c.put.ensures ∙ length-set q.steps q.i _ ∙ q.invariant.long;
      goes =
          rw (c.put.ensures, c.entry.ensures)
          (q.invariant.goes ∙ ap (sets q.steps q.i) (wants_next ws os q.i (omega arith))
          ∙ sets_cons q.steps q.i (get_or ws (get_or os q.i 0) 0) (in_order ws (drop (q.i + 1) os)));
    }

pub returns : goal.returns
returns c =
    let q = c.loop-i in
    sym (q.invariant.goes ∙ ap (sets q.steps q.i) (wants_end c.args.wants.now c.args.order.now q.i c.loop-i-test.false))
