use Prim.Native.Nat.{ℕ, ◌+◌}
use mathlib.Core.Path.{sym, ap, ◌∙◌}
use mathlib.Core.List.{List}
use native.Mathlib.Omega.{arith}
use lib.ListN.{length, get_or, drop}
use lib.Seq.{length-sets}
use Rattle.job_bytes.proofs.Encoding.{sets_append}
use Rattle.plan_bytes.specs.PlanBytes.{step_bytes}
use Rattle.plan_bytes.proofs.Writing.{one, step_le, list_bytes, steps_next, steps_length, steps_none}
use Rattle.plan_bytes.proofs.put_steps.Goals.{In-loop-i}
use Rattle.plan_bytes.proofs.put_steps.Goals as goal

-- the step at i
abbrev here : (c : In-loop-i) → List ℕ
here c =
    let a = c.args in
    let i = c.loop-i.i in
    step_bytes (one (get_or a.order.now i 0) (get_or a.drops.now i 0) (get_or a.loads.now i 0))

pub loop-i-preserved : goal.loop-i-preserved
loop-i-preserved c =
    let l = c.loop-i in
    let a = c.args in
    let p = c.requires.sets.0 in
    let h = c.loop-i-test.true in
    let e = c.put_step-to.ensures.end in
    let w = c.put_step-to.ensures.bytes in
    let i = l.i in
    let d = a.drops.now in
    let x = a.loads.now in
    let o = a.order.now in
    record {
      room = omega (arith, e, l.invariant.room, step_le (get_or o i 0) (get_or d i 0) (get_or x i 0));
      long = ap length w ∙ simp length-sets l.invariant.long;
      ends = omega (arith, e, l.invariant.ends, steps_length o d x i h (omega arith) (omega arith));
      goes = rw (w, e)
          (l.invariant.goes ∙ ap (lib.Seq.sets l.out l.to) (steps_next o d x i h (omega arith) (omega arith))
          ∙ sets_append (here (goal.at.loop-i-preserved c).In-loop-i) l.out (list_bytes (drop (i + 1) o) (drop (i + 1) d) (drop (i + 1) x)) l.to);
    }

pub returns : goal.returns
returns c =
    let l = c.loop-i in
    let a = c.args in
    let none = steps_none a.order.now a.drops.now a.loads.now l.i (omega arith) in
    record { count = omega (arith, ap length none, l.invariant.ends); bytes = sym (l.invariant.goes ∙ ap (lib.Seq.sets l.out l.to) none) }
