-- `plan_bytes::put_step` meets its contract: the map, then each set over the zero byte behind the last, then the test.
use mathlib.Core.Path.{◌≡◌, ap, ◌∙◌}
use Prim.Native.Nat.{◌+◌, ◌≤◌}
use native.Mathlib.Omega.{arith}
use lib.ListN.{length, length-set}
use lib.Seq.{length-sets}
use Rattle.plan_bytes.specs.PlanBytes.{set_field}
use Rattle.plan_bytes.proofs.Writing.{field_le, step_length, step_stores}
use Rattle.plan_bytes.proofs.put_step.Goals.{After-put_field-behind, After-put_field-last}
use Rattle.plan_bytes.proofs.put_step.Goals as goal

-- the buffer with the drops, and with the loads, is as long as before
drops_long : (c : After-put_field-behind) → length c.put_field-behind.new.out ≡ length c.args.out.now
drops_long c = ap length c.put_field-behind.ensures.bytes ∙ simp (length-sets, length-set)

loads_long : (c : After-put_field-last)
    → length c.put_field-behind.new.out ≡ length c.args.out.now → length c.put_field-last.new.out ≡ length c.args.out.now
loads_long c e = ap length c.put_field-last.ensures.bytes ∙ simp length-sets e

-- where the loads end
ends : (c : After-put_field-last) → let a = c.args in
    (c.put_field-last.result ≡ a.to + 1 + length (set_field a.drops) + length (set_field a.loads)) × (c.put_field-last.result ≤ a.to + 19)
ends c =
    let a = c.args in
    let e = c.put_field-behind.ensures.end in
    let f = c.put_field-last.ensures.end in
    (omega arith, omega (arith, field_le a.drops, field_le a.loads))

pub put_field-last-requires : goal.put_field-last-requires
put_field-last-requires c =
    omega (arith, drops_long (goal.at.put_field-last-requires c).After-put_field-behind, c.put_field-behind.ensures.end, field_le c.args.drops, c.requires.1)

pub bounds-out-last : goal.bounds-out-last
bounds-out-last c =
    omega (
      arith,
      loads_long (goal.at.bounds-out-last c).After-put_field-last (drops_long (goal.at.bounds-out-last c).After-put_field-behind),
      (ends (goal.at.bounds-out-last c).After-put_field-last).1,
      c.requires.1,
    )

pub overflow_add-result : goal.overflow_add-result
overflow_add-result c = omega (arith, (ends (goal.at.overflow_add-result c).After-put_field-last).1, c.requires.1)

pub returns : goal.returns
returns c =
    let a = c.args in
    let m = c.step_map in record {
      end = omega (arith, (ends (goal.at.returns c).After-put_field-last).0, step_length a.test a.drops a.loads);
      bytes = rw (
        c.put_field-last.ensures.bytes,
        c.put_field-behind.ensures.bytes,
        (ends (goal.at.returns c).After-put_field-last).0,
        c.put_field-behind.ensures.end,
      )
          (step_stores a.test a.drops a.loads m.result a.to a.out.now m.ensures);
    }
