-- `plan_bytes::put_plan` meets its contract: the steps, and the end step behind them.
use mathlib.Core.Path.{ap}
use mathlib.Core.List.{List, [], ◌∷◌, ◌++◌, append_assoc}
use Prim.Native.Nat.{ℕ}
use native.Mathlib.Omega.{arith}
use lib.ListN.{length, length-append}
use lib.Seq.{sets, length-sets}
use Rattle.job_bytes.proofs.Encoding.{sets_append}
use Rattle.plan_bytes.specs.PlanBytes.{end_bytes}
use Rattle.plan_bytes.proofs.Writing.{list_bytes}
use Rattle.plan_bytes.proofs.PlanLength.{bytes_le}
use Rattle.plan_bytes.proofs.put_plan.Goals.{After-put_steps-to}
use Rattle.plan_bytes.proofs.put_plan.Goals as goal

abbrev first : After-put_steps-to → List ℕ
first c =
    let a = c.args in
    list_bytes a.order.now a.drops.now a.loads.now

pub put_end-requires : goal.put_end-requires
put_end-requires c =
    let a = c.args in
    omega (
      arith,
      c.put_steps-to.ensures.count,
      ap length c.put_steps-to.ensures.bytes,
      length-sets a.out.now 0 (first (goal.at.put_end-requires c).After-put_steps-to),
      bytes_le a.order.now a.drops.now a.loads.now,
      c.requires.sets.1,
    )

pub returns : goal.returns
returns c =
    let a = c.args in
    let n = c.put_steps-to.ensures.count in
    let f = first (goal.at.returns c).After-put_steps-to in
    let b = end_bytes a.end in record {
      count = omega (arith, c.put_end.ensures.end, n, length-append f b);
      bytes = rw (append_assoc f b (0 ∷ []), sets_append f a.out.now (b ++ (0 ∷ [])) 0, c.put_end.ensures.bytes, c.put_steps-to.ensures.bytes, n) (ap
          (λ (k : ℕ). sets (sets a.out.now 0 f) k (b ++ (0 ∷ []))) (omega arith));
    }
