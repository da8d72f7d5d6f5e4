-- `plan_bytes::write_fitting` meets its contract: the bytes stand in a buffer of its own before their number is asked for.
use mathlib.Core.Path.{◌≡◌, sym, ap, ◌∙◌}
use mathlib.Core.List.{List}
use Prim.Native.Nat.{ℕ, ◌+◌, ◌≤◌}
use native.Mathlib.Omega.{arith}
use lib.ListN.{length, take}
use lib.Seq.{length-take-le}
use Rattle.job.specs.Refusal.{overwritten, outcome}
use Rattle.job.proofs.Laws.{fitting_short, fitting_whole, made_refused, made_done}
use Rattle.job_bytes.proofs.Encoding.{own_bytes, own_fits, put, put_front}
use Rattle.planning.specs.Plan.{plan_of}
use Rattle.plan_bytes.specs.PlanBytes.{plan_bytes}
use Rattle.plan_bytes.proofs.PlanLength.{plan_le}
use Rattle.plan_bytes.proofs.write_fitting.Goals.{After-put_plan-need}
use Rattle.plan_bytes.proofs.write_fitting.Goals as goal

-- the buffer of its own has the bytes of the plan in front
abbrev bytes : After-put_plan-need → List ℕ
bytes c = let a = c.args in plan_bytes a.order.now (plan_of a.drops.now a.loads.now a.end)

own : (c : After-put_plan-need) → let p = c.put_plan-need in (p.result ≤ length p.new.out) × (take p.result p.new.out ≡ bytes c)
own c =
    let e = c.put_plan-need.ensures in
    let few = c.requires.sets.1 in
    let h = plan_le c.args.order.now (plan_of c.args.drops.now c.args.loads.now c.args.end) in
    let n = c.put_plan-need.result in
    let z : n ≡ 0 + length (bytes c) = omega (arith, e.count) in
    (own_fits (bytes c) _ _ n z e.bytes (omega arith), own_bytes (bytes c) _ _ n z e.bytes (omega arith))

pub returns-then-out-need : goal.returns-then-out-need
unfolding outcome
returns-then-out-need c =
    rw c.put_plan-need.ensures.count
    (let both = made_refused _ _ _ _
    (fitting_short (bytes (goal.at.returns-then-out-need c).After-put_plan-need) (length c.args.out.now) (omega (arith, c.put_plan-need.ensures.count))) in
    record {
      answer = both.0;
      bytes = both.1;
    })

pub slice_bounds-bytes-end : goal.slice_bounds-bytes-end
slice_bounds-bytes-end c = (own (goal.at.slice_bounds-bytes-end c).After-put_plan-need).0

pub slice_bounds-put_front-end : goal.slice_bounds-put_front-end
slice_bounds-put_front-end c = sym (length-take-le _ _ (own (goal.at.slice_bounds-put_front-end c).After-put_plan-need).0)

pub returns : goal.returns
unfolding outcome overwritten
returns c =
    let old = c.args.out.now in
    let e = c.put_plan-need.ensures.count in
    let h : length (bytes (goal.at.returns c).After-put_plan-need) ≤ length old = omega (arith, e, c.if-out-need.false) in
    let g = made_done _ old _ (fitting_whole (bytes (goal.at.returns c).After-put_plan-need) (length old) h) in
    record {
      answer = rw e g.0;
      bytes = c.put_front.ensures ∙ ap (λ (x : List ℕ). put x old) (own (goal.at.returns c).After-put_plan-need).1
          ∙ put_front (bytes (goal.at.returns c).After-put_plan-need) old h ∙ g.1;
    }
