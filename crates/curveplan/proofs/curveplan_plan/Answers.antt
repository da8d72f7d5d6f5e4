-- `curveplan::curveplan_plan` meets its contract: the count, or the refusal as one number, which takes less than 20 bits.
use native.Mathlib.Omega.{arith}
use Prim.Native.Nat.{◌≤◌}
use Rattle.job.specs.Refusal.{number, figure}
use Rattle.planned.proofs.Reading.{bytes_of}
use Rattle.curveplan.proofs.Answers.{answers_count, answers_refusal, refusal_bounds}
use Rattle.curveplan.proofs.curveplan_plan.Goals.{In-Err}
use Rattle.curveplan.proofs.curveplan_plan.Goals as goal

-- the refusal's number and figure are small
small : (c : In-Err) → (number c.in-Err.r ≤ 13) × (figure c.in-Err.r ≤ 5121)
small c = refusal_bounds c.args.job.now c.args.plan.now _ c.job_to_plan.ensures.count (bytes_of _ c.type_inv.job) _ c.in-Err.is

pub overflow_mul-result : goal.overflow_mul-result
overflow_mul-result c = omega (arith, c.number_of.ensures, (small (goal.at.overflow_mul-result c).In-Err).0)

pub overflow_add-result : goal.overflow_add-result
overflow_add-result c =
    omega (
      arith,
      c.number_of.ensures,
      c.figure_of.ensures,
      (small (goal.at.overflow_add-result c).In-Err).0,
      (small (goal.at.overflow_add-result c).In-Err).1,
    )

pub returns-in-Err : goal.returns-in-Err
returns-in-Err c = let a = c.args in
    let g = c.job_to_plan.ensures in record {
      answer = rw (c.number_of.ensures, c.figure_of.ensures)
          (answers_refusal a.job.now a.plan.now _ g.count _ c.in-Err.is);
      bytes = g.bytes;
    }

pub returns-in-Ok : goal.returns-in-Ok
returns-in-Ok c = let a = c.args in
    let g = c.job_to_plan.ensures in
    record { answer = answers_count a.job.now a.plan.now _ g.count _ c.in-Ok.is; bytes = g.bytes }
