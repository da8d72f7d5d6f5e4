-- `planned::plan_job` meets its contract.
use native.Mathlib.Omega.{arith}
use Rattle.job.specs.Refusal.{outcome}
use Rattle.planning.specs.Plan.{set_lists}
use Rattle.planned.specs.ContractWords.{lists_of}
use Rattle.planned.proofs.Stages.{too_short, long_enough}
use Rattle.planned.proofs.plan_job.Goals as goal

pub returns-then-shortest-lt-MOST_TESTS : goal.returns-then-shortest-lt-MOST_TESTS
unfolding outcome
returns-then-shortest-lt-MOST_TESTS c =
    let a = c.args in
    let both = too_short a.job.now (lists_of a.wants.now a.order.now (set_lists a.drops.now a.loads.now)) (omega arith) in
    record { answer = both.0; lists = both.1 }

pub returns : goal.returns
returns c =
    let r = c.read_and_plan in
    let a = c.args in
    let both =
    long_enough a.job.now (lists_of a.wants.now a.order.now (set_lists a.drops.now a.loads.now)) (omega arith) _ _ r.ensures.answer
    r.ensures.lists in
    record { answer = both.0; lists = both.1 }
