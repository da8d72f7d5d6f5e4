-- `plan_bytes::read_step` meets its contract: one law of `Reading` a case.
use mathlib.Core.Path.{◌≡◌, sym}
use Prim.Native.Nat.{◌+◌, ◌%◌}
use native.Mathlib.Omega.{arith}
use lib.ListN.{get_or, drop}
use Rattle.std.proofs.lemmas.Result.{err_from_is_err_and}
use Rattle.bitset.specs.Set.{bit}
use Rattle.job.specs.Refusal.{done}
use Rattle.job_bytes.specs.SetBytes.{got}
use Rattle.plan_bytes.specs.PlanBytes.{read_set}
use Rattle.plan_bytes.specs.ContractWords.{set_outcome, step_outcome}
use Rattle.plan_bytes.proofs.Reading.{step_cut, step_low, step_high, drops_faulty, loads_faulty, test_cut, test_unknown}
use Rattle.plan_bytes.proofs.Reading.{step_whole}
use Rattle.plan_bytes.proofs.read_step.Goals.{In_ok-drops, In_ok-loads}
use Rattle.plan_bytes.proofs.read_step.Goals as goal

-- the drops that were read
drops_read : (c : In_ok-drops) →
    let a = c.args in
    let s = c.in_ok-drops.drops in
    read_set a.curves a.tests (get_or a.plan.now a.at 0 % 2) (a.at + 1) (drop (a.at + 1) a.plan.now) ≡ done (got s.set s.next (drop s.next a.plan.now))
unfolding set_outcome
drops_read c = sym (c.in_ok-drops.ensures c.args.tests)

-- the loads that were read
loads_read : (c : In_ok-loads) →
    let a = c.args in
    let n = c.in_ok-drops.drops.next in
    let s = c.in_ok-loads.loads in
    read_set a.curves a.tests (bit 1 (get_or a.plan.now a.at 0)) n (drop n a.plan.now) ≡ done (got s.set s.next (drop s.next a.plan.now))
unfolding set_outcome
loads_read c = sym (c.in_ok-loads.ensures c.args.tests)

pub returns-then-plan-at : goal.returns-then-plan-at
unfolding step_outcome
returns-then-plan-at c = let a = c.args in sym (step_cut a.curves a.tests a.at a.plan.now c.if-plan-at.true)

pub returns-then-fields-lt4 : goal.returns-then-fields-lt4
unfolding step_outcome
returns-then-fields-lt4 c = let a = c.args in sym (step_low a.curves a.tests a.at a.plan.now (omega arith) c.if-fields-lt4.true)

pub returns-then-fields-gt7 : goal.returns-then-fields-gt7
unfolding step_outcome
returns-then-fields-gt7 c = let a =
    c.args in sym
    (step_high a.curves a.tests a.at a.plan.now (omega arith) (omega arith) c.if-fields-gt7.true)

pub returns-then-plan-last : goal.returns-then-plan-last
unfolding step_outcome
returns-then-plan-last c =
    let a = c.args in
    sym (test_cut a.curves a.tests a.at a.plan.now (omega arith) (omega arith) (omega arith) c.in_ok-drops.drops.set c.in_ok-drops.drops.next
    (drops_read (goal.at.returns-then-plan-last c).In_ok-drops)
    c.in_ok-loads.loads.set c.in_ok-loads.loads.next (loads_read (goal.at.returns-then-plan-last c).In_ok-loads) c.if-plan-last.true)

pub returns-then-tests-test : goal.returns-then-tests-test
unfolding step_outcome
returns-then-tests-test c =
    let a = c.args in
    sym (test_unknown a.curves a.tests a.at a.plan.now (omega arith) (omega arith) (omega arith) c.in_ok-drops.drops.set
    c.in_ok-drops.drops.next (drops_read (goal.at.returns-then-tests-test c).In_ok-drops)
    c.in_ok-loads.loads.set c.in_ok-loads.loads.next (loads_read (goal.at.returns-then-tests-test c).In_ok-loads) (omega arith) c.if-tests-test.true)

pub returns-in_err-drops : goal.returns-in_err-drops
unfolding set_outcome step_outcome
returns-in_err-drops c =
    let a = c.args in
    let p = err_from_is_err_and c.from_residual.result c.from_residual.ensures.1 in
    rw (p.1, p.2) (sym (drops_faulty a.curves a.tests a.at a.plan.now (omega arith) (omega arith) (omega arith) _ _ (sym (c.in_err-drops.ensures a.tests))))

pub returns-in_err-loads : goal.returns-in_err-loads
unfolding set_outcome step_outcome
returns-in_err-loads c =
    let a = c.args in
    let r = c.from_residual-in_err-loads in
    let p = err_from_is_err_and r.result r.ensures.1 in
    rw (p.1, p.2) (sym (loads_faulty a.curves a.tests a.at a.plan.now (omega arith) (omega arith) (omega arith) _ _
    (drops_read (goal.at.returns-in_err-loads c).In_ok-drops) _ _ (sym (c.in_err-loads.ensures a.tests))))

pub returns : goal.returns
returns c =
    let a = c.args in
    step_whole a.curves a.tests a.at a.plan.now (omega arith) (omega arith) (omega arith) c.in_ok-drops.drops.set c.in_ok-drops.drops.next
    (drops_read (goal.at.returns c).In_ok-drops)
    c.in_ok-loads.loads.set c.in_ok-loads.loads.next (loads_read (goal.at.returns c).In_ok-loads) (omega arith) c.if-tests-test.false
