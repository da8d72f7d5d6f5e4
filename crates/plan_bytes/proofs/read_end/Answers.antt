-- `plan_bytes::read_end` meets its contract: one law of `Reading` a case.
use mathlib.Core.Path.{◌≡◌, sym, ◌∙◌}
use Prim.Native.Nat.{ℕ, ◌+◌}
use native.Mathlib.Omega.{arith}
use lib.ListN.{drop}
use Rattle.job.specs.Refusal.{done, outcome}
use Rattle.job.proofs.Laws.{handed_on}
use Rattle.job_bytes.specs.SetBytes.{got}
use Rattle.plan_bytes.specs.PlanBytes.{read_set}
use Rattle.plan_bytes.specs.ContractWords.{set_outcome}
use Rattle.plan_bytes.proofs.Reading.{no_end, end_other_map, end_faulty, end_surplus, end_whole}
use Rattle.plan_bytes.proofs.read_end.Goals.{In_ok-end}
use Rattle.plan_bytes.proofs.read_end.Goals as goal

pub returns-then-plan-at : goal.returns-then-plan-at
unfolding outcome
returns-then-plan-at c tests = let a = c.args in sym (no_end a.curves tests a.at a.plan.now c.if-plan-at.true)

pub returns-then-plan-at-ne1 : goal.returns-then-plan-at-ne1
unfolding outcome
returns-then-plan-at-ne1 c tests =
    let a = c.args in
    sym (end_other_map a.curves tests a.at a.plan.now (omega arith) c.if-plan-at-ne1.true)

-- the set behind the map
set_there : (c : In_ok-end) (tests : ℕ)
    → let a = c.args in
    let s = c.in_ok-end.end in
    read_set a.curves tests 1 (a.at + 1) (drop (a.at + 1) a.plan.now) ≡ done (got s.set s.next (drop s.next a.plan.now))
unfolding set_outcome
set_there c tests = sym (c.in_ok-end.ensures tests)

pub returns-then-end-plan : goal.returns-then-end-plan
unfolding outcome
returns-then-end-plan c tests =
    let a = c.args in
    sym (end_surplus a.curves tests a.at a.plan.now (omega arith) c.if-plan-at-ne1.false _ _ (set_there (goal.at.returns-then-end-plan c).In_ok-end tests)
    c.if-end-plan.true)

pub returns-in_err-end : goal.returns-in_err-end
unfolding set_outcome
returns-in_err-end c tests =
    let a = c.args in
    handed_on _ _ c.from_residual.ensures.1
    ∙ sym (end_faulty a.curves tests a.at a.plan.now (omega arith) c.if-plan-at-ne1.false _ _ (sym (c.in_err-end.ensures tests)))

pub returns : goal.returns
unfolding outcome
returns c tests =
    let a = c.args in
    sym (end_whole a.curves tests a.at a.plan.now (omega arith) c.if-plan-at-ne1.false _ _ (set_there (goal.at.returns c).In_ok-end tests) c.if-end-plan.false)
