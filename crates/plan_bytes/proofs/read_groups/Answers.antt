use mathlib.Core.Path.{◌≡◌, sym, subst, ◌∙◌}
use native.Mathlib.Omega.{arith}
use Rattle.bitset.specs.Set.{bit}
use Rattle.job_bytes.proofs.GroupByte.{Answers}
use Rattle.job_bytes.proofs.Turns.{groups_end}
use Rattle.plan_bytes.specs.ContractWords.{set_outcome}
use Rattle.plan_bytes.proofs.Reading.{group_read, group_faulty}
use Rattle.plan_bytes.proofs.read_groups.Goals as goal

pub returns-in-Err : goal.returns-in-Err
unfolding set_outcome
returns-in-Err c =
    let l = c.loop-j in
    let a = c.args in
    let f = subst (Answers a.plan.now l.next (bit l.j a.groups) l.j a.curves) c.in-Err.is c.read_due.ensures in
    sym (l.invariant.1 ∙ group_faulty a.curves a.groups l.set l.next l.j a.plan.now c.requires.0 c.loop-j-test.true _ f)

pub loop-j-preserved : goal.loop-j-preserved
loop-j-preserved c =
    let l = c.loop-j in
    let a = c.args in
    let f = subst (Answers a.plan.now l.next (bit l.j a.groups) l.j a.curves) c.in-Ok.is c.read_due.ensures in
    let t = group_read a.curves a.groups l.set l.next l.j a.plan.now c.requires.0 c.loop-j-test.true c.in-Ok.group l.invariant.0 f in
    (t.0, l.invariant.1 ∙ t.1)

pub returns : goal.returns
unfolding set_outcome
returns c =
    let l = c.loop-j in
    let a = c.args in
    let e : l.j ≡ 8 = omega arith in
    sym (l.invariant.1 ∙ rw e (groups_end 11 11 11 a.curves a.groups l.set l.next (lib.ListN.drop l.next a.plan.now)))
