use mathlib.Core.Path.{sym, ◌∙◌}
use Rattle.drive.proofs.Turns.{check_breaks, check_goes, check_end}
use Rattle.drive.proofs.check_steps.Goals as goal

pub returns-then-not-keeps : goal.returns-then-not-keeps
returns-then-not-keeps c =
    let a = c.args in
    let q = c.loop-i in
    sym (q.invariant
    ∙ check_breaks a.capacity a.all q.held q.i a.wants.now a.drops.now a.loads.now _ _ _ c.loop-i-test.true c.entry.ensures c.entry-in-loop-i.ensures
    c.keeps.ensures c.if-not-keeps.true)

pub loop-i-preserved : goal.loop-i-preserved
loop-i-preserved c =
    let a = c.args in
    let q = c.loop-i in
    rw c.moved-held.ensures (q.invariant
    ∙ check_goes a.capacity a.all q.held q.i a.wants.now a.drops.now a.loads.now _ _ _ c.loop-i-test.true c.entry.ensures c.entry-in-loop-i.ensures
    c.keeps.ensures c.if-not-keeps.false)

pub returns : goal.returns
returns c =
    let a = c.args in
    let q = c.loop-i in
    sym (q.invariant ∙ check_end a.capacity a.all q.held q.i a.wants.now _ _ c.loop-i-test.false)
