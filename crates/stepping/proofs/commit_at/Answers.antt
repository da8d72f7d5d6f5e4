-- `commit_at` meets its contract.
use mathlib.Core.Path.{◌≡◌, sym, ap, ◌∙◌}
use Rattle.job.specs.Refusal.{done, outcome}
use Rattle.stepping.specs.Stepping.{look_at, is_done}
use Rattle.stepping.proofs.Exact.{commit_next, commit_other, commit_behind}
use Rattle.stepping.proofs.commit_at.Goals.{After-is_done}
use Rattle.stepping.proofs.commit_at.Goals as goal

-- whether all is done
next_done : (c : After-is_done) → let a = c.args in
    is_done (look_at a.capacity a.held a.committed a.wants.now) ≡ c.is_done.result
next_done c = sym (c.is_done.ensures ∙ ap is_done c.look_at-next.ensures)

pub returns-then-not-is_done : goal.returns-then-not-is_done
unfolding outcome
returns-then-not-is_done c =
    let a = c.args in
    ap done c.look_at-next.ensures
    ∙ sym (commit_next a.capacity a.held a.committed a.wants.now a.position c.if-position-committed.true
    (next_done (goal.at.returns-then-not-is_done c).After-is_done ∙ c.if-not-is_done.true))

pub returns-else-not-is_done : goal.returns-else-not-is_done
unfolding outcome
returns-else-not-is_done c =
    let a = c.args in
    sym (commit_behind a.capacity a.held a.committed a.wants.now a.position (next_done (goal.at.returns-else-not-is_done c).After-is_done
    ∙ c.if-not-is_done.false))

pub returns-else-position-committed : goal.returns-else-position-committed
unfolding outcome
returns-else-position-committed c =
    let a = c.args in
    sym (commit_other a.capacity a.held a.committed a.wants.now a.position c.if-position-committed.false)
