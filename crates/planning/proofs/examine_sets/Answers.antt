-- `examine_sets` meets its contract.
use mathlib.Core.Path.{◌≡◌, sym, ap, ◌∙◌}
use Prim.Native.Nat.{ℕ, min}
use Rattle.job.specs.Refusal.{outcome}
use Rattle.planning.proofs.Sequence.{sets_known_lem, sets_drops, sets_loads}
use Rattle.planning.proofs.examine_sets.Goals.{then-drops-tests+else-loads-tests, else-drops-tests}
use Rattle.planning.proofs.examine_sets.Goals as goal

pub returns-then-loads-tests : goal.returns-then-loads-tests
unfolding outcome
returns-then-loads-tests c = sym (sets_known_lem _ _ _ c.if-drops-tests.true c.if-loads-tests.true)

pub returns : goal.returns
unfolding outcome
returns c =
    let a = c.args in
    let least : c.min-2.result ≡ min (min a.drops a.loads) a.tests =
    c.min-2.ensures ∙ ap (λ (x : ℕ). min x a.tests) c.min.ensures in
    rw least
    (sym (elim c.if-drops-tests.branch [
      | then-drops-tests+else-loads-tests w ↦ sets_loads a.tests a.drops a.loads w.if-drops-tests.true w.if-loads-tests.false
      | else-drops-tests w ↦ sets_drops a.tests a.drops a.loads w.if-drops-tests.false
    ]))
