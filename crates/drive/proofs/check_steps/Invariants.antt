-- `check_steps` meets its contract. The invariant: the whole check comes to that of the steps from i on, with what is held now.
use mathlib.Core.Path.{◌≡◌}
use lib.ListN.{drop}
use Rattle.drive.specs.Steps.{moves}
use Rattle.drive.specs.Check.{check_from}
use Rattle.drive.proofs.check_steps.Given as goal

abbrev pub invariant-loop-i : goal.invariant-loop-i
invariant-loop-i l =
    check_from l.capacity l.all 0 l.start (moves l.wants l.drops l.loads)
    ≡ check_from l.capacity l.all l.i l.held (moves (drop l.i l.wants) (drop l.i l.drops) (drop l.i l.loads))
