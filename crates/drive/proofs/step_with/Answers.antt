-- `step_with` meets its contract.
use Rattle.drive.proofs.step_with.Goals as goal

pub returns : goal.returns
returns c = rw (c.drops_with.ensures, c.without.ensures)
