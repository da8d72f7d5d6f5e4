-- `count_curves` meets its contract.
use Rattle.std.proofs.Common.{◌≡◌, ◌∙◌, rules}
use Rattle.std.specs.List.{sum_by}
use Rattle.bitset.specs.Set.{size}
use Rattle.planning.proofs.Turns.{count_sum}
use Rattle.planning.proofs.count_curves.Goals as goal

pub returns : goal.returns
returns c = let e : c.sum.result ≡ sum_by size c.args.sets.now = search rules in e ∙ count_sum c.args.sets.now
