-- `largest` meets its contract.
use mathlib.Core.Path.{ap, ◌∙◌}
use borrow.Author.Rules.{rules}
use Rattle.std.specs.Option.{unwrap_or}
use Rattle.std.proofs.lemmas.Iterator.{YieldsList-from_slice, YieldsList-from_map}
use Rattle.std.proofs.lemmas.Iterator.Consumers.{reduce_from_yields_List}
use Rattle.std.proofs.lemmas.List.Folds.{max_of_map}
use Rattle.bitset.specs.Set.{size}
use Rattle.every_size.proofs.Sizes.{largest_fold}
use Rattle.every_size.proofs.largest.Goals as goal

pub returns : goal.returns
returns c =
    let ws = c.args.wants.now in
    c.unwrap_or.ensures
    ∙ ap (λ o. unwrap_or o 0) (reduce_from_yields_List _ c.map.result _ c.max.ensures.ran
    (YieldsList-from_map _ size (YieldsList-from_slice ws cc) c.map.ensures.closure (λ x b q k. search rules))) ∙ max_of_map size ws
    ∙ largest_fold ws
