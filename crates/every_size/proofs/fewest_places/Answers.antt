-- `fewest_places` meets its contract.
use mathlib.Core.Path.{◌≡◌, ap, ◌∙◌}
use Prim.Native.Nat.{ℕ, ◌+◌}
use borrow.Author.Rules.{rules}
use Rattle.std.specs.List.{position_from}
use Rattle.std.specs.Option.{option_map}
use Rattle.std.proofs.lemmas.Iterator.{YieldsList-from_slice}
use Rattle.std.proofs.lemmas.Iterator.Adapters.{position_from-zero}
use Rattle.std.proofs.lemmas.Iterator.Search.{position_from_yields_List}
use Rattle.every_size.specs.Sizes.{serves, size_found}
use Rattle.every_size.proofs.Sizes.{fewest_position}
use Rattle.every_size.proofs.fewest_places.Goals as goal

pub returns : goal.returns
returns c =
    let xs = c.args.entries.now in
    let test = serves c.args.loads in
    let at : c.position.result ≡ position_from test 0 xs =
    position_from_yields_List test _ _ _ c.position.ensures.ran (YieldsList-from_slice xs c.iter.ensures.rest) (λ x b q k. search rules)
    ∙ position_from-zero test xs in
    let places : c.map.result ≡ option_map (λ (i : ℕ). i + 1) c.position.result = search rules in
    ap size_found (places ∙ ap (option_map (λ (i : ℕ). i + 1)) at) ∙ fewest_position c.args.loads 0 xs
