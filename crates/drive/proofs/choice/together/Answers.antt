-- `together` meets its contract.
use mathlib.Core.Path.{◌≡◌, ◌∙◌}
use Prim.Native.Nat.{ℕ}
use borrow.Author.Rules.{rules}
use Rattle.std.specs.List.{fold}
use Rattle.bitset.specs.Set.{◌∪◌}
use Rattle.drive.proofs.Turns.{together_folded}
use Rattle.drive.proofs.choice.together.Goals as goal

pub returns : goal.returns
returns c =
    let ws = c.args.wants.now in
    let e : c.fold.result ≡ fold (λ (a w : ℕ). a ∪ w) 0 ws = search rules in
    e ∙ together_folded ws
