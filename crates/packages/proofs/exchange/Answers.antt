-- `packages::exchange` meets its contract: the reverse of two reversed parts.
use mathlib.Core.Path.{refl, sym, ◌∙◌}
use mathlib.Core.List.{◌++◌}
use lib.Seq.{length-take-le}
use lib.ListN.{drop}
use Rattle.packages.proofs.Lists as lists
use Rattle.packages.proofs.exchange.Goals as goal

pub slice_bounds-reverse-end-2 : goal.slice_bounds-reverse-end-2
slice_bounds-reverse-end-2 c = sym (length-take-le c.args.k c.args.xs.now c.requires)

pub returns : goal.returns
returns c =
    let a = c.args in
    let y = c.reverse.new.xs in
    let two = c.reverse-2 in
    c.reverse-3.ensures
    ∙ lists.exchanged a.xs.now (y ++ drop a.k a.xs.now) y two.new.xs a.k
    c.requires
    c.reverse.ensures refl two.ensures
