-- `Round::join_packages` meets its contract.
use mathlib.Core.Path.{refl, ap, ◌∙◌}
use Prim.Native.Nat.{ℕ, ◌+◌, ◌-◌, ◌≤◌}
use native.Mathlib.Omega.{arith}
use lib.ListN.{get_or, drop, length-take, length-drop}
use Rattle.std.specs.List.{sum}
use Rattle.packages.proofs.Lists as lists
use Rattle.packages.proofs.State as state
use Rattle.packages.proofs.Round.join_packages.Goals.{After-total}
use Rattle.packages.proofs.Round.join_packages.Goals as goal

-- the part of the tests that the join changes
spans : (c : After-total) → let ls =
    c.args.lengths.now in let b = get_or ls c.args.pair.second 0 in
    (c.total-from.result + (get_or ls c.args.pair.first 0 + b) ≤ c.total.result + b) × (c.total.result + b ≤ sum ls)
spans c =
    let p = lists.sum_pair c.args.lengths.now c.args.pair.first c.args.pair.second c.requires.0 c.requires.1 in
    (omega (arith, p.0, c.total-from.ensures, c.total.ensures), omega (arith, p.1, c.total.ensures))

pub slice_bounds-join_tests-end : goal.slice_bounds-join_tests-end
slice_bounds-join_tests-end c = omega (arith, spans (goal.at.slice_bounds-join_tests-end c).After-total, c.requires)

pub join_tests-requires : goal.join_tests-requires
join_tests-requires c =
    let from = c.total-from.result in
    let to = c.total.result + get_or c.args.lengths.now c.args.pair.second 0 in
    let part = length-take (to - from) (drop from c.args.order.now) in
    omega (arith, spans (goal.at.join_tests-requires c).After-total, part, length-drop from c.args.order.now, c.requires)

pub returns : goal.returns
returns c =
    let i = c.args.pair.first in
    let j = c.args.pair.second in
    let ls = c.args.lengths.now in
    let one = c.total-from in
    let two = c.total in
    let jt = c.join_tests in
    let b = get_or ls j 0 in record {
      joined = λ ps rest laid.
          state.laid_join laid i j c.requires.0 c.requires.1 (get_or ls i 0) b one.result (two.result + b) refl refl one.ensures
          (ap (λ (n : ℕ). n + b) two.ensures)
          c.args.self.now.flipping c.args.self.now.wants.now c.args.self.now.places jt.new.part _ _ jt.ensures refl c.join_entry.ensures;
      sum = ap sum c.join_entry.ensures ∙ lists.sum_joined ls i j c.requires.0 c.requires.1;
    }
