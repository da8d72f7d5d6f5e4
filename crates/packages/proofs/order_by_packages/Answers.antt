-- `packages::order_by_packages` meets its contract.
use mathlib.Core.Path.{◌≡◌, sym, ap, ◌∙◌}
use mathlib.Core.Bool.{false}
use mathlib.Core.List.{List, ◌++◌}
use Prim.Native.Nat.{ℕ, ◌≤◌}
use native.Mathlib.Omega.{arith}
use lib.Seq.{length-take-le, length_front, take-append-le}
use lib.ListN.{length, take, drop, replicate}
use Rattle.std.specs.List.{sum}
use Rattle.packages.specs.ContractWords.{round_of}
use Rattle.packages.proofs.Lists as lists
use Rattle.packages.proofs.State as state
use Rattle.packages.proofs.order_by_packages.Goals.{After-join_all-left}
use Rattle.packages.proofs.order_by_packages.Goals as goal

abbrev ones : List ℕ
ones = replicate 256 1

-- ---- after the first round: the lists of lengths and curves as they came back, and what is left of them
abbrev tests : After-join_all-left → ℕ
tests c = length c.args.wants.now

abbrev lengths : After-join_all-left → List ℕ
lengths c = c.join_all-left.new.lengths

abbrev curves : After-join_all-left → List ℕ
curves c = c.join_all-left.new.curves

one_each : (c : After-join_all-left) → length (take (tests c) ones) ≡ tests c
one_each c = length-take-le (tests c) ones c.requires.0

first_long : (c : After-join_all-left) → length (take (tests c) c.first_curves-curves.result) ≡ tests c
first_long c =
    let fc = c.first_curves-curves in
    length-take-le (tests c) fc.result (omega
    (arith, fc.ensures.0, c.requires))

left_few : (c : After-join_all-left) → c.join_all-left.result ≤ tests c
left_few c = omega (arith, c.join_all-left.ensures.left.0, one_each c)

all_lengths : (c : After-join_all-left) → length (lengths c ++ drop (tests c) ones) ≡ 256
all_lengths c = length_front ones (lengths c) (tests c) c.join_all-left.auto.lengths

all_curves_lem : (c : After-join_all-left) → length (curves c ++ drop (tests c) c.first_curves-curves.result) ≡ 256
all_curves_lem c =
    let fc = c.first_curves-curves in
    length_front fc.result (curves c) (tests c) c.join_all-left.auto.curves ∙ fc.ensures.0

lengths_left : (c : After-join_all-left) → take c.join_all-left.result (lengths c ++ drop (tests c) ones) ≡ take c.join_all-left.result (lengths c)
lengths_left c = take-append-le c.join_all-left.result (lengths c) _ (omega (arith, left_few c, c.join_all-left.auto.lengths, one_each c))

curves_left : (c : After-join_all-left)
    → take c.join_all-left.result (curves c ++ drop (tests c) c.first_curves-curves.result) ≡ take c.join_all-left.result (curves c)
curves_left c = take-append-le c.join_all-left.result (curves c) _ (omega (arith, left_few c, c.join_all-left.auto.curves, first_long c))

pub join_all-left-requires : goal.join_all-left-requires
join_all-left-requires c =
    let n = length c.args.wants.now in
    let fc = c.first_curves-curves in
    let one = length-take-le n ones c.requires.0 in
    let sum = lists.sum_ones n 256 c.requires.0 in (
      omega (arith, one, c.requires),
      length-take-le n fc.result (omega (arith, fc.ensures.0, c.requires)) ∙ sym one,
      omega (arith, sum, c.requires),
      omega (arith, sum, c.requires, c.as_listed.auto.order),
    )

pub join_all-requires : goal.join_all-requires
join_all-requires c =
    let j = (goal.at.join_all-requires c).After-join_all-left in
    let r = c.join_all-left.result in
    let few = left_few j in
    let ls = length-take-le r (lengths j ++ drop (tests j) ones) (omega (arith, all_lengths j, few, c.requires)) in
    let cs = length-take-le r (curves j ++ drop (tests j) c.first_curves-curves.result)
    (omega (arith, all_curves_lem j, few, c.requires)) in
    let sum = ap sum (lengths_left j) ∙ c.join_all-left.ensures.left.1 ∙ lists.sum_ones (tests j) 256 c.requires.0 in (
      omega (arith, ls, few, c.requires),
      cs ∙ sym ls,
      omega (arith, sum, c.requires),
      omega (arith, sum, c.requires, c.join_all-left.auto.order, c.as_listed.auto.order),
    )

pub returns : goal.returns
returns c =
    let j = (goal.at.returns c).After-join_all-left in
    let ws = c.args.wants.now in
    let old = c.args.order.now in
    let n = length ws in
    let rest = drop n old in
    let listed = c.as_listed in
    let one = c.join_all-left.ensures.round (state.first_packages ws) rest
    (state.first_laid ws rest listed.new.order _ (state.listed_first n old _ listed.ensures) (lists.take_same 1 n 256 c.requires.0))
    (c.first_curves-curves.ensures.1 ∙ state.first_sets ws) in
    let two = c.join_all.ensures.round (round_of false ws c.args.places (state.first_packages ws)) rest
    (record { all = one.0.all; lens = lengths_left j ∙ one.0.lens }) (curves_left j ∙ one.1) in
    state.both_rounds ws c.args.places old _ _ two.0
