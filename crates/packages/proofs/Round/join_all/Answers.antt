use mathlib.Core.Path.{◌≡◌, sym, ap, ◌∙◌, subst}
use mathlib.Core.List.{List, ◌++◌, map}
use Prim.Native.Nat.{ℕ, ◌-◌, ◌≤◌, ◌<◌}
use native.Mathlib.Omega.{arith}
use lib.Seq.{length-take-le, length_front}
use lib.ListN.{length, take, drop, length-take}
use Rattle.bitset.specs.Set.{size}
use Rattle.std.specs.List.{sum}
use Rattle.packages.specs.ContractWords.{Laid, AllRated}
use Rattle.packages.specs.declared.Rating.{Rating}
use Rattle.packages.proofs.Renew as renew
use Rattle.packages.proofs.State as state
use Rattle.packages.proofs.Round.join_all.Goals.{At-loop-pair, In-Some}
use Rattle.packages.proofs.Round.join_all.Goals as goal

module _ (c : At-loop-pair) where
  few : c.loop-pair.left ≤ 256
  few = omega (arith, c.loop-pair.invariant.few, c.requires)

  lengths_long : length (take c.loop-pair.left c.loop-pair.lengths) ≡ c.loop-pair.left
  lengths_long = length-take-le c.loop-pair.left c.loop-pair.lengths (omega (arith, c.loop-pair.invariant.few, c.loop-pair.invariant.long_lengths))

  curves_long : length (take c.loop-pair.left c.loop-pair.curves) ≡ c.loop-pair.left
  curves_long = length-take-le c.loop-pair.left c.loop-pair.curves (omega (arith, c.loop-pair.invariant.few, c.loop-pair.invariant.long_curves))

  ratings_long : length (take c.loop-pair.left c.loop-pair.ratings) ≡ c.loop-pair.left
  ratings_long = length-take-le c.loop-pair.left c.loop-pair.ratings (omega (arith, few, c.loop-pair.invariant.long_ratings))

-- where there is a pair: the ratings as `closest` left them, and the places of the pair
module _ (c : In-Some) where
  abbrev turn : At-loop-pair
  turn = (goal.at.In-Some c).At-loop-pair

  abbrev back : List Rating
  back = c.closest.new.ratings ++ drop c.loop-pair.left c.loop-pair.ratings

  back_all : length back ≡ 256
  back_all = length_front c.loop-pair.ratings c.closest.new.ratings c.loop-pair.left c.closest.auto.ratings ∙ c.loop-pair.invariant.long_ratings

  back_long : length (take c.loop-pair.left back) ≡ c.loop-pair.left
  back_long = length-take-le c.loop-pair.left back (omega (arith, back_all, few turn))

  in_order : let r = c.in-Some.pair in (r.first < r.second) × (r.second < c.loop-pair.left)
  in_order =
      let q = c.loop-pair in
      let r = c.in-Some.pair in
      let o = state.in_order _ (take q.left q.curves) r.first r.second c.in-Some.ensures.pair in
      (o.0, omega (arith, o.1, curves_long turn))

pub returns-in_default-clause-round : goal.returns-in_default-clause-round
returns-in_default-clause-round c = λ ps rest laid sets.
    state.left_end (c.loop-pair.invariant.goes ps rest laid sets) c.args.self.now.small _ c.bound-bound.ensures c.in_default.ensures.pair

pub join_packages-requires : goal.join_packages-requires
join_packages-requires c =
    let o = in_order (goal.at.join_packages-requires c).In-Some in
    let k = (goal.at.join_packages-requires c).At-loop-pair in
    let v = c.loop-pair.invariant in
    (o.0, omega (arith, o.1, lengths_long k), omega (arith, v.sums, c.requires), omega (arith, v.sums, v.long_order, c.requires))

pub join_curves-requires-clause-first_lt_second : goal.join_curves-requires-clause-first_lt_second
join_curves-requires-clause-first_lt_second c =
    let k = (goal.at.join_curves-requires-clause-first_lt_second c).In-Some in
    let e = curves_long (turn k) in
    ((in_order k).0, omega (arith, (in_order k).1, e), back_long k ∙ sym e)

pub loop-pair-preserved : goal.loop-pair-preserved
loop-pair-preserved c =
    let k = (goal.at.loop-pair-preserved c).In-Some in
    let q = c.loop-pair in
    let v = q.invariant in
    let n = q.left in
    let r = c.in-Some.pair in
    let jp = c.join_packages in
    let jc = c.join_curves in
    let ls = jp.new.lengths in
    let cs = jc.new.curves in
    let rs = jc.new.ratings in
    let m = length (take n q.curves) in
    let e = curves_long (turn k) in
    let lens = state.prefix_back q.lengths ls n _ (lengths_long (turn k)) (omega (arith, v.few, v.long_lengths)) jp.auto.lengths in
    let sets = state.prefix_back q.curves cs n m e (omega (arith, v.few, v.long_curves)) jc.auto.curves in
    let some = state.prefix_back q.sizes jc.new.sizes n m e (omega (arith, few (turn k), v.long_sizes)) jc.auto.sizes in
    record {
      few = omega (arith, v.few);
      long_order = jp.auto.order ∙ v.long_order;
      long_lengths = length_front q.lengths ls n jp.auto.lengths ∙ v.long_lengths;
      long_curves = length_front q.curves cs n jc.auto.curves ∙ v.long_curves;
      long_sizes = length_front q.sizes jc.new.sizes n jc.auto.sizes ∙ v.long_sizes;
      long_ratings = length_front (back k) rs n jc.auto.ratings ∙ back_all k;
      sums = ap sum lens ∙ jp.ensures.sum ∙ v.sums;
      small = renew.small_front (cs ++ drop n q.curves) (n - 1) (λ i. (c.type_inv.curves i).fits);
      sized = some ∙ jc.ensures.sized ∙ ap (map size) (sym sets);
      best = subst (λ (l : List ℕ). AllRated c.bound-bound.result l (take (n - 1) (rs ++ drop n (back k)))) (sym sets)
          (renew.front_rated _ (take (m - 1) cs) rs (drop n (back k)) (n - 1) (omega (arith, jc.auto.ratings, back_long k))
          (omega (arith, e, length-take (m - 1) cs)) jc.ensures.rated);
      goes = λ ps rest laid first.
          state.left_join (v.goes ps rest laid first) c.args.self.now.small _ c.bound-bound.ensures r.first r.second c.in-Some.ensures.pair
          _ _ _ (λ qs more l. subst (Laid _ more _) (sym lens) (jp.ensures.joined qs more l)) (sets ∙ jc.ensures.sets);
    }

pub overflow_sub-left : goal.overflow_sub-left
overflow_sub-left c = omega (arith, in_order (goal.at.overflow_sub-left c).In-Some)

pub loop-pair-smaller : goal.loop-pair-smaller
loop-pair-smaller c = omega (arith, in_order (goal.at.loop-pair-smaller c).In-Some)

pub invariant_of-table-in-loop-pair : goal.invariant_of-table-in-loop-pair
invariant_of-table-in-loop-pair c =
    let k = (goal.at.invariant_of-table-in-loop-pair c).At-loop-pair in
    record { few = omega (arith, curves_long k, few k); small = c.loop-pair.invariant.small; sized = c.loop-pair.invariant.sized }
