-- `packages::join_curves` meets its contract.
use mathlib.Core.Path.{◌≡◌, sym, subst}
use mathlib.Core.List.{List, map}
use Prim.Native.Nat.{ℕ, ◌-◌, ◌^◌, ◌<◌}
use native.Mathlib.Omega.{arith}
use lib.Seq.{length-take-le}
use lib.ListN.{length, get_or, take}
use Rattle.bitset.specs.Set.{size}
use Rattle.packages.proofs.Counts.{sizes_joined}
use Rattle.packages.proofs.Renew as renew
use Rattle.packages.proofs.join_curves.Goals.{After-join_entry-2}
use Rattle.packages.proofs.join_curves.Goals as goal

-- the curves and the sizes after the join
module _ (c : After-join_entry-2) where
  abbrev left : ℕ
  left = length c.args.curves.now - 1

  abbrev sets : List ℕ
  sets = take left c.join_entry.new.xs

  sized : take left c.join_entry-2.new.xs ≡ map size sets
  sized =
      let a = c.args in
      let j = c.join_entry-2 in
      sizes_joined a.curves.now a.sizes.now c.requires.sized_2.1 a.pair.first a.pair.second _ _ sets j.new.xs
      c.size.ensures c.join_entry.ensures j.ensures

  long : length sets ≡ left
  long = length-take-le left c.join_entry.new.xs (omega (arith, c.join_entry.auto.xs))

pub invariant_of-table : goal.invariant_of-table
invariant_of-table c =
    let k = (goal.at.invariant_of-table c).After-join_entry-2 in
    let a = c.args in
    let p = c.requires.first_lt_second in
    record {
      few = omega (arith, long k, c.requires.sized_2.0);
      small = λ n.
          subst (λ (l : List ℕ). get_or l n 0 < 2 ^ 64) (sym c.join_entry.ensures)
          (renew.joined_small a.curves.now a.pair.first a.pair.second c.union-joined.result (omega (arith, p)) (omega (arith, p)) c.requires.small
          c.union-joined.type_inv n);
      sized = sized k;
    }
