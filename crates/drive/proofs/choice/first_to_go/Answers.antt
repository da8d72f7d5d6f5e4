use Prim.Native.Nat.{ℕ, ◌≤◌, ◌<◌}
use mathlib.Core.Path.{◌≡◌, sym, ◌∙◌}
use native.Mathlib.Omega.{arith}
use borrow.Author.Rules.{rules}
use lib.Count.{count_trailing_zeros}
use Rattle.bitset.specs.Set.{bit}
use Rattle.bitset.proofs.Element.{∈-pos}
use Rattle.drive.proofs.Walk.{walk_on, walk_size, walk_end}
use Rattle.drive.proofs.choice.first_to_go.Goals as goal

pub loop-higher-smaller : goal.loop-higher-smaller
loop-higher-smaller c =
    let q = c.loop-higher in
    rw c.without_lowest-higher-in-loop-higher.ensures (omega (arith, walk_size q.higher (omega (arith, c.loop-higher-test.true)) (search rules)))

pub loop-higher-preserved : goal.loop-higher-preserved
loop-higher-preserved c =
    let q = c.loop-higher in
    record {
      walked = rw (← q.invariant.next) at (walk_on _ q.left q.invariant.walked);
      next = c.without_lowest-higher-in-loop-higher.ensures;
      some = λ p. omega (arith, c.loop-higher-test.true);
      range = search rules;
    }

pub returns : goal.returns
returns c =
    let q = c.loop-higher in
    let s = c.args.same in
    let end : 0 < s → (bit (count_trailing_zeros 64 q.left) s ≡ 1) × ((k : ℕ) → bit k s ≡ 1 → k ≤ count_trailing_zeros 64 q.left) =
    λ p. walk_end s q.left q.invariant.walked (sym q.invariant.next ∙ c.loop-higher-test.false) (q.invariant.some p) q.invariant.range in
    rw c.lowest.ensures record { member = λ p. (end p).0; highest = λ k i. (end (∈-pos k s i)).1 k i }
