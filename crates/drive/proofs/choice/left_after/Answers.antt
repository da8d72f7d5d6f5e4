use Prim.Native.Nat.{◌<◌}
use mathlib.Core.List.{[], ◌∷◌}
use native.Mathlib.Omega.{arith}
use Rattle.bitset.specs.Set.{◌∖◌, size}
use Rattle.bitset.proofs.Bits.{bit-∖, sizes_eq}
use Rattle.bitset.proofs.Parts.{positive}
use Rattle.drive.proofs.Walk.{walk_on, walk_size}
use Rattle.drive.proofs.choice.left_after.Goals as goal

pub loop-preserved : goal.loop-preserved
loop-preserved c =
    let q = c.loop in
    let some : 0 < size q.go = omega (arith, c.size.ensures, c.loop-test.true, q.invariant.passed) in
    let fewer = walk_size q.go (positive q.go some) q.invariant.range in
    rw c.without_lowest-go.ensures
    record { walked = walk_on _ q.go q.invariant.walked; passed = omega (arith, q.invariant.passed, fewer); range = omega (arith, q.invariant.range) }

pub returns : goal.returns
returns c =
    let q = c.loop in
    let w = q.invariant.walked in
    let s = c.args.same in
    let all = sizes_eq (s ∷ []) (q.go ∷ s ∖ q.go ∷ []) (λ x. omega (arith, w.part x, bit-∖ x s q.go)) in
    rw c.without.ensures record {
      counted = omega (arith, q.invariant.passed, c.loop-test.false, q.auto.counter-end, c.size.ensures, c.requires, all);
      part = λ x. omega (arith, bit-∖ x s q.go);
      lower = λ x y i n m. let b = bit-∖ y s q.go in w.lower y x (omega arith) (omega arith) (omega (arith, bit-∖ x s q.go, w.part x));
    }
