-- `Table::fits` meets its contract: |a ∪ b| + |a ∩ b| = |a| + |b|.
use mathlib.Core.Path.{◌≡◌, ap}
use Prim.Native.Nat.{ℕ, ◌+◌, ◌-◌, ◌≤◌}
use native.Mathlib.Omega.{arith}
use lib.Dec.{leb}
use lib.ListN.{get_or}
use Rattle.bitset.specs.Set.{◌∪◌, size}
use Rattle.bitset.proofs.Laws.{size-∪-∩}
use Rattle.packages.proofs.Counts.{size_at, union_size_asks}
use Rattle.packages.proofs.Table.fits.Goals.{Start}
use Rattle.packages.proofs.Table.fits.Goals as goal

-- the sizes of the two
module _ (c : Start) where
  abbrev ours : (k : ℕ) → get_or c.args.self.now.sizes.now k 0 ≡ size (get_or c.args.self.now.curves.now k 0)
  ours = size_at c.args.self.now.curves.now c.args.self.now.sizes.now c.args.self.now.sized

  asks : let t = c.args.self.now in (get_or t.sizes.now c.args.i 0 ≤ 64) × (get_or t.sizes.now c.args.j 0 ≤ 64) × (c.args.both ≤ get_or t.sizes.now c.args.i 0)
  asks = let t = c.args.self.now in union_size_asks t.curves.now t.sizes.now t.sized t.small c.args.i c.args.j c.args.both c.requires.both

pub overflow_add-result : goal.overflow_add-result
overflow_add-result c = omega (arith, asks (goal.at.overflow_add-result c).Start)

pub overflow_sub-result : goal.overflow_sub-result
overflow_sub-result c = omega (arith, asks (goal.at.overflow_sub-result c).Start)

pub returns : goal.returns
returns c =
    let k = (goal.at.returns c).Start in
    let t = c.args.self.now in
    let x = get_or t.curves.now c.args.i 0 in
    let y = get_or t.curves.now c.args.j 0 in
    let e : get_or t.sizes.now c.args.i 0 + get_or t.sizes.now c.args.j 0 - c.args.both ≡ size (x ∪ y) =
    omega (arith, size-∪-∩ x y, ours k c.args.i, ours k c.args.j, c.requires.both) in
    ap (λ (n : ℕ). leb n t.bound) e
