-- WHAT IS HELD COSTS NO LOAD, and saves at most one for each of its curves: beside the plan for the same job and order from an empty drive.
use mathlib.Core.Path.{◌≡◌, ap}
use mathlib.Core.List.{List, [], ◌∷◌}
use Prim.Native.Nat.{ℕ, ◌+◌, ◌^◌, ◌≤◌, ◌<◌}
use native.Mathlib.Omega.{arith}
use lib.ListN.{length, get_or}
use Rattle.bitset.specs.Set.{◌∖◌, size, below}
use Rattle.bitset.proofs.Bits.{bitwise, bit_empty, sizes_le}
use Rattle.bitset.proofs.Parts.{◌≼◌, in_range, empty-≼}
use Rattle.job.specs.Refusal.{done}
use Rattle.job.specs.Words.{Job, capacity}
use Rattle.drive.specs.declared.Sets.{Sets}
use Rattle.drive.specs.Steps.{curve_count, load_count}
use Rattle.drive.specs.Plan.{furthest, plan_from}
use Rattle.drive.proofs.Holdings.{between, loads_for}
use Rattle.drive.proofs.Best.{furthest_least}
use Rattle.planning.specs.Plan.{in_order}
use Rattle.planning.specs.Planning.{our_plan, planning}
use Rattle.planning.proofs.Demand3.{given}
use Rattle.planning.proofs.Sequence.{known_exact, planning_parts, step_curves}

-- to hold ks in turn: with h held before, no more loads than with nothing held, and at most as many fewer as h has curves
loads_less : (h : ℕ) (ks : List ℕ) → loads_for h ks ≤ loads_for 0 ks
unfolding between curve_count
loads_less h [] = omega arith
loads_less h (k ∷ ks) = omega (arith, sizes_le (k ∖ h ∷ []) (k ∖ 0 ∷ []) (λ c. simp bitwise (omega (arith, bit_empty c))))

loads_more : (h : ℕ) (ks : List ℕ) → loads_for 0 ks ≤ size h + loads_for h ks
unfolding between curve_count
loads_more h [] = omega arith
loads_more h (k ∷ ks) = omega (arith, sizes_le (k ∖ 0 ∷ []) (h ∷ k ∖ h ∷ []) (λ c. simp bitwise (omega arith)))

-- of the rule
module _ (n capacity h : ℕ) (ws : List ℕ) (start : h < 2 ^ n) (own : (i : ℕ) → i < length ws → get_or ws i 0 < 2 ^ n) where
  abbrev loads : ℕ → ℕ
  loads g = load_count (plan_from (furthest n) capacity g ws)

  saves : (loads h ≤ loads 0) × (loads 0 ≤ size h + loads h)
  saves =
      let o : (i : ℕ) → i < length ws → get_or ws i 0 ≼ below n = λ i l. in_range n (get_or ws i 0) (own i l) in
      let a = furthest_least n capacity h (in_range n h start) ws o in
      let b = furthest_least n capacity 0 (empty-≼ (below n)) ws o in
      let x = a.reached in
      let y = b.reached in
      (omega (arith, a.least y.0 y.1, loads_less h y.0, y.2), omega (arith, b.least x.0 x.1, loads_more h x.0, x.2))

-- of planning
pub held_saves : (j : Job) (held : ℕ) (order : List ℕ) (lent : ℕ) (plan empty : List Sets) → planning j held order lent ≡ done plan
    → planning j 0 order lent ≡ done empty → (load_count plan ≤ load_count empty) × (load_count empty ≤ size held + load_count plan)
unfolding our_plan
held_saves j held order lent plan empty e f =
    let g = given j held order lent plan e in
    let a : load_count (our_plan j held order) ≡ load_count plan = ap load_count g.is in
    let b : load_count (our_plan j 0 order) ≡ load_count empty = ap load_count (given j 0 order lent empty f).is in
    let k = (planning_parts j held order g.known).0 in
    let s = saves j.rig.curves (capacity j.rig) held (in_order j.wants order) (known_exact j held order k).1 (step_curves j held order k) in
    (omega (arith, a, b, s.0), omega (arith, a, b, s.1))
