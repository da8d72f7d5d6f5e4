-- `all_sizes` meets its contract: the loads by slots are those of the single plans.
use mathlib.Core.Path.{◌≡◌, ap, ◌∙◌}
use mathlib.Core.List.{List}
use Prim.Native.Nat.{ℕ, ◌-◌, ◌≤◌, min}
use native.Mathlib.Omega.{arith}
use borrow.Author.Rules.{rules}
use lib.Dec.{leb}
use lib.ListN.{length, get_or, take, drop}
use Rattle.drive.specs.Steps.{load_count}
use Rattle.drive.specs.Plan.{furthest, plan_from}
use Rattle.every_size.specs.Sizes.{largest, or_mark, count_for, all_sizes}
use Rattle.every_size.specs.ContractWords.{sum}
use Rattle.every_size.proofs.Sizes.{sizes_by, take_min}
use Rattle.every_size.proofs.all_sizes.Goals as goal

counted : (ws loads counts : List ℕ) (most : ℕ) → most ≡ largest ws → length counts ≡ 64
    → ((p : ℕ) → 1 ≤ p → p ≤ 64 → sum (drop p loads) ≡ load_count (plan_from (furthest 64) p 0 ws))
    → ((p : ℕ) → 1 ≤ p → p ≤ 64 → get_or counts (p - 1) 0 ≡ or_mark (leb most p) (sum (drop p loads))) → counts ≡ all_sizes 64 ws
unfolding count_for
counted ws loads counts most e long sums made =
    sizes_by 64 ws counts long (λ p o m. made p o m ∙ ap (or_mark (leb most p)) (sums p o m)
    ∙ ap (λ (n : ℕ). or_mark (leb n p) (load_count (plan_from (furthest 64) p 0 ws))) e)

pub returns : goal.returns
returns c =
    let w = c.args.wants.now in
    let end = c.min.result in
    let short : end ≡ min 256 (length w) = omega (arith, c.min.ensures) in
    let first : take end w ≡ take 256 w = ap (λ (n : ℕ). take n w) short ∙ take_min 256 w in
    counted (take end w) _ _ _ c.largest.ensures (search rules) c.loads_by_slot-loads.ensures.counted c.entries.ensures ∙ ap (all_sizes 64) first
