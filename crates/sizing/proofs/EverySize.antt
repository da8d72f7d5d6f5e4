-- WISH 9, proved: of every list and every order of its tests.
use mathlib.Core.Path.{◌≡◌, sym, ap, ◌∙◌}
use mathlib.Core.Logic.Iff
use mathlib.Core.Logic.{◌↔◌}
use mathlib.Core.List.{List}
use Prim.Native.Nat.{ℕ, ◌-◌, ◌^◌, ◌≤◌, ◌<◌}
use native.Mathlib.Omega.{arith}
use lib.Dec.{leb}
use lib.ListN.{length, get_or}
use native.Mathlib.Decide.{dec_le}
use borrow.Author.Tests.{leb-true, le-leb}
use Rattle.bitset.specs.Set.{size}
use Rattle.job.specs.Refusal.{done, mapped}
use Rattle.job.specs.Words.{IsJob, IsOrder}
use Rattle.job.specs.Handed.{wants_fit}
use Rattle.job.specs.Calls.{planning_known, sizing_known}
use Rattle.job.proofs.Laws.{done_same, both_done, done_both, mapped_done, each_true, true_each}
use Rattle.job.proofs.Orders.{order_length}
use Rattle.job.proofs.SizingExact.{sizing_as_planning, sizing_exact}
use Rattle.drive.specs.Steps.{load_count, together}
use Rattle.drive.specs.Plan.{furthest, plan_from}
use Rattle.every_size.specs.Sizes.{largest, count_for, all_sizes}
use Rattle.every_size.proofs.LoadCounts.{too_small, large_enough, together_few, counted, unreached, marked, falling, entry_at_least, entry_reached, length_sizes, size_at}
use Rattle.every_size.proofs.LoadCounts.{serves_exact, serves_not, fewest_found, fewest_none}
use Rattle.planning.specs.declared.CountEnd.{CountEnd}
use Rattle.planning.specs.Plan.{SetLists, entries, count_end, in_order}
use Rattle.planning.specs.Planning.{our_plan, planning, plan_answer}
use Rattle.planning.proofs.Turns.{length_in_order}
use Rattle.planning.proofs.Sequence.{planning_parts, plan_done}
use Rattle.planning.proofs.Demand3.{given}
use Rattle.sizing.proofs.Reordered.{each_step, same_together, same_largest}
use Rattle.sizing.specs.Sizing.{sizing}
use Rattle.sizing.specs.EverySize.{in_drive, entry_for, EverySize}

module _ (curves : ℕ) (wants order : List ℕ) (known : sizing_known curves wants order ≡ done tt) where
  abbrev steps : List ℕ
  steps = in_order wants order

  abbrev counts : List ℕ
  counts = all_sizes curves steps

  pub exact : IsJob (in_drive 64 curves wants) × IsOrder (length wants) order
  exact = (sizing_exact 64 curves wants order (omega arith) (omega arith)).0 known

  -- ---- the steps: sets of at most 64 curves, at most 256 of them

  pub few : curves ≤ 64
  few = exact.0.curves_bounds.1

  pub own : (i : ℕ) → i < length steps → get_or steps i 0 < 2 ^ curves
  own = (each_step wants order exact.1 (λ w. w < 2 ^ curves)).1 exact.0.own_curves

  pub long : length steps ≡ length wants
  long = length_in_order wants order ∙ order_length (length wants) order exact.1

  pub short : length steps ≤ 256
  short = omega (arith, long, exact.0.tests_bound)

  together_same : together steps ≡ together wants
  together_same = same_together wants order exact.1

  -- ---- beside planning
  module _ (p : ℕ) (lent : SetLists) (a : CountEnd) (e : plan_answer (in_drive p curves wants) 0 order lent ≡ done a) where
    abbrev plan_count : ℕ
    plan_count = load_count (plan_from (furthest curves) p 0 steps)

    -- the size is large enough, and the count is that of our plan
    as_planned : (largest steps ≤ p) × (a.count ≡ plan_count)
    unfolding plan_answer our_plan wants_fit
    as_planned =
        let j = in_drive p curves wants in
        let z : p - 0 ≡ p = omega arith in
        let d = mapped_done (count_end 0) (planning j 0 order (entries lent)) a e in
        let g = given j 0 order (entries lent) d.0 d.1 in
        let f = (planning_parts j 0 order g.known).1 in
        let fit : largest wants ≤ p = (large_enough wants p).1 (λ t l. leb-true _ p (each_true (λ w. leb (size w) p) 7 0 wants (rw z at f) t l)) in
        let is : plan_count ≡ load_count d.0 = rw z at (ap load_count g.is) in
        (omega (arith, fit, same_largest wants order exact.1), ap (λ (x : CountEnd). x.count) (sym d.2) ∙ sym is)

  -- ---- the entries
  module _ (p : ℕ) (some : 1 ≤ p) (most : p ≤ 64) where
    entry : entry_for counts p ≡ count_for curves steps p
    entry = size_at curves steps p some most

    too_large : entry_for counts p ≡ 65535 ↔ ((t : ℕ) × (t < length wants) × (p < size (get_or wants t 0)))
    too_large = rw entry (Iff.trans (marked curves steps own few short p) (rw (same_largest wants order exact.1) (too_small wants p)))

    single : (lent : SetLists) (a : CountEnd) → plan_answer (in_drive p curves wants) 0 order lent ≡ done a → entry_for counts p ≡ a.count
    single lent a e = let c = as_planned p lent a e in entry ∙ counted curves steps own p c.0 ∙ sym c.1

    -- a size that is not marked is planned
    module _ (unmarked : entry_for counts p ≡ 65535 → ⊥) (lent : SetLists) (room : length wants ≤ entries lent) where
      fits : (t : ℕ) → t < length wants → Dec (size (get_or wants t 0) ≤ p) → size (get_or wants t 0) ≤ p
      fits t l (yes h) = h
      fits t l (no h) = absurd (unmarked (too_large.1 (t, l, omega arith)))

      asked : planning_known (in_drive p curves wants) 0 order ≡ done tt
      unfolding wants_fit
      asked =
          sizing_as_planning p curves wants order some most ∙ done_both _ _ known
          ∙ true_each (λ w. leb (size w) p) 7 0 wants (λ t l. le-leb _ p (fits t l (dec_le _ p)))

      planned : (a : CountEnd) × (plan_answer (in_drive p curves wants) 0 order lent ≡ done a) × (a.count ≡ entry_for counts p)
      unfolding plan_answer mapped
      planned =
          let j = in_drive p curves wants in
          let e : plan_answer j 0 order lent ≡ done (count_end 0 (our_plan j 0 order)) =
          ap (mapped (count_end 0)) (plan_done j 0 order (entries lent) asked room) in
          (count_end 0 (our_plan j 0 order), e, sym (single lent _ e))

  pub every_size : EverySize curves wants order counts
  every_size =
      record {
        sizes = length_sizes curves steps;
        single = single;
        planned = planned;
        marked = too_large;
        unreached = λ p some most lent a e. omega (arith, (as_planned p lent a e).1, unreached curves steps own few short p);
        falling = λ p q some l most. rw (entry p some (omega arith), entry q (omega arith) most) (falling curves steps own few short p q l);
        at_least = λ p some most. rw (entry p some most, ← together_same) (entry_at_least curves steps own few short p);
        reached =
            entry 64 (omega arith) (omega arith) ∙ entry_reached curves steps own few short 64 (omega (arith, few, together_few curves steps own))
            ∙ ap size together_same;
        serving = λ loads p e.
            let r = fewest_found loads counts p e in
            let s = (serves_exact loads (entry_for counts p)).0 r.1.it in
            (r.0, omega (arith, r.1.within, length_sizes curves steps), s.0, s.1);
        fewest = λ loads p e q some l. serves_not loads (entry_for counts q) ((fewest_found loads counts p e).1.before (q - 1) (omega arith));
        none = λ loads. rw (← together_same) (fewest_none curves steps own few short loads);
      }

-- EVERY DRIVE SIZE TOGETHER
pub sizes_exact : (curves : ℕ) (wants order counts : List ℕ) → sizing curves wants order ≡ done counts → EverySize curves wants order counts
unfolding sizing
sizes_exact curves wants order counts e =
    let a = both_done (sizing_known curves wants order) _ counts e in
    rw (← (done_same a.1)) (every_size curves wants order a.0)
