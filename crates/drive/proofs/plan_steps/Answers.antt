use mathlib.Core.Path.{◌≡◌, refl, sym, ap, ◌∙◌}
use Prim.Native.Nat.{ℕ, ◌+◌, ◌≤◌, ◌<◌}
use mathlib.Core.List.{List}
use native.Mathlib.Omega.{arith}
use borrow.Author.Rules.{rules, part_to_end}
use lib.ListN.{length, get_or, drop, set, length-set, length-map}
use lib.Seq.{get_or-set_other}
use Rattle.drive.specs.Steps.{loads_of}
use Rattle.drive.specs.Plan.{furthest, plan_from}
use Rattle.drive.specs.Steps.{together}
use Rattle.drive.proofs.Moves.{length_plan}
use Rattle.drive.proofs.Turns.{goes_on, goes_end, sets_over}
use Rattle.drive.proofs.plan_steps.Goals as goal

pub loop-i-init : goal.loop-i-init
loop-i-init c =
    record {
      ahead = λ j l h m. c.write_later.ensures.by_index j h (omega (arith, c.write_later.auto.list));
      goes = record { long_drops = refl; long_loads = refl; ends = refl; dropped = refl; loaded = refl };
    }

pub step_with-sets-requires : goal.step_with-sets-requires
step_with-sets-requires c u e =
    let q = c.loop-i in
    let h : (q.i < length q.loads) × (get_or q.loads q.i 0 ≡ u) = search rules in
    sym h.1 ∙ q.invariant.ahead q.i (omega arith) c.loop-i-test.true h.0 ∙ ap together (sym (part_to_end c.args.wants.now (q.i + 1)))

-- the entries behind step i are not written yet
ahead_too : (wants loads : List ℕ) (i u : ℕ) → ((j : ℕ) → i ≤ j → j < length wants → j < length loads → get_or loads j 0 ≡ together (drop (j + 1) wants))
    → (j : ℕ) → i + 1 ≤ j → j < length wants → j < length (set loads i u) → get_or (set loads i u) j 0 ≡ together (drop (j + 1) wants)
ahead_too wants loads i u old j l h m = get_or-set_other loads i j u 0 (λ e. omega arith) ∙ old j (omega arith) h (omega (arith, length-set loads i u))

pub loop-i-preserved : goal.loop-i-preserved
loop-i-preserved c =
    let q = c.loop-i in
    let a = c.args in
    let w = a.wants.now in
    let t = c.step_with-sets in
    let e = rw (part_to_end w (q.i + 1)) at t.ensures in
    record {
      ahead = rw c.put-in-loop-i.ensures (ahead_too w q.loads q.i t.result.loads q.invariant.ahead);
      goes = rw (c.put.ensures, c.put-in-loop-i.ensures, c.moved-held.ensures) (goes_on _ _ _ _ _ _ q.invariant.goes c.loop-i-test.true e);
    }

pub returns : goal.returns
returns c =
    let a = c.args in
    let l = c.write_later in
    let g = goes_end _ _ _ _ _ _ c.loop-i.invariant.goes c.loop-i-test.false in
    let ss = plan_from (furthest 64) a.capacity a.start a.wants.now in
    let n : length (loads_of ss) ≡ length a.wants.now =
    length-map ss (λ s. s.loads) ∙ length_plan (furthest 64) a.capacity a.start a.wants.now in
    let over = sets_over (loads_of ss) _ a.loads.now 0 l.auto.list (λ j h. absurd (omega arith)) (λ j h. l.ensures.by_index_2 j (omega arith)) in
    record { ends = g.0; dropped = g.1.0; loaded = g.1.1 ∙ over }
