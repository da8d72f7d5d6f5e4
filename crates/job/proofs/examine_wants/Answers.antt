use mathlib.Core.Path.{◌≡◌, sym, ap, ◌∙◌}
use lib.ListN.{get_or}
use native.Mathlib.Nat.{min-eq_left}
use Rattle.bitset.specs.Set.{inside, below}
use Rattle.job.specs.Refusal.{outcome}
use Rattle.job.specs.Handed.{all_curves, wants_known}
use Rattle.job.proofs.Laws.{each_pass, each_fail, each_end}
use Rattle.job.proofs.examine_wants.Goals.{After-inside}
use Rattle.job.proofs.examine_wants.Goals as goal

-- the curves below the number of curves, which is at most 64
own : (c : After-inside) → inside (get_or c.args.wants.now c.loop-t.t 0) (all_curves c.args.curves) ≡ c.inside.result
own c =
    let all = c.below-all.ensures ∙ ap below (min-eq_left c.requires.0) in
    ap (inside (get_or c.args.wants.now c.loop-t.t 0)) (sym all) ∙ sym c.inside.ensures

pub returns-then-not-inside : goal.returns-then-not-inside
unfolding outcome wants_known
returns-then-not-inside c =
    let o = own (goal.at.returns-then-not-inside c).After-inside in
    sym (c.loop-t.invariant
    ∙ each_fail (λ w. inside w (all_curves c.args.curves)) 10 4 c.args.wants.now c.loop-t.t c.loop-t-test.true (o ∙ c.if-not-inside.true))

pub loop-t-preserved : goal.loop-t-preserved
loop-t-preserved c =
    let o = own (goal.at.loop-t-preserved c).After-inside in
    c.loop-t.invariant
    ∙ each_pass (λ w. inside w (all_curves c.args.curves)) 10 4 c.args.wants.now c.loop-t.t c.loop-t-test.true (o ∙ c.if-not-inside.false)

pub returns : goal.returns
unfolding outcome wants_known
returns c =
    sym (c.loop-t.invariant ∙ each_end (λ w. inside w (all_curves c.args.curves)) 10 4 c.args.wants.now c.loop-t.t c.loop-t-test.false)
