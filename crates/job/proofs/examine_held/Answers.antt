-- `job::examine_held` meets its contract.
use mathlib.Core.Path.{◌≡◌, sym, ap, ◌∙◌}
use Prim.Native.Nat.{ℕ}
use native.Mathlib.Nat.{min-eq_left}
use lib.Count.{count_trailing_zeros}
use borrow.Author.Tests.{eq-eqb, ne_eqb}
use Rattle.bitset.specs.Set.{◌∖◌, inside, below}
use Rattle.job.specs.Refusal.{outcome}
use Rattle.job.specs.Handed.{all_curves, held_known}
use Rattle.job.proofs.Laws.{demand_done, demand_refused}
use Rattle.job.proofs.examine_held.Goals.{After-without-unknown}
use Rattle.job.proofs.examine_held.Goals as goal

-- what is held of curves that the job lacks
unknown : (c : After-without-unknown) → let a = c.args in c.without-unknown.result ≡ a.held ∖ all_curves a.curves
unknown c =
    let a = c.args in
    let own : c.below.result ≡ all_curves a.curves = c.below.ensures ∙ ap below (min-eq_left c.requires) in
    c.without-unknown.ensures ∙ ap (λ (x : ℕ). a.held ∖ x) own

pub returns-then-unknown-eq0 : goal.returns-then-unknown-eq0
unfolding outcome held_known inside
returns-then-unknown-eq0 c =
    sym (demand_done _ 14 _ (eq-eqb _ 0 (sym (unknown (goal.at.returns-then-unknown-eq0 c).After-without-unknown) ∙ c.if-unknown-eq0.true)))

pub returns : goal.returns
unfolding outcome held_known inside
returns c =
    let lowest : c.lowest.result ≡ count_trailing_zeros 64 c.without-unknown.result = c.lowest.ensures in
    rw (lowest ∙ ap (count_trailing_zeros 64) (unknown (goal.at.returns c).After-without-unknown))
    (sym (demand_refused _ 14 _ (ne_eqb _ 0 (λ e. c.if-unknown-eq0.false (unknown (goal.at.returns c).After-without-unknown ∙ e)))))
