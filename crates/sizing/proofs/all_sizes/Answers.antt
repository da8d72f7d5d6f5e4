-- `all_sizes` meets its contract: the examination, and then the walk.
use mathlib.Core.Path.{◌≡◌, sym, ap, ◌∙◌}
use Prim.Native.Nat.{◌≤◌}
use native.Mathlib.Omega.{arith}
use lib.ListN.{length, take}
use lib.Seq.{length-take-le}
use Rattle.std.specs.Prelude.{Ok}
use Rattle.job.specs.Refusal.{done, outcome}
use Rattle.job.specs.Calls.{sizing_known}
use Rattle.job.proofs.Laws.{refused≢done, done_same, refused_then, passed_then, handed_on}
use Rattle.every_size.specs.Sizes.{all_sizes}
use Rattle.planning.specs.Plan.{in_order}
use Rattle.sizing.specs.Sizing.{sizing}
use Rattle.sizing.proofs.EverySize.{exact, every_size}
use Rattle.sizing.proofs.Sized.{counts_taken, first_steps, sized}
use Rattle.sizing.proofs.all_sizes.Goals.{After-in_order, In_ok-examine_sizing, After-all_sizes}
use Rattle.sizing.proofs.all_sizes.Goals as goal

pub returns-in_err-examine_sizing : goal.returns-in_err-examine_sizing
unfolding sizing
returns-in_err-examine_sizing c =
    let e = c.from_residual.ensures.1 in
    let answer = refused_then _ _ _ e c.in_err-examine_sizing.ensures in
    record {
      answer = answer;
      counts = counts_taken _ _ answer;
      every = λ counts d. absurd (refused≢done (sym (handed_on _ _ e) ∙ d));
    }

-- behind the examination
passed : (c : In_ok-examine_sizing) → let a = c.args in sizing_known a.curves a.wants.now a.order.now ≡ done tt
unfolding outcome
passed c = sym c.in_ok-examine_sizing.ensures

-- the local list has an entry for each test
enough : (c : After-in_order) → length c.args.wants.now ≤ length c.in_order.new.steps
enough c =
    omega (arith, c.in_order.auto.steps, (exact _ _ _ (passed (goal.at.After-in_order c).In_ok-examine_sizing)).0.tests_bound)

pub slice_bounds-steps-end : goal.slice_bounds-steps-end
slice_bounds-steps-end c = enough (goal.at.slice_bounds-steps-end c).After-in_order

pub slice_bounds-all_sizes-end : goal.slice_bounds-all_sizes-end
slice_bounds-all_sizes-end c = sym (length-take-le _ _ (enough (goal.at.slice_bounds-all_sizes-end c).After-in_order))

-- the counts of the steps
counts : (c : After-all_sizes) → let a = c.args in c.all_sizes.result ≡ all_sizes a.curves (in_order a.wants.now a.order.now)
counts c =
    let a = c.args in
    let p = passed (goal.at.After-all_sizes c).In_ok-examine_sizing in
    sized _ _ _ p _ _ (ap (take (length a.wants.now)) c.in_order.ensures ∙ first_steps _ _ _ p _ (omega (arith, (exact _ _ _ p).0.tests_bound))) c.all_sizes.ensures

pub returns : goal.returns
unfolding outcome sizing
returns c =
    let a = c.args in
    let at = goal.at.returns c in
    let is = counts at.After-all_sizes in
    let answer = passed_then _ c.in_ok-examine_sizing.ensures (ap done is) in
    record {
      answer = answer;
      counts = counts_taken (Ok _) _ answer;
      every = λ counts d. rw (← done_same d, is) (every_size _ _ _ (passed at.In_ok-examine_sizing));
    }
