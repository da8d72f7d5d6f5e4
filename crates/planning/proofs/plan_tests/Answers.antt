-- `plan_tests` meets its contract: what is asked of the lists, and then the steps.
use mathlib.Core.Path.{◌≡◌, sym, ap, ◌∙◌}
use native.Mathlib.Omega.{arith}
use lib.ListN.{length, take}
use lib.Seq.{length-take-le}
use Rattle.lists.proofs.Overwritten.{sets_front}
use Rattle.job.specs.Refusal.{outcome}
use Rattle.planning.specs.Plan.{set_lists, in_order}
use Rattle.planning.proofs.Turns.{length_in_order}
use Rattle.planning.proofs.Planned.{too_many, too_short, planned}
use Rattle.planning.proofs.plan_tests.Goals.{After-in_order, After-plan_steps-end}
use Rattle.planning.proofs.plan_tests.Goals as goal

pub returns-then-tests-gt-MOST_TESTS : goal.returns-then-tests-gt-MOST_TESTS
unfolding outcome
returns-then-tests-gt-MOST_TESTS c =
    let a = c.args in
    let both =
    too_many a.capacity a.wants.now a.held a.order.now (set_lists a.drops.now a.loads.now) (omega arith) in
    record { answer = both.0; lists = both.1 }

pub returns-then-min-tests : goal.returns-then-min-tests
unfolding outcome
returns-then-min-tests c =
    let a = c.args in
    let both =
    too_short a.capacity a.wants.now a.held a.order.now (set_lists a.drops.now a.loads.now) (omega arith) (omega arith) in
    record { answer = both.0; lists = both.1 }

-- the first entries of the local list are the steps' wants
steps_are : (c : After-in_order)
    → let a = c.args in
    take (length a.order.now) c.in_order.new.steps ≡ in_order a.wants.now a.order.now
steps_are c =
    let a = c.args in
    ap (take (length a.order.now)) c.in_order.ensures
    ∙ sets_front (in_order a.wants.now a.order.now) _ _ (length_in_order a.wants.now a.order.now) (omega arith)

pub slice_bounds-plan_steps-end : goal.slice_bounds-plan_steps-end
slice_bounds-plan_steps-end c =
    let a = c.args in
    let i = c.in_order in
    sym (length-take-le (length a.order.now) i.new.steps (omega (arith, i.auto.steps)))

-- the loads still have an entry for each test
long : (c : After-plan_steps-end)
    → let n = length c.args.order.now in
    length (take n c.plan_steps-end.new.loads) ≡ n
long c = length-take-le _ _ (omega (arith, c.plan_steps-end.auto.loads))

pub slice_bounds-count_curves-end-2 : goal.slice_bounds-count_curves-end-2
slice_bounds-count_curves-end-2 c = sym (long (goal.at.slice_bounds-count_curves-end-2 c).After-plan_steps-end)

pub count_curves-requires : goal.count_curves-requires
count_curves-requires c = omega (arith, long (goal.at.count_curves-requires c).After-plan_steps-end)

pub returns : goal.returns
unfolding outcome
returns c =
    let a = c.args in
    let both =
    planned a.capacity a.wants.now a.held a.order.now (set_lists a.drops.now a.loads.now) (omega arith) (omega arith) _ _ _ _ _
    (steps_are (goal.at.returns c).After-in_order) c.plan_steps-end.ensures.ends c.plan_steps-end.ensures.dropped c.plan_steps-end.ensures.loaded
    c.count_curves.ensures in
    record { answer = both.0; lists = both.1 }
