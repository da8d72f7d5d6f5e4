-- `plan_bytes::write_steps` meets its contract.
use mathlib.Core.Path.{◌≡◌, sym, ◌∙◌}
use Rattle.job.specs.Refusal.{done, outcome}
use Rattle.job.specs.Calls.{order_alone_known}
use Rattle.job.proofs.Laws.{made_refused, handed_on}
use Rattle.planning.specs.Plan.{Plan, plan_of}
use Rattle.plan_bytes.specs.ContractWords.{write_steps_answer, write_steps_buffer}
use Rattle.plan_bytes.proofs.Writing.{sets_for, no_order, no_sets, steps_fitting, writable}
use Rattle.plan_bytes.proofs.write_steps.Goals.{In_ok-examine_order_alone, In_ok-examine_sets}
use Rattle.plan_bytes.proofs.write_steps.Goals as goal

pub returns-in_err-examine_order_alone : goal.returns-in_err-examine_order_alone
unfolding outcome write_steps_answer write_steps_buffer
returns-in_err-examine_order_alone c =
    let both = made_refused _ _ _ _ (no_order _ _ _ _ (sym c.in_err-examine_order_alone.ensures) _) in
    record { answer = handed_on _ _ c.from_residual.ensures.1 ∙ both.0; bytes = both.1 }

-- behind each examination
ordered : (c : In_ok-examine_order_alone) → order_alone_known c.args.order.now ≡ done tt
unfolding outcome
ordered c = sym c.in_ok-examine_order_alone.ensures

pub returns-in_err-examine_sets : goal.returns-in_err-examine_sets
unfolding outcome write_steps_answer write_steps_buffer
returns-in_err-examine_sets c =
    let both =
    made_refused _ _ _ _ (no_sets _ _ (ordered (goal.at.returns-in_err-examine_sets c).In_ok-examine_order_alone) _ _ (sym c.in_err-examine_sets.ensures) _) in
    record { answer = handed_on _ _ c.from_residual-in_err-examine_sets.ensures.1 ∙ both.0; bytes = both.1 }

abbrev plan : In_ok-examine_sets → Plan
plan c = let a = c.args in plan_of a.drops.now a.loads.now a.end

sized : (c : In_ok-examine_sets)
    → sets_for c.args.order.now (plan c) ≡ done tt
unfolding outcome
sized c = sym c.in_ok-examine_sets.ensures

pub write_fitting-requires : goal.write_fitting-requires
write_fitting-requires c =
    let w = writable _ (plan (goal.at.write_fitting-requires c).In_ok-examine_sets) (ordered (goal.at.write_fitting-requires c).In_ok-examine_order_alone)
    (sized (goal.at.write_fitting-requires c).In_ok-examine_sets) in
    record { tests = w.tests; sets = (w.drop_sets, w.load_sets); few = w.few }

pub returns : goal.returns
unfolding write_steps_answer write_steps_buffer
returns c =
    rw (steps_fitting _ (plan (goal.at.returns c).In_ok-examine_sets) (ordered (goal.at.returns c).In_ok-examine_order_alone)
    (sized (goal.at.returns c).In_ok-examine_sets))
    c.write_fitting.ensures
