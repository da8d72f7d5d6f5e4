-- A job without tests. 02, wish 3: "The optimum covers this list too": with `Demand3` as for any other, and here in full. Wish 6: "With no tests left, only the
-- end step remains", whatever is held.
use mathlib.Core.Path.{◌≡◌, refl, sym, ap, ◌∙◌}
use mathlib.Core.Logic.{◌↔◌}
use mathlib.Core.List.{List, []}
use Prim.Native.Nat.{ℕ}
use native.Mathlib.Omega.{arith}
use lib.ListN.{length, drop_of_length-le}
use Rattle.job.specs.Refusal.{done, mapped, overwritten, leaves}
use Rattle.job.specs.Words.{Job, capacity, IsJob, IsHolding, IsOrder}
use Rattle.job.specs.Calls.{planning_known}
use Rattle.job.proofs.Orders.{no_order, order_none}
use Rattle.job.proofs.Faults.{none_too_large}
use Rattle.drive.specs.Steps.{held_after, moves, curve_count}
use Rattle.drive.specs.Plan.{plan_from}
use Rattle.drive.proofs.CheckExact.{AllKept}
use Rattle.planning.specs.Plan.{Plan, plan_of, SetLists, entries, in_order}
use Rattle.planning.specs.Planning.{our_plan, planning, plan_answer, plan_lists, checking}
use Rattle.planning.proofs.Sequence.{exact_known, planning_known_lem, plan_done}
use Rattle.planning.proofs.CheckExact.{Passes, passed, check_exact, check_count}

-- our plan for no steps
pub no_steps : (j : Job) (held : ℕ) → our_plan j held [] ≡ []
unfolding our_plan plan_from in_order
no_steps j held = refl

module _ (j : Job) (held : ℕ) (is : IsJob j) (own : IsHolding j held) (none : j.wants ≡ []) where
  order : IsOrder (length j.wants) []
  order = order_none _ (ap length none)

  known : planning_known j held [] ≡ done tt
  known = planning_known_lem j held [] (exact_known j held [] is own order) ∙ none_too_large (capacity j.rig) j.wants none

  planned : (lent : ℕ) → planning j held [] lent ≡ done []
  planned lent = plan_done j held [] lent known (omega (arith, ap length none)) ∙ ap done (no_steps j held)

  -- A JOB WITHOUT TESTS IS PLANNED, into lists of any length: 0 loads, the end set is what is held, and nothing lent changes
  pub none_planned : (lent : SetLists) → (plan_answer j held [] lent ≡ done (record { count = 0; end = held })) × (plan_lists j held [] lent ≡ lent)
  unfolding plan_answer plan_lists mapped leaves overwritten held_after curve_count
  none_planned lent = (rw (planned (entries lent)) refl, rw (planned (entries lent)) refl)

  passes : Passes j held [] (plan_of [] [] held)
  unfolding moves in_order held_after
  passes =
      record {
        is_job = is;
        is_holding = own;
        is_order = order;
        drop_sets = sym (ap length none);
        load_sets = sym (ap length none);
        steps = AllKept.none;
        ends = refl;
      }

  only : (ts : List ℕ) (p : Plan) → Passes j held ts p → (ts ≡ []) × (p ≡ plan_of [] [] held)
  unfolding moves in_order held_after
  only ts p ok =
      let o : ts ≡ [] = no_order _ ts (ap length none) ok.is_order in
      let d : p.drops ≡ [] = drop_of_length-le p.drops {i = 0} (omega (arith, ok.drop_sets, ap length none)) in
      let l : p.loads ≡ [] = drop_of_length-le p.loads {i = 0} (omega (arith, ok.load_sets, ap length none)) in
      let e : p.end ≡ held = rw o at ok.ends in
      (o, λ i. record { drops = d i; loads = l i; end = e i })

  -- THE CHECK PASSES NO OTHER PLAN of it
  pub none_checked : (ts : List ℕ) (p : Plan) (m : ℕ) → checking j held ts p ≡ done m ↔ ((ts ≡ []) × (p ≡ plan_of [] [] held) × (m ≡ 0))
  unfolding curve_count
  none_checked ts p m = (
    λ e.
        let o = only ts p (passed j held ts p m e) in
        (o.0, o.1, check_count j held ts p m e ∙ ap (λ (x : Plan). curve_count x.loads) o.1),
    λ x. rw (x.0, x.1, x.2) ((check_exact j held [] (plan_of [] [] held)).1 passes),
  )
