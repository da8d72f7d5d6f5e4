-- The plan check passes exactly the plans of which each rule of document 01 holds at each step, and whose end set is what is held.
use mathlib.Core.Path.{◌≡◌, refl, sym, ap, ◌∙◌}
use mathlib.Core.Logic.{◌↔◌}
use mathlib.Core.List.{List}
use Prim.Native.Nat.{ℕ, ◌+◌, ◌*◌, ◌≤◌}
use native.Mathlib.Omega.{arith}
use lib.ListN.{length}
use borrow.Author.Tests.{eqb-true}
use Rattle.std.specs.Prelude.{Result, Ok, Err}
use Rattle.bitset.specs.Set.{◌∖◌, size}
use Rattle.bitset.proofs.Laws.{⊆-∪-r, size_mono}
use Rattle.job.specs.Refusal.{done}
use Rattle.job.specs.Words.{Job, capacity, IsJob, IsHolding, IsOrder}
use Rattle.job.specs.Handed.{all_curves}
use Rattle.job.specs.Calls.{checking_known}
use Rattle.job.proofs.Laws.{done_same, refused≢done, demand_true, both_done}
use Rattle.drive.specs.Steps.{Move, moved, held_after, drops_of, sets_of, curve_count, load_count}
use Rattle.drive.proofs.CheckExact.{AllKept, check_exact as steps-exact, check_held}
use Rattle.drive.proofs.Balance.{balance}
use Rattle.drive.proofs.Moves.{length_moves, drops_of_lem, loads_of_lem}
use Rattle.planning.specs.Plan.{Plan, in_order}
use Rattle.planning.specs.Planning.{sets_known, checked_outcome, plan_moves, plan_sets, end_known, checking}
use Rattle.planning.proofs.Sequence.{known_exact, exact_known, steps_length, sets_known_lem, sets_long, steps_checked, check_ended}

-- "A plan passes the check exactly if the steps' tests are each test once, every drop is held, .."
pub record Passes (j : Job) (held : ℕ) (order : List ℕ) (p : Plan) : Type 0 where
  pub is_job : IsJob j
  -- 02, wish 6: "a holding names only curves of its job"
  pub is_holding : IsHolding j held
  pub is_order : IsOrder (length j.wants) order
  pub drop_sets : length p.drops ≡ length j.wants
  pub load_sets : length p.loads ≡ length j.wants
  -- each step keeps the rules (`Kept`: every drop is held, no load is held after the drops, every load is a curve of the job, and after the loads the wants are
  -- held, and at most the places)
  pub steps : AllKept (capacity j.rig) (all_curves j.rig.curves) held (plan_moves j order p)
  -- 02, wish 1: the end set is what is held
  pub ends : p.end ≡ held_after held (plan_sets j order p)

-- steps that end
pub steps_ended : (c : Result ℕ ℕ) → checked_outcome c ≡ done tt → (e : ℕ) × (c ≡ Ok e)
unfolding checked_outcome
steps_ended (Ok e) p = (e, refl)
steps_ended (Err i) p = absurd (refused≢done p)

-- no step that keeps the rules loads more than 64 curves, where there are no more places
loads_few : {p all h : ℕ} {ms : List Move} → p ≤ 64 → AllKept p all h ms → load_count (sets_of ms) ≤ 64 * length ms
unfolding curve_count
loads_few l AllKept.none = omega arith
loads_few l (AllKept.step {h = h} {m = m} ok r) =
    omega (arith, size_mono m.sets.loads (moved h m.sets) (⊆-∪-r (h ∖ m.sets.drops) m.sets.loads), ok.room, loads_few l r)

module _ (j : Job) (held : ℕ) (order : List ℕ) (p : Plan) where
  abbrev n : ℕ
  n = length j.wants

  pub passed : (m : ℕ) → checking j held order p ≡ done m → Passes j held order p
  unfolding checking end_known
  passed m e =
      let a = both_done (checking_known j held order) _ m e in
      let c = both_done (sets_known n (length p.drops) (length p.loads)) _ m a.1 in
      let d = both_done (checked_outcome (steps_checked j held order p)) _ m c.1 in
      let f = both_done (end_known j held order p) _ m d.1 in
      let s = steps_ended (steps_checked j held order p) d.0 in
      let k = known_exact j held order a.0 in
      let l = sets_long n (length p.drops) (length p.loads) c.0 in
      record {
        is_job = k.0;
        is_holding = k.1;
        is_order = k.2;
        drop_sets = l.0;
        load_sets = l.1;
        steps = (check_held (capacity j.rig) (all_curves j.rig.curves) 0 held (plan_moves j order p) s.0 s.1).1;
        ends = eqb-true p.end (held_after held (plan_sets j order p)) (demand_true _ 12 n f.0);
      }

  passing : Passes j held order p → checking j held order p ≡ done (curve_count p.loads)
  passing ok =
      check_ended j held order p (exact_known j held order ok.is_job ok.is_holding ok.is_order)
      (sets_known_lem n (length p.drops) (length p.loads) ok.drop_sets ok.load_sets) _
      ((steps-exact (capacity j.rig) (all_curves j.rig.curves) 0 held (plan_moves j order p)).1 ok.steps) ok.ends

  -- THE CHECK IS EXACT: it passes a plan, with its load count, exactly where the plan keeps every rule
  pub check_exact : checking j held order p ≡ done (curve_count p.loads) ↔ Passes j held order p
  check_exact = (passed (curve_count p.loads), passing)

  -- and no other count is answered
  pub check_count : (m : ℕ) → checking j held order p ≡ done m → m ≡ curve_count p.loads
  check_count m e = done_same (sym e ∙ passing (passed m e))

  -- the moves are as many as the tests, with the plan's drops and loads
  module _ (ok : Passes j held order p) where
    abbrev ws : List ℕ
    ws = in_order j.wants order

    long : length ws ≡ n
    long = steps_length j held order (exact_known j held order ok.is_job ok.is_holding ok.is_order)

    all_drops : curve_count (drops_of (sets_of (plan_moves j order p))) ≡ curve_count p.drops
    all_drops = ap curve_count (drops_of_lem ws p.drops p.loads (ok.drop_sets ∙ sym long))

    all_loads : load_count (sets_of (plan_moves j order p)) ≡ curve_count p.loads
    all_loads = ap curve_count (loads_of_lem ws p.drops p.loads (ok.load_sets ∙ sym long))

  -- which is at most 64 for each test
  pub check_few : (m : ℕ) → checking j held order p ≡ done m → m ≤ 64 * n
  check_few m e =
      let ok = passed m e in
      let few : capacity j.rig ≤ 64 = omega (arith, ok.is_job.places_bounds.1) in
      omega (
        arith,
        check_count m e,
        all_loads ok,
        loads_few few ok.steps,
        length_moves (ws ok) p.drops p.loads,
        long ok,
      )

  -- WHAT IS HELD AT THE START AND THE LOADS TOGETHER HAVE AS MANY CURVES AS THE DROPS AND THE END SET
  pub check_balanced : (m : ℕ) → checking j held order p ≡ done m → size held + curve_count p.loads ≡ curve_count p.drops + size p.end
  check_balanced m e =
      let ok = passed m e in
      omega (arith, balance ok.steps, all_drops ok, all_loads ok, ap size ok.ends)
