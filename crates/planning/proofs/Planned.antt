-- What planning answers and leaves, where it refuses and where its steps are planned.
use mathlib.Core.Path.{◌≡◌, refl, sym, ap, ◌∙◌}
use mathlib.Core.List.{List}
use Prim.Native.Nat.{ℕ, ◌≤◌, ◌<◌}
use native.Mathlib.Omega.{arith}
use lib.ListN.{length, take, length-map}
use lib.Seq.{sets}
use borrow.Author.Tests.{lt-leb}
use Rattle.job.specs.Refusal.{Outcome, done, refused, ◌>>=◌, ◌>>◌, mapped, demand, room, overwritten}
use Rattle.job.specs.Words.{Job, capacity, IsJob, IsHolding, IsOrder}
use Rattle.job.specs.Handed.{tests_known}
use Rattle.job.specs.Calls.{planning_known}
use Rattle.job.proofs.Laws.{done_both, done_room, leaves_done, leaves_refused}
use Rattle.job.proofs.Examination.{few_tests}
use Rattle.job.proofs.Orders.{order_length}
use Rattle.lists.proofs.Overwritten.{front, sets_whole}
use Rattle.drive.specs.declared.Sets.{Sets}
use Rattle.drive.specs.Steps.{held_after, drops_of, loads_of, curve_count, load_count}
use Rattle.drive.specs.Plan.{furthest, plan_from}
use Rattle.drive.proofs.Moves.{length_plan}
use Rattle.drive.proofs.Width.{plan_width}
use Rattle.planning.specs.declared.CountEnd.{CountEnd}
use Rattle.planning.specs.Plan.{SetLists, set_lists, entries, in_order}
use Rattle.planning.specs.Planning.{our_plan, planning, plan_answer, plan_lists}
use Rattle.planning.specs.Demand3.{Demand3}
use Rattle.planning.specs.ContractWords.{plan_tests, tests_answer, tests_lists}
use Rattle.planning.proofs.Turns.{length_in_order}
use Rattle.planning.proofs.Sequence.{known_exact, planning_parts, step_curves, plan_refused}
use Rattle.planning.proofs.Demand3.{demand3}

-- ---- without examinations

module _ (capacity : ℕ) (wants : List ℕ) (held : ℕ) (order : List ℕ) (lent : SetLists) where
  abbrev n : ℕ
  n = length order

  abbrev plan : List Sets
  plan = plan_from (furthest 64) capacity held (in_order wants order)

  -- the contract of planning without examinations, for an answer and what the lent lists hold afterwards
  abbrev Tests : Outcome CountEnd → SetLists → Type 0
  Tests answer lists = (answer ≡ tests_answer capacity wants held order lent) × (lists ≡ tests_lists capacity wants held order lent)

  refused_tests : (k i : ℕ) → plan_tests capacity wants held order lent ≡ refused k i → Tests (refused k i) lent
  unfolding tests_answer tests_lists mapped
  refused_tests k i e = (rw e refl, sym (rw (leaves_refused drops_of _ k i lent.drops e, leaves_refused loads_of _ k i lent.loads e) refl))

  pub too_many : 256 < n → Tests (refused 10 2) lent
  too_many h = refused_tests 10 2 (unfold plan_tests tests_known demand ◌>>◌ in rw (lt-leb n 256 h) refl)

  module _ (few : n ≤ 256) where
    pub too_short : entries lent < n → Tests (refused 9 n) lent
    too_short h = refused_tests 9 n (unfold plan_tests room demand ◌>>=◌ in (done_both _ _ (few_tests n few) ∙ rw (lt-leb n (entries lent) h) refl))

    pub tests_done : n ≤ entries lent → plan_tests capacity wants held order lent ≡ done plan
    unfolding plan_tests ◌>>=◌
    tests_done h = done_both _ _ (few_tests n few) ∙ rw (done_room (entries lent) n h) refl

    -- what was written for steps that want ws, counted in the first entries of the loads, and held at the end
    pub planned : n ≤ entries lent → (ws : List ℕ) (count end : ℕ) (ds ls : List ℕ) → ws ≡ in_order wants order
        → end ≡ held_after held (plan_from (furthest 64) capacity held ws)
        → ds ≡ sets lent.drops 0 (drops_of (plan_from (furthest 64) capacity held ws))
        → ls ≡ sets lent.loads 0 (loads_of (plan_from (furthest 64) capacity held ws))
        → count ≡ curve_count (take n ls) → Tests (done (record { count = count; end = end })) (set_lists ds ls)
    unfolding tests_answer tests_lists mapped
    planned h ws count end ds ls e x d l c =
        let p = tests_done h in
        let long : length plan ≡ n = length_plan (furthest 64) capacity held (in_order wants order) ∙ length_in_order wants order in
        let nd : length (drops_of plan) ≡ n = length-map plan (λ s. s.drops) ∙ long in
        let nl : length (loads_of plan) ≡ n = length-map plan (λ s. s.loads) ∙ long in
        let wd : ds ≡ overwritten (drops_of plan) lent.drops = rw e at d ∙ sets_whole (drops_of plan) lent.drops (omega arith) in
        let wl : ls ≡ overwritten (loads_of plan) lent.loads = rw e at l ∙ sets_whole (loads_of plan) lent.loads (omega arith) in
        let wc : count ≡ load_count plan = c ∙ ap (λ (x : List ℕ). curve_count (take n x)) wl ∙ ap curve_count (front (loads_of plan) lent.loads n nl) in
        let we : end ≡ held_after held plan = rw e at x in
        (rw (wc, we, p) refl, rw (wd, wl, ← (leaves_done drops_of _ plan lent.drops p), ← (leaves_done loads_of _ plan lent.loads p)) refl)

-- ---- behind the examinations

module _ (j : Job) (held : ℕ) (order : List ℕ) (known : planning_known j held order ≡ done tt) where
  abbrev steps : List ℕ
  steps = in_order j.wants order

  exact : IsJob j × IsHolding j held × IsOrder (length j.wants) order
  exact = known_exact j held order (planning_parts j held order known).0

  as_long : length order ≡ length j.wants
  as_long = order_length (length j.wants) order exact.2

  -- the plan without examinations is ours
  pub ours : plan_from (furthest 64) (capacity j.rig) held steps ≡ our_plan j held order
  unfolding our_plan
  ours =
      plan_width j.rig.curves 64 exact.0.curves_bounds.1 (capacity j.rig) held steps exact.1
      (step_curves j held order (planning_parts j held order known).0)

module _ (j : Job) (held : ℕ) (order : List ℕ) (lent : SetLists) where
  -- the contract of planning, for an answer and what the lent lists hold afterwards
  abbrev Contract : Outcome CountEnd → SetLists → Type 0
  Contract answer lists = (answer ≡ plan_answer j held order lent) × ((lists ≡ plan_lists j held order lent) × Demand3 j held order answer lists)

  contract : (answer : Outcome CountEnd) (lists : SetLists) → answer ≡ plan_answer j held order lent → lists ≡ plan_lists j held order lent
      → Contract answer lists
  contract answer lists a l = (a, (l, rw (a, l) (demand3 j held order lent)))

  pub refused_contract : (k i : ℕ) → planning_known j held order ≡ refused k i → Contract (refused k i) lent
  unfolding plan_answer plan_lists mapped
  refused_contract k i e =
      let r = plan_refused j held order (entries lent) k i e in
      contract (refused k i) lent (rw r refl) (sym (rw (leaves_refused drops_of _ k i lent.drops r, leaves_refused loads_of _ k i lent.loads r) refl))

  module _ (known : planning_known j held order ≡ done tt) where
    as_tests : plan_tests (capacity j.rig) j.wants held order lent ≡ planning j held order (entries lent)
    unfolding planning plan_tests
    as_tests =
        rw (as_long j held order known, ours j held order known)
        (done_both _ _ (few_tests (length j.wants) (exact j held order known).0.tests_bound) ∙ sym (done_both _ _ known))

    -- both plan the same
    pub tests_answer_lem : tests_answer (capacity j.rig) j.wants held order lent ≡ plan_answer j held order lent
    unfolding plan_answer tests_answer
    tests_answer_lem = rw as_tests refl

    pub tests_lists_lem : tests_lists (capacity j.rig) j.wants held order lent ≡ plan_lists j held order lent
    unfolding plan_lists tests_lists
    tests_lists_lem = rw as_tests refl

    pub tests_contract : (answer : Outcome CountEnd) (lists : SetLists) → answer ≡ tests_answer (capacity j.rig) j.wants held order lent
        → lists ≡ tests_lists (capacity j.rig) j.wants held order lent → Contract answer lists
    tests_contract answer lists a l = contract answer lists (a ∙ tests_answer_lem) (l ∙ tests_lists_lem)
