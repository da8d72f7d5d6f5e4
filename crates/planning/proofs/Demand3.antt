-- DEMAND 3, proved: of planning and the plan check, for every job, every holding of its curves and every order of its tests.
use mathlib.Core.Path.{◌≡◌, refl, sym, ap, ◌∙◌}
use mathlib.Core.List.{List, [], ◌∷◌}
use Prim.Native.Nat.{ℕ, ◌+◌, ◌≤◌, ◌<◌}
use native.Mathlib.Omega.{arith}
use native.Mathlib.Decide.{dec_le}
use lib.Dec.{leb}
use lib.ListN.{length, get_or, take, length-map, get_or-eq_default}
use borrow.Author.Tests.{leb-true, leb-false, lt-leb}
use Rattle.bitset.specs.Set.{size}
use Rattle.bitset.proofs.Bits.{bit_empty, size_empty}
use Rattle.bitset.proofs.Parts.{◌≼◌, inside-≼, in_range}
use Rattle.job.specs.Refusal.{Outcome, done, refused, ◌>>=◌, mapped, room, leaves}
use Rattle.job.specs.Words.{Job, capacity, IsJob}
use Rattle.job.specs.Handed.{all_curves, each, wants_fit}
use Rattle.job.specs.Calls.{checking_known, planning_known}
use Rattle.job.proofs.Laws.{refused≢done, both_done, each_true, mapped_done, mapped_refused, leaves_done, leaves_refused}
use Rattle.job.proofs.JobExact.{below_inside}
use Rattle.job.proofs.Faults.{Examines, faultless, faulty, Fails, each_examines}
use Rattle.lists.proofs.Overwritten.{front}
use Rattle.drive.specs.declared.Sets.{Sets}
use Rattle.drive.specs.Steps.{held_after, drops_of, loads_of, curve_count, load_count}
use Rattle.drive.specs.Plan.{furthest}
use Rattle.drive.proofs.Moves.{wants_of_lem, loads_of_lem, length_plan}
use Rattle.drive.proofs.Holdings.{AllFit}
use Rattle.drive.proofs.Best.{furthest_passes, furthest_is_fewest}
use Rattle.planning.specs.declared.CountEnd.{CountEnd}
use Rattle.planning.specs.Plan.{Plan, handed, SetLists, first, entries, count_end, in_order}
use Rattle.planning.specs.Planning.{our_plan, planning, plan_answer, plan_lists, checking}
use Rattle.planning.specs.Demand3.{Demand3}
use Rattle.planning.proofs.Sequence.{known_exact, exact_known, planning_parts, planning_known_lem, steps_length, sets_known_lem, check_ended, plan_refused}
use Rattle.planning.proofs.Sequence.{plan_done}
use Rattle.planning.proofs.CheckExact.{passed, check_balanced}

module _ (j : Job) (held : ℕ) (order : List ℕ) where
  abbrev n : ℕ
  n = length j.wants

  abbrev cap : ℕ
  cap = capacity j.rig

  abbrev all : ℕ
  all = all_curves j.rig.curves

  abbrev steps : List ℕ
  steps = in_order j.wants order

  -- ---- planning that is done

  -- the wants of each step
  steps_fit : IsJob j → wants_fit cap j.wants ≡ done tt → (ts : List ℕ) → AllFit cap all (in_order j.wants ts)
  unfolding in_order wants_fit
  steps_fit is f [] = tt
  steps_fit is f (t ∷ ts) = ((one (dec_le n t)).0, (one (dec_le n t)).1, steps_fit is f ts)
    where
      one : Dec (n ≤ t) → (get_or j.wants t 0 ≼ all) × (size (get_or j.wants t 0) ≤ cap)
      one (yes l) = rw (get_or-eq_default j.wants 0 l) ((λ c. omega (arith, bit_empty c)), omega (arith, size_empty))
      one (no l) = (
        inside-≼ (get_or j.wants t 0) all (below_inside j.rig.curves (get_or j.wants t 0) (is.own_curves t (omega arith))),
        leb-true (size (get_or j.wants t 0)) cap (each_true (λ w. leb (size w) cap) 7 0 j.wants f t (omega arith)),
      )

  pub record Given (plan : List Sets) : Type 0 where
    pub known : planning_known j held order ≡ done tt
    pub is : our_plan j held order ≡ plan

  pub given : (lent : ℕ) (plan : List Sets) → planning j held order lent ≡ done plan → Given plan
  unfolding planning ◌>>=◌
  given lent plan e =
      let a = both_done (planning_known j held order) _ plan e in
      record { known = a.0; is = go (room lent n) a.1 }
    where
      go : (r : Outcome (Unit {0})) → ◌>>=◌ r (λ ready. done (our_plan j held order)) ≡ done plan → our_plan j held order ≡ plan
      go (done tt) e = cc
      go (refused k i) e = absurd (refused≢done e)

  our_length : checking_known j held order ≡ done tt → length (our_plan j held order) ≡ n
  unfolding our_plan
  our_length k = length_plan (furthest j.rig.curves) cap held steps ∙ steps_length j held order k

  -- a plan has an entry for each test
  pub plan_length : (lent : ℕ) (plan : List Sets) → planning j held order lent ≡ done plan → length plan ≡ n
  plan_length lent plan e =
      let g = given lent plan e in
      ap length (sym g.is) ∙ our_length (planning_parts j held order g.known).0

  pub our_check : planning_known j held order ≡ done tt
      → checking j held order (handed held (our_plan j held order)) ≡ done (load_count (our_plan j held order))
  unfolding our_plan
  our_check k =
      let a = planning_parts j held order k in
      let is = known_exact j held order a.0 in
      let q = our_plan j held order in
      check_ended j held order (handed held q) a.0
      (sets_known_lem n _ _ (length-map q (λ s. s.drops) ∙ our_length a.0) (length-map q (λ s. s.loads) ∙ our_length a.0)) (held_after held q)
      (furthest_passes j.rig.curves cap held (in_range j.rig.curves held is.1) steps (steps_fit is.0 a.1 order) 0) refl

  pub our_least : (other : Plan) (m : ℕ) → checking j held order other ≡ done m → load_count (our_plan j held order) ≤ curve_count other.loads
  unfolding our_plan
  our_least other m e =
      let p = passed j held order other m e in
      let long = p.load_sets ∙ sym (steps_length j held order (exact_known j held order p.is_job p.is_holding p.is_order)) in
      let f = furthest_is_fewest j.rig.curves cap held (in_range j.rig.curves held p.is_holding) p.steps in
      rw (
        wants_of_lem steps other.drops other.loads,
        loads_of_lem steps other.drops other.loads long,
      ) at f

  module _ (lent : SetLists) where
    abbrev plan : Outcome (List Sets)
    plan = planning j held order (entries lent)

    -- the plan that was given is ours
    record Ours (m : CountEnd) : Type 0 where
      known : planning_known j held order ≡ done tt
      total : m ≡ count_end held (our_plan j held order)
      lists : first n (plan_lists j held order lent) (held_after held (our_plan j held order)) ≡ handed held (our_plan j held order)

    ours : (m : CountEnd) → plan_answer j held order lent ≡ done m → Ours m
    unfolding plan_answer plan_lists
    ours m e =
        let d = mapped_done (count_end held) plan m e in
        let g = given (entries lent) d.0 d.1 in
        let q = our_plan j held order in
        let is : plan ≡ done q = d.1 ∙ ap done (sym g.is) in
        let long = plan_length (entries lent) q is in
        let ds = ap (take n) (leaves_done drops_of plan q lent.drops is) ∙ front (drops_of q) lent.drops n (length-map q (λ s. s.drops) ∙ long) in
        let ls = ap (take n) (leaves_done loads_of plan q lent.loads is) ∙ front (loads_of q) lent.loads n (length-map q (λ s. s.loads) ∙ long) in
        record { known = g.known; total = sym d.2 ∙ ap (count_end held) (sym g.is); lists = rw (ds, ls) refl }

    -- ---- planning that refuses, where job, order and lists are as they should be

    too_large : (k i : ℕ) → checking_known j held order ≡ done tt → n ≤ entries (plan_lists j held order lent) → plan_answer j held order lent ≡ refused k i
        → (t : ℕ) × (t < n) × (cap < size (get_or j.wants t 0))
    unfolding plan_answer plan_lists wants_fit
    too_large k i known h e = go (each_examines (λ w. leb (size w) cap) 7 0 j.wants)
      where
        r : plan ≡ refused k i
        r = mapped_refused (count_end held) plan k i e

        kept : (f : List Sets → List ℕ) (old : List ℕ) → leaves (mapped f plan) old ≡ old
        kept f old = leaves_refused f plan k i old r

        go : Examines (Fails (λ w. leb (size w) cap) j.wants) 7 0 (each (λ w. leb (size w) cap) 7 0 j.wants)
            → (t : ℕ) × (t < n) × (cap < size (get_or j.wants t 0))
        go (faultless f none) =
            absurd (refused≢done (sym r ∙ plan_done j held order (entries lent) (planning_known_lem j held order known ∙ f)
            (omega (arith, ap length (kept drops_of lent.drops), ap length (kept loads_of lent.loads)))))
        go (faulty t f first) = (t, first.0.0, leb-false (size (get_or j.wants t 0)) cap first.0.1)

    missing_too_large : checking_known j held order ≡ done tt → (t : ℕ) → t < n → cap < size (get_or j.wants t 0)
        → (k : ℕ) × (i : ℕ) × (plan_answer j held order lent ≡ refused k i)
    unfolding plan_answer wants_fit
    missing_too_large known t l h = go (each_examines (λ w. leb (size w) cap) 7 0 j.wants)
      where
        go : Examines (Fails (λ w. leb (size w) cap) j.wants) 7 0 (each (λ w. leb (size w) cap) 7 0 j.wants)
            → (k : ℕ) × (i : ℕ) × (mapped (count_end held) plan ≡ refused k i)
        go (faultless f none) = absurd (none t (l, lt-leb (size (get_or j.wants t 0)) cap h))
        go (faulty s f first) =
            (7, 0 + s, rw (plan_refused j held order (entries lent) 7 (0 + s) (planning_known_lem j held order known ∙ f)) (unfold mapped in refl))

    -- DEMAND 3
    pub demand3 : Demand3 j held order (plan_answer j held order lent) (plan_lists j held order lent)
    demand3 =
        record {
          ours = λ m e. let g : Ours m = ours m e in rw g.total g.lists;
          passes = λ m e. let g : Ours m = ours m e in rw (g.total, g.lists) (our_check g.known);
          counted = λ m e. let g : Ours m = ours m e in
              ap (λ (a : CountEnd). a.count) g.total ∙ ap (λ (p : Plan). curve_count p.loads) (sym g.lists);
          least = λ m e other k c. omega (arith, ap (λ (a : CountEnd). a.count) (ours m e).total, our_least other k c);
          balanced = λ other k c. check_balanced j held order other k c;
          missing = λ is own ord long. (
            (λ x. too_large x.0 x.1 (exact_known j held order is own ord) long x.2),
            (λ x. missing_too_large (exact_known j held order is own ord) x.0 x.1 x.2),
          );
        }
