-- Writing a plan: the bytes of a set, of a step and of the steps to come; and what is answered and left, case by case.
use mathlib.Core.Path.{◌≡◌, refl, sym, ap, ◌∙◌}
use mathlib.Core.List.{List, [], ◌∷◌, ◌++◌, append_assoc}
use Prim.Native.Nat.{ℕ, zero, suc, ◌+◌, ◌*◌, ◌≤◌, ◌<◌}
use native.Mathlib.Omega.{arith}
use native.Mathlib.Numerals.{add-one}
use lib.ListN.{length, get_or, drop, set, length-append, drop_of_length-le}
use lib.Seq.{sets, drop-cons}
use Rattle.job.specs.Refusal.{Outcome, done, refused, ◌>>=◌, fitting}
use Rattle.job_bytes.specs.SetBytes.{stands, set_bytes}
use Rattle.job.proofs.Laws.{both_done, done_both}
use Rattle.job.proofs.Examination.{refused_both, few_tests, tests_few}
use Rattle.job_bytes.proofs.Encoding.{set_le, next_over}
use Rattle.job.specs.Words.{Job}
use Rattle.job.specs.Handed.{tests_known}
use Rattle.job.specs.Calls.{order_alone_known}
use Rattle.planning.specs.Plan.{Plan, Step, steps}
use Rattle.planning.specs.Planning.{sets_known, checking}
use Rattle.job.proofs.OrderExact.{order_passes, passed_order, own_tests}
use Rattle.planning.proofs.CheckExact.{Passes, passed}
use Rattle.planning.proofs.Sequence.{sets_known_lem, sets_long}
use Rattle.job.proofs.Orders.{order_length}
use Rattle.plan_bytes.specs.PlanBytes.{set_field, step_bytes, steps_bytes, end_bytes, plan_bytes, write_plan}
use Rattle.plan_bytes.specs.ContractWords.{write_steps}

-- ---- a set

pub field_none : (s : ℕ) → s ≡ 0 → set_field s ≡ []
unfolding set_field
field_none s e = rw e refl

pub field_some : (s : ℕ) → (s ≡ 0 → ⊥) → set_field s ≡ set_bytes s
unfolding set_field
field_some zero h = absurd (h refl)
field_some (suc s) h = refl

-- ---- a step

pub stands_none : (s : ℕ) → s ≡ 0 → stands s ≡ 0
unfolding stands
stands_none s e = rw e refl

abbrev pub one : ℕ → ℕ → ℕ → Step
one t d l = record { test = t; drops = d; loads = l }

pub step_length : (t d l : ℕ) → length (step_bytes (one t d l)) ≡ 2 + length (set_field d) + length (set_field l)
unfolding step_bytes
step_length t d l = simp length-append (omega arith)

-- the map, then each field over the zero byte behind the last
pub step_stores : (t d l m i : ℕ) (old : List ℕ) → m ≡ stands d + 2 * stands l + 4
    → set (sets (sets (set old i m) (i + 1) (set_field d ++ (0 ∷ []))) (i + 1 + length (set_field d)) (set_field l ++ (0 ∷ [])))
    (i + 1 + length (set_field d) + length (set_field l)) t
    ≡ sets old i (step_bytes (one t d l))
unfolding step_bytes
step_stores t d l m i old e =
    let n : i + 1 ≡ suc i = omega arith in
    next_over (set_field l) [] (sets (set old i m) (i + 1) (set_field d ++ (0 ∷ []))) (i + 1 + length (set_field d)) t
    ∙ next_over (set_field d) (set_field l) (set old i m) (i + 1) t
    ∙ rw (append_assoc (set_field d) (set_field l) (t ∷ []), ← e, n) refl

pub field_le : (s : ℕ) → length (set_field s) ≤ 9
unfolding set_field
field_le zero = omega arith
field_le (suc s) = set_le (suc s)

pub step_le : (t d l : ℕ) → length (step_bytes (one t d l)) ≤ 20
step_le t d l = omega (arith, step_length t d l, field_le d, field_le l)

-- ---- the end step

pub end_le : (s : ℕ) → length (end_bytes s) ≤ 10
unfolding end_bytes
end_le zero = omega arith
end_le (suc s) = omega (arith, set_le (suc s))

-- nothing, or the map before the set
pub no_end_bytes : (s : ℕ) → s ≡ 0 → end_bytes s ≡ []
unfolding end_bytes
no_end_bytes s e = rw e refl

pub some_end_bytes : (s : ℕ) → (s ≡ 0 → ⊥) → end_bytes s ≡ 1 ∷ set_bytes s
unfolding end_bytes
some_end_bytes zero h = absurd (h refl)
some_end_bytes (suc s) h = refl

-- ---- the steps from i on

-- the bytes of the steps that three lists give
abbrev pub list_bytes : List ℕ → List ℕ → List ℕ → List ℕ
list_bytes order drops loads = steps_bytes (steps order drops loads)

module _ (order drops loads : List ℕ) (i : ℕ) where
  abbrev from : ℕ → List ℕ
  from k = list_bytes (drop k order) (drop k drops) (drop k loads)

  abbrev step : Step
  step = one (get_or order i 0) (get_or drops i 0) (get_or loads i 0)

  module _ (o : i < length order) (d : i < length drops) (l : i < length loads) where
    pub steps_next : from i ≡ step_bytes step ++ from (i + 1)
    unfolding steps steps_bytes
    steps_next = rw (drop-cons order i 0 o, drop-cons drops i 0 d, drop-cons loads i 0 l, add-one i) refl

    pub steps_length : length (from i) ≡ length (step_bytes step) + length (from (i + 1))
    steps_length = ap length steps_next ∙ length-append (step_bytes step) (from (i + 1))

  pub steps_none : length order ≤ i → from i ≡ []
  unfolding steps steps_bytes
  steps_none h = rw (drop_of_length-le order h) refl

-- ---- what is written of a plan
module _ (j : Job) (held : ℕ) (order : List ℕ) (p : Plan) where
  pub unchecked : (k i : ℕ) → checking j held order p ≡ refused k i → (lent : ℕ) → write_plan j held order p lent ≡ refused k i
  unfolding write_plan ◌>>=◌
  unchecked k i e lent = rw e refl

  pub plan_fitting : (m : ℕ) → checking j held order p ≡ done m → (lent : ℕ) → write_plan j held order p lent ≡ fitting (plan_bytes order p) lent
  unfolding write_plan ◌>>=◌
  plan_fitting m e lent = rw e refl

-- ---- and of lists alone
module _ (order : List ℕ) (p : Plan) where
  -- an entry of each list of sets for each step
  abbrev pub sets_for : Outcome (Unit {0})
  sets_for = sets_known (length order) (length p.drops) (length p.loads)

  pub no_order : (k i : ℕ) → order_alone_known order ≡ refused k i → (lent : ℕ) → write_steps order p lent ≡ refused k i
  unfolding write_steps
  no_order k i e lent = refused_both _ _ k i e

  module _ (known : order_alone_known order ≡ done tt) where
    pub no_sets : (k i : ℕ) → sets_for ≡ refused k i → (lent : ℕ) → write_steps order p lent ≡ refused k i
    unfolding write_steps
    no_sets k i e lent = done_both _ _ known ∙ refused_both _ _ k i e

    pub steps_fitting : sets_for ≡ done tt → (lent : ℕ) → write_steps order p lent ≡ fitting (plan_bytes order p) lent
    unfolding write_steps
    steps_fitting e lent = done_both _ _ known ∙ done_both _ _ e

-- what passed these examinations is a list of steps: a test below 256, a drop set and a load set for each test, at most 256 of them
pub record Writable (order : List ℕ) (p : Plan) : Type 0 where
  pub tests : (i : ℕ) → i < length order → get_or order i 0 < 256
  pub few : length order ≤ 256
  pub drop_sets : length p.drops ≡ length order
  pub load_sets : length p.loads ≡ length order

pub writable : (order : List ℕ) (p : Plan) → order_alone_known order ≡ done tt → sets_for order p ≡ done tt → Writable order p
unfolding order_alone_known
writable order p known sets =
    let a = both_done (tests_known (length order)) _ tt known in
    let few = tests_few (length order) a.0 in
    let l = sets_long _ _ _ sets in
    record {
      tests = λ i h. omega (arith, own_tests (length order) order (passed_order _ order a.1) i h);
      few = few;
      drop_sets = l.0;
      load_sets = l.1;
    }

-- ---- a plan that passes the check
module _ (j : Job) (held : ℕ) (order : List ℕ) (p : Plan) (m : ℕ) (e : checking j held order p ≡ done m) where
  ok : Passes j held order p
  ok = passed j held order p m e

  n : length order ≡ length j.wants
  n = order_length (length j.wants) order ok.is_order

  own_order : order_alone_known order ≡ done tt
  unfolding order_alone_known
  own_order = rw n (done_both _ _ (few_tests _ ok.is_job.tests_bound) ∙ order_passes _ order ok.is_order)

  own_sets : sets_for order p ≡ done tt
  own_sets = sets_known_lem _ _ _ (ok.drop_sets ∙ sym n) (ok.load_sets ∙ sym n)

  pub passed_writable : Writable order p
  passed_writable = writable order p own_order own_sets

  -- A PLAN THAT PASSES THE CHECK IS WRITTEN THE SAME WITHOUT IT
  pub passed_written : (lent : ℕ) → write_plan j held order p lent ≡ write_steps order p lent
  passed_written lent = plan_fitting j held order p m e lent ∙ sym (steps_fitting order p own_order own_sets lent)
