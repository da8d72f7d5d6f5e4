-- How long plan bytes are: a step takes at most 1 + 9 + 9 + 1 = 20 of them, and the end step 1 + 9 = 10.
use mathlib.Core.Path.{◌≡◌, refl, sym, ap, ◌∙◌}
use mathlib.Core.List.{List, [], ◌∷◌}
use Prim.Native.Nat.{ℕ, zero, suc, ◌+◌, ◌*◌, ◌≤◌}
use native.Mathlib.Omega.{arith}
use lib.ListN.{length, length-append, length-map}
use Rattle.bitset.proofs.Bits.{bit_empty, same_by_bits}
use Rattle.job.specs.Refusal.{done, ◌>>=◌, room}
use Rattle.job.proofs.Laws.{done_same, refused≢done, both_done, bind_done}
use Rattle.job.proofs.Orders.{order_length}
use Rattle.job.proofs.Examination.{counts_bounds}
use Rattle.job_bytes.specs.SetBytes.{byte_at}
use Rattle.job_bytes.proofs.SetRoundTrip.{Bytes}
use Rattle.job.specs.Handed.{counts_known}
use Rattle.job.specs.Words.{Job}
use Rattle.drive.specs.Steps.{held_after, sets_of, moves}
use Rattle.drive.proofs.CheckExact.{AllKept, first_kept}
use Rattle.planning.specs.Plan.{Plan, steps, in_order}
use Rattle.planning.specs.Planning.{checking}
use Rattle.planning.proofs.CheckExact.{Passes, passed}
use Rattle.plan_bytes.specs.PlanBytes.{Contents, step_bytes, steps_bytes, end_bytes, plan_bytes, tests_of, plan_in, plan_steps, write_plan}
use Rattle.plan_bytes.specs.PlanBytes.{read_step, read_steps, read_plan_bytes}
use Rattle.plan_bytes.proofs.Writing.{one, field_le, field_none, step_length, step_le, end_le, no_end_bytes, list_bytes}
use Rattle.plan_bytes.proofs.ReadPlan.{plan_count}
use Rattle.plan_bytes.proofs.PlanRoundTrip.{plan_bytes_read}

pub bytes_le : (ts ds ls : List ℕ) → length (list_bytes ts ds ls) ≤ 20 * length ts
unfolding steps steps_bytes
bytes_le [] ds ls = omega arith
bytes_le (t ∷ ts) [] ls = omega arith
bytes_le (t ∷ ts) (d ∷ ds) [] = omega arith
bytes_le (t ∷ ts) (d ∷ ds) (l ∷ ls) = omega (arith, bytes_le ts ds ls, step_le t d l, length-append (step_bytes (one t d l)) (list_bytes ts ds ls))

pub plan_le : (order : List ℕ) (p : Plan) → length (plan_bytes order p) ≤ 20 * length order + 10
plan_le order p =
    omega (
      arith,
      length-append (list_bytes order p.drops p.loads) (end_bytes p.end),
      bytes_le order p.drops p.loads,
      end_le p.end,
    )

-- steps that keep the rules from an empty drive: the first drops nothing, so it takes at most 1 + 9 + 1 bytes; and where there is none, there is no end step
first_le : (wants ts ds ls : List ℕ) {capacity all : ℕ} (end : ℕ) → length ds ≡ length ts → length ls ≡ length ts
    → AllKept capacity all 0 (moves (in_order wants ts) ds ls) → end ≡ held_after 0 (sets_of (moves (in_order wants ts) ds ls))
    → length (list_bytes ts ds ls) + length (end_bytes end) ≤ 20 * length ts + 1
unfolding in_order moves held_after steps steps_bytes
first_le wants [] ds ls end nd nl ok e = omega (arith, ap length (no_end_bytes end e))
first_le wants (t ∷ ts) [] ls end nd nl ok e = absurd (omega arith)
first_le wants (t ∷ ts) (d ∷ ds) [] end nd nl ok e = absurd (omega arith)
first_le wants (t ∷ ts) (d ∷ ds) (l ∷ ls) end nd nl ok e =
    let none : d ≡ 0 = same_by_bits d 0 (λ c. omega (arith, (first_kept ok).0.drops c, bit_empty c)) in
    omega (
      arith,
      length-append (step_bytes (one t d l)) (list_bytes ts ds ls),
      step_length t d l,
      ap length (field_none d none),
      field_le l,
      bytes_le ts ds ls,
      end_le end,
    )

-- A PLAN THAT PASSES THE CHECK, whatever is held at the start, is written in at most 20 bytes for each test and 10 for the end step: 5,130
pub passed_length : (j : Job) (held : ℕ) (order : List ℕ) (p : Plan) (m : ℕ) → checking j held order p ≡ done m → length (plan_bytes order p) ≤ 5130
passed_length j held order p m e =
    let ok : Passes j held order p = passed j held order p m e in
    omega (arith, plan_le order p, order_length (length j.wants) order ok.is_order, ok.is_job.tests_bound)

-- FROM AN EMPTY DRIVE in at most 20 bytes for each test and one more: 5,121
pub empty_length : (j : Job) (order : List ℕ) (p : Plan) (m : ℕ) → checking j 0 order p ≡ done m → length (plan_bytes order p) ≤ 5121
empty_length j order p m e =
    let ok : Passes j 0 order p = passed j 0 order p m e in
    let n = order_length (length j.wants) order ok.is_order in
    omega (
      arith,
      length-append (list_bytes order p.drops p.loads) (end_bytes p.end),
      first_le j.wants order p.drops p.loads p.end (ok.drop_sets ∙ sym n) (ok.load_sets ∙ sym n) ok.steps ok.ends,
      ok.is_job.tests_bound,
    )

pub written_length : (j : Job) (held : ℕ) (order : List ℕ) (p : Plan) (lent : ℕ) (bytes : List ℕ) → write_plan j held order p lent ≡ done bytes
    → length bytes ≤ 5130
unfolding write_plan
written_length j held order p lent bytes e =
    let a = bind_done (checking j held order p) _ bytes e in
    let b = both_done (room lent (length (plan_bytes order p))) (done (plan_bytes order p)) bytes a.2 in
    omega (arith, passed_length j held order p a.0 a.1, ap length (done_same b.1))

-- A PLAN THAT READS has at most 20 bytes for each test, and 10 for the end step
pub read_length : (curves tests : ℕ) (bs : List ℕ) (c : Contents) → Bytes bs → plan_steps curves tests bs ≡ done c → length bs ≤ 20 * tests + 10
unfolding plan_steps
read_length curves tests bs c all e =
    let r : read_plan_bytes curves tests bs ≡ done c = (both_done (counts_known curves tests) _ c e).1 in
    omega (
      arith,
      ap length (plan_bytes_read curves tests bs c all r),
      plan_count curves tests bs c r,
      length-map c.steps (λ s. s.step.test),
      plan_le (tests_of c) (plan_in c),
    )

-- so at most 5,130
pub read_longest : (curves tests : ℕ) (bs : List ℕ) (c : Contents) → Bytes bs → plan_steps curves tests bs ≡ done c → length bs ≤ 5130
unfolding plan_steps
read_longest curves tests bs c all e =
    omega (arith, read_length curves tests bs c all e, (counts_bounds curves tests (both_done (counts_known curves tests) _ c e).0).1)

-- NO BYTES are a plan of no tests, and of no other number (02, wish 3)
pub no_bytes : (curves tests : ℕ) (c : Contents) → plan_steps curves tests [] ≡ done c → tests ≡ 0
unfolding plan_steps read_plan_bytes read_steps read_step byte_at ◌>>=◌
no_bytes curves zero c e = refl
no_bytes curves (suc n) c e = absurd (refused≢done (both_done (counts_known curves (suc n)) _ c e).1)
