-- What reading a plan answers and leaves, case by case: "reading a plan 11, 9", after 10.
use mathlib.Core.Path.{◌≡◌, refl, sym, ap, ◌∙◌}
use mathlib.Core.List.{List, [], ◌∷◌, ◌++◌}
use Prim.Native.Nat.{ℕ, zero, suc, ◌+◌, ◌≤◌, ◌<◌, min}
use native.Mathlib.Omega.{arith}
use lib.ListN.{length, length-append}
use borrow.Author.Tests.{lt-leb}
use Rattle.job.specs.Refusal.{Outcome, done, refused, ◌>>=◌, ◌>>◌, mapped, demand, room, leaves}
use Rattle.job_bytes.specs.SetBytes.{Got, got}
use Rattle.job.specs.Handed.{counts_known}
use Rattle.job.proofs.Laws.{done_same, both_done, bind_done, done_both, done_room, mapped_done, mapped_refused}
use Rattle.plan_bytes.specs.PlanBytes.{Placed, Contents, tests_of, plan_in, read_step, read_steps, read_plan_bytes, plan_steps, read_plan, plan_read}
use Rattle.plan_bytes.specs.PlanBytes.{read_plan_answer, read_plan_order, read_plan_lists}
use Rattle.planning.specs.declared.CountEnd.{CountEnd}
use Rattle.planning.specs.Plan.{SetLists, set_lists, entries}
use Rattle.plan_bytes.proofs.Steps.{counts_passed, bytes_read}

-- "There are as many steps as tests."
module _ (curves tests : ℕ) where
  steps_count : (k : ℕ) (acc : List Placed) (i : ℕ) (bs : List ℕ) (g : Got (List Placed)) → read_steps curves tests k acc i bs ≡ done g
      → length g.value ≡ length acc + k
  unfolding read_steps
  steps_count zero acc i bs g e = let s : got acc i bs ≡ g = done_same e in rw (← s) (omega arith)
  steps_count (suc k) acc i bs g e =
      let x = bind_done (read_step curves tests i bs) _ g e in
      let r = steps_count k (acc ++ (x.0.value ∷ [])) x.0.next x.0.rest g x.2 in
      omega (arith, length-append acc (x.0.value ∷ []))

  pub plan_count : (bs : List ℕ) (c : Contents) → read_plan_bytes curves tests bs ≡ done c → length c.steps ≡ tests
  plan_count bs c e = omega (arith, steps_count tests [] 0 bs _ (bytes_read curves tests bs c e).steps)

mapped_is : {A B : Type 0} (f : A → B) (o : Outcome A) (a : A) → o ≡ done a → mapped f o ≡ done (f a)
unfolding mapped
mapped_is f o a e = rw e refl

-- ---- the examination of the bytes
module _ (curves tests : ℕ) (bs : List ℕ) where
  abbrev examined : Outcome ℕ
  examined = mapped (λ c. c.end) (plan_steps curves tests bs)

  pub bad_bytes : (k i lent : ℕ) → examined ≡ refused k i → read_plan curves tests bs lent ≡ refused k i
  unfolding read_plan ◌>>=◌
  bad_bytes k i lent e = rw (mapped_refused (λ c. c.end) (plan_steps curves tests bs) k i e) refl

  module _ (end : ℕ) (e : examined ≡ done end) where
    pub passed : (c : Contents) × (plan_steps curves tests bs ≡ done c) × (c.end ≡ end)
    passed = mapped_done (λ c. c.end) (plan_steps curves tests bs) end e

    pub bytes_counts : counts_known curves tests ≡ done tt
    unfolding plan_steps
    bytes_counts = (both_done (counts_known curves tests) (read_plan_bytes curves tests bs) passed.0 passed.1).0

    reads : read_plan_bytes curves tests bs ≡ done passed.0
    reads = sym (counts_passed curves tests bs bytes_counts) ∙ passed.1

    pub bytes_passed : mapped (λ _. tt) (read_plan_bytes curves tests bs) ≡ done (tt {0})
    bytes_passed = mapped_is (λ _. tt) (read_plan_bytes curves tests bs) passed.0 reads

    pub too_short : (lent : ℕ) → lent < tests → read_plan curves tests bs lent ≡ refused 9 tests
    unfolding read_plan ◌>>=◌ ◌>>◌ room demand
    too_short lent h = rw (passed.1, lt-leb tests lent h) refl

    pub all_fit : (lent : ℕ) → tests ≤ lent → read_plan curves tests bs lent ≡ done passed.0
    unfolding read_plan ◌>>=◌
    all_fit lent h = rw passed.1 (done_both _ _ (done_room lent tests h))

  -- ---- the whole
  module _ (order : List ℕ) (lent : SetLists) where
    abbrev pub Contract : Outcome CountEnd → List ℕ → SetLists → Type 0
    Contract answer newOrder lists =
        (answer ≡ read_plan_answer curves tests bs order lent)
        × ((newOrder ≡ read_plan_order curves tests bs order lent) × (lists ≡ read_plan_lists curves tests bs order lent))

    -- the answer, and "Nothing lent changes under a refusal"
    pub plan_refused : (k i : ℕ) → plan_read curves tests bs order lent ≡ refused k i → Contract (refused k i) order lent
    unfolding read_plan_answer read_plan_order read_plan_lists mapped leaves
    plan_refused k i e = (rw e refl, (rw e refl, rw e refl))

    -- .. and what is left of the lists where the plan reads and they take it
    pub plan_given : (end : ℕ) (e : examined ≡ done end) (newOrder newDrops newLoads : List ℕ) → tests ≤ min (length order) (entries lent)
        → newOrder ≡ leaves (mapped tests_of (read_plan_bytes curves tests bs)) order
        → newDrops ≡ leaves (mapped (λ c. (plan_in c).drops) (read_plan_bytes curves tests bs)) lent.drops
        → newLoads ≡ leaves (mapped (λ c. (plan_in c).loads) (read_plan_bytes curves tests bs)) lent.loads
        → Contract (done (record { count = tests; end = end })) newOrder (set_lists newDrops newLoads)
    unfolding read_plan_answer read_plan_order read_plan_lists
    plan_given end e newOrder newDrops newLoads h o d l =
        let c = (passed end e).0 in
        let f : plan_read curves tests bs order lent ≡ done c = all_fit end e _ h in
        let r = f ∙ sym (reads end e) in
        let n = plan_count curves tests bs c (reads end e) in
        let a = mapped_is {B = CountEnd} (λ x. record { count = length x.steps; end = x.end }) (plan_read curves tests bs order lent) c f in
        let z = (passed end e).2 in
        let q : ◌≡◌ {A = CountEnd} (record { count = length c.steps; end = c.end }) (record { count = tests; end = end }) =
        λ k. record { count = n k; end = z k } in
        (sym (a ∙ ap done q), (rw r o, rw (r, ← d, ← l) refl))
