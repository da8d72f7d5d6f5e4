-- The steps of plan bytes, one turn of a loop over them: what the rule comes to at the step whose first byte stands at offset i of the bytes bs, the steps
-- before it having been read.
use mathlib.Core.Path.{◌≡◌, refl, sym, ◌∙◌, subst}
use mathlib.Core.List.{List, [], ◌∷◌, ◌++◌, map, map-append, append_assoc}
use Prim.Native.Nat.{ℕ, suc, ◌+◌, ◌-◌, ◌≤◌, ◌<◌}
use native.Mathlib.Omega.{arith}
use lib.ListN.{length, get_or, drop, set, length-set, length-map, length-append}
use lib.Seq.{drop-cons, set_at}
use Rattle.std.specs.Prelude.{Ok, Err}
use Rattle.job.specs.declared.Refusal.{Refusal}
use Rattle.job.specs.Refusal.{Outcome, done, refused, number, figure, ◌>>=◌, mapped, leaves, overwritten}
use Rattle.job_bytes.specs.SetBytes.{Got, got}
use Rattle.job.specs.Handed.{counts_known}
use Rattle.job.proofs.Laws.{refused≢done, done_same, mapped_done, bind_done, done_both}
use Rattle.job.proofs.Examination.{refused_both}
use Rattle.plan_bytes.specs.declared.StepRead.{StepRead}
use Rattle.plan_bytes.specs.PlanBytes.{Placed, Contents, read_step, read_steps, read_end, read_plan_bytes, plan_steps}
use Rattle.plan_bytes.specs.ContractWords.{step_outcome}

-- a step that was read at offset i
abbrev pub placed : ℕ → ℕ → ℕ → ℕ → ℕ → Placed
placed i t d l next = record { step = record { test = t; drops = d; loads = l }; from = i; until = next }

-- k of the steps have been read, acc, and the next one stands at offset i
pub record Behind (curves tests k i : ℕ) (bs : List ℕ) (acc : List Placed) : Type 0 where
  pub count : length acc ≡ k
  pub goes : read_steps curves tests tests [] 0 bs ≡ read_steps curves tests (tests - k) acc i (drop i bs)

module _ (curves tests : ℕ) (bs : List ℕ) where
  pub begin : Behind curves tests 0 0 bs []
  begin = record { count = refl; goes = let e : tests - 0 ≡ tests = omega arith in rw e refl }

  module _ (k i : ℕ) (acc : List Placed) (b : Behind curves tests k i bs acc) where
    -- one step more
    module _ (h : k < tests) where
      turn : (o : Outcome (Got Placed)) → o ≡ read_step curves tests i (drop i bs)
          → read_steps curves tests tests [] 0 bs ≡ ◌>>=◌ o (λ s. read_steps curves tests (tests - (k + 1)) (acc ++ (s.value ∷ [])) s.next s.rest)
      unfolding read_steps
      turn o e = let n : tests - k ≡ suc (tests - (k + 1)) = omega arith in b.goes ∙ rw (n, e) refl

      pub step_more : (s : StepRead) → step_outcome bs i (Ok s) ≡ read_step curves tests i (drop i bs)
          → Behind curves tests (k + 1) s.next bs (acc ++ (placed i s.test s.drops s.loads s.next ∷ []))
      unfolding step_outcome ◌>>=◌
      step_more s e = record { count = simp length-append (omega (arith, b.count)); goes = turn _ e }

      pub step_faulty : (x : Refusal) → step_outcome bs i (Err x) ≡ read_step curves tests i (drop i bs)
          → read_plan_bytes curves tests bs ≡ refused (number x) (figure x)
      unfolding step_outcome read_plan_bytes ◌>>=◌
      step_faulty x e = rw (turn _ e) refl

    -- behind the last step
    module _ (h : tests ≤ k) where
      last : read_steps curves tests tests [] 0 bs ≡ done (got acc i (drop i bs))
      unfolding read_steps
      last = let n : tests - k ≡ 0 = omega arith in b.goes ∙ rw n refl

      -- what stands there decides
      pub end_refused : (n f : ℕ) → read_end curves tests i (drop i bs) ≡ refused n f → read_plan_bytes curves tests bs ≡ refused n f
      unfolding read_plan_bytes ◌>>=◌
      end_refused n f e = rw (last, e) refl

      pub whole : (end : ℕ) → read_end curves tests i (drop i bs) ≡ done end
          → read_plan_bytes curves tests bs ≡ done (record { steps = acc; behind = i; end = end })
      unfolding read_plan_bytes ◌>>=◌
      whole end e = rw (last, e) refl

      -- the examination of the bytes answers the end set, or the refusal
      pub end_examined : (r : Outcome ℕ) → r ≡ read_end curves tests i (drop i bs) → r ≡ mapped (λ c. c.end) (read_plan_bytes curves tests bs)
      unfolding mapped
      end_examined (done end) e = sym (rw (whole end (sym e)) refl)
      end_examined (refused n f) e = sym (rw (end_refused n f (sym e)) refl)

-- bytes that read: their steps, and what stands behind these
pub record BytesRead (curves tests : ℕ) (bs : List ℕ) (c : Contents) : Type 0 where
  pub rest : List ℕ
  pub steps : read_steps curves tests tests [] 0 bs ≡ done (got c.steps c.behind rest)
  pub end : read_end curves tests c.behind rest ≡ done c.end

pub bytes_read : (curves tests : ℕ) (bs : List ℕ) (c : Contents) → read_plan_bytes curves tests bs ≡ done c → BytesRead curves tests bs c
unfolding read_plan_bytes
bytes_read curves tests bs c e =
    let x = bind_done (read_steps curves tests tests [] 0 bs) _ c e in
    let y = bind_done (read_end curves tests x.0.next x.0.rest) _ c x.2 in
    let s : record { steps = x.0.value; behind = x.0.next; end = y.0 } ≡ c = done_same y.2 in
    subst (BytesRead curves tests bs) s (record { rest = x.0.rest; steps = x.1; end = y.1 })

-- ---- the counts, and then the steps
module _ (curves tests : ℕ) (bs : List ℕ) where
  pub counts_refused : (k i : ℕ) → counts_known curves tests ≡ refused k i → plan_steps curves tests bs ≡ refused k i
  unfolding plan_steps
  counts_refused k i e = refused_both _ _ k i e

  pub counts_passed : counts_known curves tests ≡ done tt → plan_steps curves tests bs ≡ read_plan_bytes curves tests bs
  unfolding plan_steps
  counts_passed e = done_both _ _ e

-- ---- lists that are filled step by step

-- one entry more
put_next : (new old : List ℕ) (k v : ℕ) → length new ≡ k → k < length old → set (overwritten new old) k v ≡ overwritten (new ++ (v ∷ [])) old
unfolding overwritten
put_next new old k v n h =
    let e : length (new ++ (v ∷ [])) ≡ suc k = simp length-append (omega arith) in
    rw (e, n, drop-cons old k 0 h) (set_at new (get_or old k 0) (drop (suc k) old) v k n ∙ sym (append_assoc new (v ∷ []) (drop (suc k) old)))

-- a list that held `old` and now has an entry for each of the steps acc
pub record Filled (f : Placed → ℕ) (acc : List Placed) (old new : List ℕ) : Type 0 where
  pub entries : new ≡ overwritten (map f acc) old
  pub long : length new ≡ length old

module _ (f : Placed → ℕ) (old : List ℕ) where
  pub fill_none : Filled f [] old old
  unfolding overwritten
  fill_none = record { entries = refl; long = refl }

  pub fill_more : (acc : List Placed) (new : List ℕ) (k : ℕ) (s : Placed) → length acc ≡ k → k < length old → Filled f acc old new
      → Filled f (acc ++ (s ∷ [])) old (set new k (f s))
  fill_more acc new k s n h F =
      let m : length (map f acc) ≡ k = length-map acc f ∙ n in
      record { entries = rw (map-append f acc (s ∷ []), F.entries) (put_next (map f acc) old k (f s) m h); long = simp length-set F.long }

  -- what is left of it, where the plan reads
  pub fill_all : (c : Contents) (new : List ℕ) (o : Outcome Contents) → o ≡ done c → Filled f c.steps old new
      → new ≡ leaves (mapped (λ x. map f x.steps) o) old
  unfolding leaves mapped
  fill_all c new o e F = rw e F.entries

-- a plan that reads, all of whose steps have been read
pub all_read : (curves tests : ℕ) (bs : List ℕ) (k i : ℕ) (acc : List Placed) → Behind curves tests k i bs acc → tests ≤ k
    → mapped (λ _. tt) (read_plan_bytes curves tests bs) ≡ done (tt {0})
    → (end : ℕ) × (read_plan_bytes curves tests bs ≡ done (record { steps = acc; behind = i; end = end }))
all_read curves tests bs k i acc b h e = go (read_end curves tests i (drop i bs)) refl
  where
    go : (o : Outcome ℕ) → read_end curves tests i (drop i bs) ≡ o
        → (end : ℕ) × (read_plan_bytes curves tests bs ≡ done (record { steps = acc; behind = i; end = end }))
    go (done end) r = (end, whole curves tests bs k i acc b h end r)
    go (refused n f) r =
        absurd (refused≢done (sym (end_refused curves tests bs k i acc b h n f r) ∙ (mapped_done (λ _. tt) (read_plan_bytes curves tests bs) tt e).1))

-- a plan that reads has no fault
pub no_fault : {A : Type 0} (o : Outcome A) (n f : ℕ) → mapped (λ _. tt) o ≡ done (tt {0}) → o ≡ refused n f → ⊥
no_fault o n f e r = refused≢done (sym r ∙ (mapped_done (λ _. tt) o tt e).1)
