-- "A step's bytes can be fetched by position": the part that is fetched is what is written for that step, and the parts of all steps, one after the other, are
-- the plan bytes.
use mathlib.Core.Path.{◌≡◌, refl, sym, ap, ◌∙◌, subst}
use mathlib.Core.List.{List, [], ◌∷◌, ◌++◌, map, append_assoc, append-nil}
use Prim.Native.Nat.{ℕ, zero, suc, ◌+◌, ◌-◌, ◌≤◌, ◌<◌}
use native.Mathlib.Omega.{arith}
use lib.Dec.{ltb}
use lib.ListN.{length, get_or, drop, length-append, length-map}
use lib.Seq.{drop-drop, drop_at, take_at}
use Rattle.bitset.specs.Set.{bit}
use Rattle.job.specs.Refusal.{done, demand}
use Rattle.job.specs.Handed.{between, counts_known}
use Rattle.job_bytes.specs.SetBytes.{Got, got, byte_at}
use Rattle.job.proofs.Laws.{done_same, both_done, bind_done}
use Rattle.job_bytes.proofs.SetRoundTrip.{Bytes}
use Rattle.job_bytes.proofs.Encoding.{rest_is}
use Rattle.planning.specs.Plan.{steps}
use Rattle.plan_bytes.specs.PlanBytes.{Placed, Contents, step_bytes, steps_bytes, end_bytes, read_set, read_step, read_steps, read_plan_bytes, plan_steps}
use Rattle.plan_bytes.specs.PlanBytes.{test_part, end_parts, parts_of, part_at, fetched, or_empty, step_part, in_part, step_at}
use Rattle.plan_bytes.proofs.Writing.{list_bytes}
use Rattle.plan_bytes.proofs.Steps.{bytes_read}
use Rattle.plan_bytes.proofs.ReadPlan.{plan_count}
use Rattle.plan_bytes.proofs.Fetching.{step_within, at_none}
use Rattle.plan_bytes.proofs.PlanRoundTrip.{StepRead, step_read, steps_read_tail, end_read, plan_bytes_read}

-- the steps ss lie in the bytes bs, one behind the other, from offset i to offset b
abbrev Laid : List ℕ → ℕ → List Placed → ℕ → Type 0
Laid bs i [] b = i ≡ b
Laid bs i (s ∷ ss) b =
    (s.from ≡ i) × (s.until ≡ i + length (step_bytes s.step)) × (drop i bs ≡ step_bytes s.step ++ drop s.until bs) × Laid bs s.until ss b

module _ (curves tests : ℕ) where
  -- a step that was read knows where it lies
  step_placed : (i : ℕ) (bs : List ℕ) (g : Got Placed) → read_step curves tests i bs ≡ done g → (g.value.from ≡ i) × (g.value.until ≡ g.next)
  unfolding read_step
  step_placed i bs g d =
      let x = bind_done (byte_at 11 i bs) _ g d in
      let y = both_done (demand (between 4 7 x.0.value) 11 i) _ g x.2 in
      let ds = bind_done (read_set curves tests (bit 0 x.0.value) x.0.next x.0.rest) _ g y.1 in
      let ls = bind_done (read_set curves tests (bit 1 x.0.value) ds.0.next ds.0.rest) _ g ds.2 in
      let t = bind_done (byte_at 11 ls.0.next ls.0.rest) _ g ls.2 in
      let z = both_done (demand (ltb t.0.value tests) 11 ls.0.next) _ g t.2 in
      let s : got (record { step = record { test = t.0.value; drops = ds.0.value; loads = ls.0.value }; from = i; until = t.0.next }) t.0.next
      t.0.rest ≡ g = done_same z.1 in
      (sym (ap (λ (h : Got Placed). h.value.from) s), sym (ap (λ (h : Got Placed). h.value.until) s) ∙ ap (λ (h : Got Placed). h.next) s)

  module _ (bs : List ℕ) where
    record LaidFrom (acc : List Placed) (i : ℕ) (g : Got (List Placed)) : Type 0 where
      ss : List Placed
      value : g.value ≡ acc ++ ss
      laid : Laid bs i ss g.next
      rest : g.rest ≡ drop g.next bs

    steps_laid : (k : ℕ) (acc : List Placed) (i : ℕ) (cs : List ℕ) (g : Got (List Placed)) → Bytes cs → cs ≡ drop i bs
        → i + length cs ≡ length bs → read_steps curves tests k acc i cs ≡ done g → LaidFrom acc i g
    unfolding read_steps
    steps_laid zero acc i cs g all p n e =
        let s : got acc i cs ≡ g = done_same e in
        record {
          ss = [];
          value = sym (ap (λ (h : Got (List Placed)). h.value) s) ∙ sym (append-nil acc);
          laid = ap (λ (h : Got (List Placed)). h.next) s;
          rest = rw (← s) p;
        }
    steps_laid (suc k) acc i cs g all p n e =
        let x = bind_done (read_step curves tests i cs) _ g e in
        let r : StepRead curves tests cs x.0 = step_read curves tests i cs x.0 all x.1 in
        let w = step_within curves tests i (length bs) cs x.0 n x.1 in
        let f = step_placed i cs x.0 x.1 in
        let s = x.0.value in
        let u : x.0.next ≡ i + length (step_bytes s.step) =
        omega (arith, w.ends, ap length r.bytes, length-append (step_bytes s.step) x.0.rest) in
        let q : x.0.rest ≡ drop x.0.next bs =
        sym (drop_at (step_bytes s.step) x.0.rest (length (step_bytes s.step)) refl) ∙ ap (drop (length (step_bytes s.step))) (sym r.bytes ∙ p)
        ∙ drop-drop (length (step_bytes s.step)) i bs ∙ ap (λ (m : ℕ). drop m bs) (sym u) in
        let t : LaidFrom (acc ++ (s ∷ [])) x.0.next g = steps_laid k (acc ++ (s ∷ [])) x.0.next x.0.rest g r.tail q w.ends x.2 in
        record {
          ss = s ∷ t.ss;
          value = t.value ∙ append_assoc acc (s ∷ []) t.ss;
          laid = (
            f.0,
            f.1 ∙ u,
            sym p ∙ r.bytes ∙ ap (λ (l : List ℕ). step_bytes s.step ++ l) (q ∙ ap (λ (m : ℕ). drop m bs) (sym f.1)),
            subst (λ (m : ℕ). Laid bs m t.ss g.next) (sym f.1) t.laid,
          );
          rest = t.rest;
        }

    plan_laid : (c : Contents) → Bytes bs → read_plan_bytes curves tests bs ≡ done c
        → Laid bs 0 c.steps c.behind × (drop c.behind bs ≡ end_bytes c.end)
    plan_laid c all e =
        let x = bytes_read curves tests bs c e in
        let r : LaidFrom [] 0 (got c.steps c.behind x.rest) = steps_laid tests [] 0 bs _ all refl (omega arith) x.steps in
        let b = steps_read_tail curves tests bs c all x.rest x.steps in (
          subst (λ (ss : List Placed). Laid bs 0 ss c.behind) (sym r.value) r.laid,
          sym r.rest ∙ end_read curves tests c.behind x.rest c.end b x.end,
        )

-- ---- the part at a position
module _ (bs : List ℕ) where
  part_is : (i b : ℕ) (s : Placed) (ss : List Placed) → Laid bs i (s ∷ ss) b → in_part bs (test_part s) ≡ step_bytes s.step
  part_is i b s ss l =
      let n : length (step_bytes s.step) ≡ s.until - s.from = omega (arith, l.0, l.1) in
      rw l.0 (rw (l.2, ← (ap (λ (m : ℕ). s.until - m) l.0)) (take_at (step_bytes s.step) (drop s.until bs) (s.until - s.from) n))

  -- what is written of each step in turn, and then of the end set: no bytes where there is no end step
  abbrev written_of : List Placed → ℕ → List (List ℕ)
  written_of ss end = map (λ s. step_bytes s.step) ss ++ (end_bytes end ∷ [])

  end_at : (b end p : ℕ) → drop b bs ≡ end_bytes end → in_part bs (or_empty bs (part_at p (end_parts bs b end))) ≡ get_or (end_bytes end ∷ []) p []
  unfolding or_empty part_at end_parts end_bytes
  end_at b zero zero e = refl
  end_at b zero (suc p) e = refl
  end_at b (suc s) zero e = rest_is bs b ∙ e
  end_at b (suc s) (suc p) e = refl

  parts_at : (i b end p : ℕ) (ss : List Placed) → Laid bs i ss b → drop b bs ≡ end_bytes end
      → in_part bs (or_empty bs (part_at p (map test_part ss ++ end_parts bs b end))) ≡ get_or (written_of ss end) p []
  unfolding or_empty part_at
  parts_at i b end p [] l e = end_at b end p e
  parts_at i b end zero (s ∷ ss) l e = part_is i b s ss l
  parts_at i b end (suc p) (s ∷ ss) l e = parts_at s.until b end p ss l.3 e

-- n lists of bytes, one after the other
unfoldable pub joined : ℕ → (ℕ → List ℕ) → List ℕ
joined zero f = []
joined (suc n) f = f 0 ++ joined n (λ p. f (suc p))

same : (n : ℕ) (f g : ℕ → List ℕ) → ((p : ℕ) → f p ≡ g p) → joined n f ≡ joined n g
unfolding joined
same zero f g h = refl
same (suc n) f g h =
    ap (λ (l : List ℕ). l ++ joined n (λ p. f (suc p))) (h 0) ∙ ap (λ (l : List ℕ). g 0 ++ l) (same n (λ p. f (suc p)) (λ p. g (suc p)) (λ p. h (suc p)))

all_written : (bs : List ℕ) (ss : List Placed) (end : ℕ)
    → joined (suc (length ss)) (λ p. get_or (written_of bs ss end) p [])
    ≡ list_bytes (map (λ s. s.step.test) ss) (map (λ s. s.step.drops) ss) (map (λ s. s.step.loads) ss) ++ end_bytes end
unfolding joined steps steps_bytes
all_written bs [] end = append-nil (end_bytes end)
all_written bs (s ∷ ss) end =
    ap (λ (l : List ℕ). step_bytes s.step ++ l) (all_written bs ss end)
    ∙ sym (append_assoc (step_bytes s.step)
    (list_bytes (map (λ s. s.step.test) ss) (map (λ s. s.step.drops) ss) (map (λ s. s.step.loads) ss)) (end_bytes end))

module _ (curves tests : ℕ) (bs : List ℕ) (c : Contents) (e : plan_steps curves tests bs ≡ done c) where
  reads : read_plan_bytes curves tests bs ≡ done c
  unfolding plan_steps
  reads = (both_done (counts_known curves tests) (read_plan_bytes curves tests bs) c e).1

  part_of : (p : ℕ) → step_part curves tests bs p ≡ or_empty bs (part_at p (parts_of bs c))
  unfolding step_part fetched
  part_of p = rw e refl

  -- THE PART THAT IS FETCHED at a position, of a plan that reads, is what is written for that step, and at the number of tests for the end set
  pub fetched_step : Bytes bs → (p : ℕ) → step_at curves tests bs p ≡ get_or (written_of bs c.steps c.end) p []
  fetched_step all p =
      let l = plan_laid curves tests bs c all reads in
      ap (in_part bs) (part_of p) ∙ parts_at bs 0 c.behind c.end p c.steps l.0 l.1

  -- THE PARTS OF ALL STEPS, one after the other, are the plan bytes
  pub fetched_all : Bytes bs → joined (suc tests) (step_at curves tests bs) ≡ bs
  fetched_all all =
      same (suc tests) (step_at curves tests bs) (λ p. get_or (written_of bs c.steps c.end) p []) (fetched_step all)
      ∙ ap (λ (n : ℕ). joined (suc n) (λ p. get_or (written_of bs c.steps c.end) p [])) (sym (plan_count curves tests bs c reads))
      ∙ all_written bs c.steps c.end ∙ plan_bytes_read curves tests bs c all reads

  -- behind the end step, and behind the last test where there is none: "the empty part at their end"
  empty_part : (p : ℕ) → length (parts_of bs c) ≤ p → step_part curves tests bs p ≡ record { start = length bs; count = 0 }
  unfolding or_empty
  empty_part p h = part_of p ∙ ap (or_empty bs) (at_none p (parts_of bs c) h)

  steps_count : length (map test_part c.steps) ≡ tests
  steps_count = length-map c.steps test_part ∙ plan_count curves tests bs c reads

  pub fetched_none : (p : ℕ) → tests < p → step_part curves tests bs p ≡ record { start = length bs; count = 0 }
  fetched_none p h =
      empty_part p (omega (arith, length-append (map test_part c.steps) (end_parts bs c.behind c.end), steps_count, one_end c.end))
    where
      one_end : (s : ℕ) → length (end_parts bs c.behind s) ≤ 1
      one_end zero = unfold end_parts in (omega arith)
      one_end (suc s) = unfold end_parts in (omega arith)

  pub fetched_no_end : c.end ≡ 0 → step_part curves tests bs tests ≡ record { start = length bs; count = 0 }
  fetched_no_end z =
      let none : end_parts bs c.behind c.end ≡ [] = rw z (unfold end_parts in refl) in
      empty_part tests (omega (arith, length-append (map test_part c.steps) (end_parts bs c.behind c.end), steps_count, ap length none))
