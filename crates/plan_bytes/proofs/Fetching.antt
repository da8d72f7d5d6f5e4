-- A step fetched by its position: a step that was read lies within the plan bytes; and the part that is fetched, step by step.
use mathlib.Core.Path.{◌≡◌, refl, sym, ap, ◌∙◌}
use mathlib.Core.List.{List, [], ◌∷◌, ◌++◌, map, map-append, append-nil}
use Prim.Native.Nat.{ℕ, zero, suc, ◌+◌, ◌-◌, ◌*◌, ◌^◌, ◌≤◌}
use native.Mathlib.Omega.{arith}
use lib.Dec.{ltb}
use lib.ListN.{length, drop, length-drop, length-map}
use Rattle.bitset.specs.Set.{◌∪◌, bit, inside}
use Rattle.job.specs.Refusal.{Outcome, done, refused, demand}
use Rattle.lists.specs.Choice.{nobody, found}
use Rattle.job.specs.Handed.{between, all_curves, counts_known}
use Rattle.job_bytes.specs.SetBytes.{Got, got, byte_at, read_group, read_groups}
use Rattle.job.proofs.Laws.{done_same, refused≢done, both_done, bind_done}
use Rattle.std.specs.Prelude.{Ok}
use Rattle.plan_bytes.specs.declared.StepRead.{StepRead}
use Rattle.plan_bytes.specs.declared.StepPart.{StepPart}
use Rattle.plan_bytes.specs.PlanBytes.{Placed, Contents, read_set, read_step, read_plan_bytes, plan_steps, test_part, end_parts, part_at, fetched}
use Rattle.plan_bytes.specs.PlanBytes.{or_empty, step_part}
use Rattle.plan_bytes.specs.ContractWords.{step_outcome}
use Rattle.plan_bytes.proofs.Steps.{placed, counts_refused, counts_passed}

-- ---- what is read goes on in the bytes, and ends within them: g was read from offset i on, where the bytes end at offset n
pub record Within {A : Type 0} (i n : ℕ) (g : Got A) : Type 0 where
  pub on : i ≤ g.next
  pub ends : g.next + length g.rest ≡ n

byte_within : (o i n : ℕ) (bs : List ℕ) (g : Got ℕ) → i + length bs ≡ n → byte_at o i bs ≡ done g → Within i n g
unfolding byte_at
byte_within o i n [] g e d = absurd (refused≢done d)
byte_within o i n (b ∷ bs) g e d = let s : got b (suc i) bs ≡ g = done_same d in rw (← s) (record { on = omega arith; ends = omega arith })

group_within : (curves b j i n : ℕ) (bs : List ℕ) (g : Got ℕ) → i + length bs ≡ n → read_group 11 11 11 curves b j i bs ≡ done g → Within i n g
unfolding read_group
group_within curves zero j i n bs g e d = let s : got 0 i bs ≡ g = done_same d in rw (← s) (record { on = omega arith; ends = e })
group_within curves (suc b) j i n bs g e d =
    let x = bind_done (byte_at 11 i bs) _ g d in
    let w = byte_within 11 i n bs x.0 e x.1 in
    let y = both_done (demand (ltb 0 x.0.value) 11 i) _ g x.2 in
    let z = both_done (demand (inside (x.0.value * 2 ^ (8 * j)) (all_curves curves)) 11 i) _ g y.1 in
    let s : got (x.0.value * 2 ^ (8 * j)) x.0.next x.0.rest ≡ g = done_same z.1 in
    rw (← s) (record { on = w.on; ends = w.ends })

groups_within : (curves k j map s i n : ℕ) (bs : List ℕ) (g : Got ℕ) → i + length bs ≡ n → read_groups 11 11 11 curves k j map s i bs ≡ done g → Within i n g
unfolding read_groups
groups_within curves zero j map s i n bs g e d = let q : got s i bs ≡ g = done_same d in rw (← q) (record { on = omega arith; ends = e })
groups_within curves (suc k) j map s i n bs g e d =
    let x = bind_done (read_group 11 11 11 curves (bit j map) j i bs) _ g d in
    let w = group_within curves (bit j map) j i n bs x.0 e x.1 in
    let r = groups_within curves k (suc j) map (s ∪ x.0.value) x.0.next n x.0.rest g w.ends x.2 in
    record { on = omega (arith, w.on, r.on); ends = r.ends }

module _ (curves tests : ℕ) where
  set_within : (b i n : ℕ) (bs : List ℕ) (g : Got ℕ) → i + length bs ≡ n → read_set curves tests b i bs ≡ done g → Within i n g
  unfolding read_set
  set_within zero i n bs g e d = let s : got 0 i bs ≡ g = done_same d in rw (← s) (record { on = omega arith; ends = e })
  set_within (suc b) i n bs g e d =
      let x = bind_done (byte_at 11 i bs) _ g d in
      let w = byte_within 11 i n bs x.0 e x.1 in
      let y = both_done (demand (ltb 0 x.0.value) 11 i) _ g x.2 in
      let r = groups_within curves 8 0 x.0.value 0 x.0.next n x.0.rest g w.ends y.1 in
      record { on = omega (arith, w.on, r.on); ends = r.ends }

  pub step_within : (i n : ℕ) (bs : List ℕ) (g : Got Placed) → i + length bs ≡ n → read_step curves tests i bs ≡ done g → Within i n g
  unfolding read_step
  step_within i n bs g e d =
      let x = bind_done (byte_at 11 i bs) _ g d in
      let w = byte_within 11 i n bs x.0 e x.1 in
      let y = both_done (demand (between 4 7 x.0.value) 11 i) _ g x.2 in
      let ds = bind_done (read_set curves tests (bit 0 x.0.value) x.0.next x.0.rest) _ g y.1 in
      let v = set_within (bit 0 x.0.value) x.0.next n x.0.rest ds.0 w.ends ds.1 in
      let ls = bind_done (read_set curves tests (bit 1 x.0.value) ds.0.next ds.0.rest) _ g ds.2 in
      let u = set_within (bit 1 x.0.value) ds.0.next n ds.0.rest ls.0 v.ends ls.1 in
      let t = bind_done (byte_at 11 ls.0.next ls.0.rest) _ g ls.2 in
      let q = byte_within 11 ls.0.next n ls.0.rest t.0 u.ends t.1 in
      let z = both_done (demand (ltb t.0.value tests) 11 ls.0.next) _ g t.2 in
      let s : got (record { step = record { test = t.0.value; drops = ds.0.value; loads = ls.0.value }; from = i; until = t.0.next }) t.0.next
      t.0.rest ≡ g = done_same z.1 in
      rw (← s) (record { on = omega (arith, w.on, v.on, u.on, q.on); ends = q.ends })

  -- a step that was read in the plan bytes
  pub step_inside : (bs : List ℕ) (i : ℕ) (s : StepRead) → i ≤ length bs → step_outcome bs i (Ok s) ≡ read_step curves tests i (drop i bs)
      → (i ≤ s.next) × (s.next ≤ length bs)
  unfolding step_outcome
  step_inside bs i s h e =
      let w = step_within i (length bs) (drop i bs) (got (placed i s.test s.drops s.loads s.next) s.next (drop s.next bs))
      (simp length-drop (omega arith)) (sym e) in
      (w.on, omega (arith, w.ends, length-drop s.next bs))

-- ---- the part that is fetched

at_here : (p : ℕ) (acc rest : List StepPart) (q : StepPart) → length acc ≡ p → part_at p (acc ++ (q ∷ rest)) ≡ found q
unfolding part_at
at_here zero [] rest q e = refl
at_here (suc p) [] rest q e = absurd (omega arith)
at_here zero (x ∷ acc) rest q e = absurd (omega arith)
at_here (suc p) (x ∷ acc) rest q e = at_here p acc rest q (omega arith)

at_other : (p : ℕ) (acc : List StepPart) (q : StepPart) → (length acc ≡ p → ⊥) → part_at p (acc ++ (q ∷ [])) ≡ part_at p acc
unfolding part_at
at_other zero [] q e = absurd (e refl)
at_other (suc p) [] q e = refl
at_other zero (x ∷ acc) q e = refl
at_other (suc p) (x ∷ acc) q e = at_other p acc q (λ n. e (omega arith))

pub at_none : (p : ℕ) (acc : List StepPart) → length acc ≤ p → part_at p acc ≡ nobody
unfolding part_at
at_none p [] h = refl
at_none zero (x ∷ acc) h = absurd (omega arith)
at_none (suc p) (x ∷ acc) h = at_none p acc (omega arith)

module _ (bs : List ℕ) (p : ℕ) where
  -- the part of the step at position p among the steps acc, within the bytes bs
  pub record PartIs (acc : List Placed) (start count : ℕ) : Type 0 where
    pub part : or_empty bs (part_at p (map test_part acc)) ≡ record { start = start; count = count }
    pub inside : start + count ≤ length bs

  pub part_none : PartIs [] (length bs) 0
  unfolding part_at or_empty
  part_none = record { part = refl; inside = omega arith }

  pub part_here : (acc : List Placed) (s : Placed) → length acc ≡ p → s.from ≤ s.until → s.until ≤ length bs
      → PartIs (acc ++ (s ∷ [])) s.from (s.until - s.from)
  unfolding or_empty
  part_here acc s e l h =
      record {
        part = rw (map-append test_part acc (s ∷ []), at_here p (map test_part acc) [] (test_part s) (length-map acc test_part ∙ e)) refl;
        inside = omega arith;
      }

  pub part_other : (acc : List Placed) (s : Placed) (start count : ℕ) → (length acc ≡ p → ⊥) → PartIs acc start count
      → PartIs (acc ++ (s ∷ [])) start count
  part_other acc s start count e q =
      let o = at_other p (map test_part acc) (test_part s) (λ n. e (sym (length-map acc test_part) ∙ n)) in
      record { part = rw (map-append test_part acc (s ∷ []), o) q.part; inside = q.inside }

  -- the plan bytes that are refused
  pub part_refused : (o : Outcome Contents) (k i : ℕ) → o ≡ refused k i → record { start = length bs; count = 0 } ≡ or_empty bs (fetched bs p o)
  unfolding fetched or_empty
  part_refused o k i e = rw e refl

  -- those that read: the end step behind the steps acc, from offset i on
  module _ (o : Outcome Contents) (acc : List Placed) (i end : ℕ) (e : o ≡ done (record { steps = acc; behind = i; end = end })) where
    -- at another position, and where there is no end step, the steps decide
    by_steps : part_at p (map test_part acc ++ end_parts bs i end) ≡ part_at p (map test_part acc) → (start count : ℕ) → PartIs acc start count
        → record { start = start; count = count } ≡ or_empty bs (fetched bs p o)
    unfolding fetched
    by_steps h start count q = rw e (sym (ap (or_empty bs) h ∙ q.part))

    pub part_no_end : (start count : ℕ) → end ≡ 0 → PartIs acc start count → record { start = start; count = count } ≡ or_empty bs (fetched bs p o)
    unfolding end_parts
    part_no_end start count z q = by_steps (rw (z, append-nil (map test_part acc)) refl) start count q

    pub part_before : (start count : ℕ) → (length acc ≡ p → ⊥) → PartIs acc start count
        → record { start = start; count = count } ≡ or_empty bs (fetched bs p o)
    part_before start count n q = by_steps (go end) start count q
      where
        go : (s : ℕ) → part_at p (map test_part acc ++ end_parts bs i s) ≡ part_at p (map test_part acc)
        go zero = unfold end_parts in (ap (part_at p) (append-nil (map test_part acc)))
        go (suc s) = unfold end_parts in (at_other p (map test_part acc) _ (λ l. n (sym (length-map acc test_part) ∙ l)))

    -- the end step itself
    pub part_end : length acc ≡ p → (end ≡ 0 → ⊥) → record { start = i; count = length bs - i } ≡ or_empty bs (fetched bs p o)
    unfolding fetched
    part_end n z = rw e (sym (go end z))
      where
        go : (s : ℕ) → (s ≡ 0 → ⊥) → or_empty bs (part_at p (map test_part acc ++ end_parts bs i s)) ≡ record { start = i; count = length bs - i }
        go zero z = absurd (z refl)
        go (suc s) z = unfold end_parts or_empty in (rw (at_here p (map test_part acc) [] _ (length-map acc test_part ∙ n)) refl)

-- the counts come first
module _ (curves tests : ℕ) (bs : List ℕ) (p : ℕ) where
  pub part_uncounted : (k i : ℕ) → counts_known curves tests ≡ refused k i → record { start = length bs; count = 0 } ≡ step_part curves tests bs p
  unfolding step_part
  part_uncounted k i e = part_refused bs p (plan_steps curves tests bs) k i (counts_refused curves tests bs k i e)

  pub part_counted : counts_known curves tests ≡ done tt → or_empty bs (fetched bs p (read_plan_bytes curves tests bs)) ≡ step_part curves tests bs p
  unfolding step_part
  part_counted e = ap (λ (o : Outcome Contents). or_empty bs (fetched bs p o)) (sym (counts_passed curves tests bs e))
