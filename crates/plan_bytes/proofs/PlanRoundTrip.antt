-- "Writing and reading undo each other for .. every plan our check passes": plan bytes.
use mathlib.Core.Path.{◌≡◌, refl, sym, ap, ◌∙◌, subst}
use mathlib.Core.Bool.{◌&&◌}
use mathlib.Core.List.{List, [], ◌∷◌, ◌++◌, map, append_assoc, append-nil}
use Prim.Native.Nat.{ℕ, zero, suc, ◌+◌, ◌*◌, ◌/◌, ◌%◌, ◌^◌, ◌≤◌, ◌<◌}
use native.Mathlib.Omega.{arith}
use lib.Dec.{leb, ltb, eqb}
use lib.Pow.{pow-add, pow_mono}
use lib.ListN.{length, length-append}
use borrow.Author.Tests.{ltb-true, leb-true, eqb-true, lt-ltb, le-leb}
use Rattle.bitset.specs.Set.{bit}
use Rattle.bitset.proofs.Bits.{bit_zero, bit_suc}
use Rattle.job.specs.Refusal.{done, ◌>>=◌, ◌>>◌, demand, room}
use Rattle.job.specs.Handed.{between, all_curves, counts_known}
use Rattle.job_bytes.specs.SetBytes.{stands, group_map, group_bytes, set_bytes, Got, got, byte_at, read_groups}
use Rattle.job_bytes.specs.JobBytes.{at_end}
use Rattle.job.proofs.Laws.{both, done_same, refused≢done, demand_true, both_done, done_both, bind_done, done_room}
use Rattle.job_bytes.proofs.SetRoundTrip.{set_back, Bytes, SetRead, set_read}
use Rattle.job_bytes.proofs.JobRoundTrip.{end_none}
use native.Mathlib.Decide.{dec_le}
use Rattle.bitset.proofs.Parts.{◌≼◌, ≼-inside, in_range as set-in-range}
use Rattle.job.proofs.JobExact.{inside_below, job_counts}
use Rattle.job.specs.Words.{Job, capacity, count}
use Rattle.job.proofs.Orders.{one_same, order_length}
use Rattle.drive.specs.Steps.{held_after, moved, moves}
use Rattle.drive.proofs.CheckExact.{AllKept, first_kept, moved-≼, held-≼}
use Rattle.planning.specs.Plan.{Plan, steps, in_order}
use Rattle.planning.specs.Planning.{plan_sets, checking}
use Rattle.planning.proofs.CheckExact.{Passes, passed}
use Rattle.plan_bytes.specs.PlanBytes.{set_field, step_bytes, steps_bytes, end_bytes, plan_bytes, Placed, Contents, tests_of, plan_in, read_set, read_step}
use Rattle.plan_bytes.specs.PlanBytes.{read_steps, read_end, read_plan_bytes, plan_steps, write_plan}
use Rattle.job_bytes.proofs.Encoding.{stands_le}
use Rattle.plan_bytes.proofs.Writing.{one, list_bytes}
use Rattle.plan_bytes.proofs.Steps.{bytes_read}

-- ---- a set that is not empty has a group map that is not zero

stands_none : (b : ℕ) → stands b ≡ 0 → b ≡ 0
unfolding stands
stands_none zero e = refl
stands_none (suc b) e = absurd (omega arith)

map_none : (k s : ℕ) → s < 2 ^ (8 * k) → group_map k s ≡ 0 → s ≡ 0
unfolding group_map
map_none zero s h e = omega arith
map_none (suc k) s h e =
    let p : 8 * suc k ≡ 8 + 8 * k = omega arith in
    let l : s / 256 < 2 ^ (8 * k) = omega (arith, rw (p, pow-add 2 8 (8 * k)) at h) in
    let a : s % 256 ≡ 0 = stands_none (s % 256) (omega arith) in
    let b : s / 256 ≡ 0 = map_none k (s / 256) l (omega arith) in
    omega arith

map_zero : group_map 8 0 ≡ 0
unfolding group_map stands
map_zero = refl

-- the map of a step is made of its bits: 4 stands, and nothing above
step_map : (M : ℕ) → 4 ≤ M → M ≤ 7 → M ≡ bit 0 M + 2 * bit 1 M + 4
step_map M l h = omega (arith, bit_zero M, bit_suc 0 M, bit_zero (M / 2))

-- ---- written, then read
module _ (curves tests : ℕ) (few : curves ≤ 64) where
  field_back : (i s : ℕ) (rest : List ℕ) → s < 2 ^ curves
      → read_set curves tests (stands s) i (set_field s ++ rest) ≡ done (got s (i + length (set_field s)) rest)
  unfolding read_set set_field stands set_bytes byte_at demand ◌>>=◌ ◌>>◌
  field_back i zero rest h = let n : i ≡ i + 0 = omega arith in rw (← n) refl
  field_back i (suc s) rest h =
      let n : suc i + length (group_bytes 8 (suc s)) ≡ i + suc (length (group_bytes 8 (suc s))) = omega arith in
      rw (lt-ltb 0 (group_map 8 (suc s)) (positive (group_map 8 (suc s)) refl)) (set_back 11 11 11 curves (suc i) (suc s) rest few h ∙ rw n refl)
    where
      positive : (m : ℕ) → group_map 8 (suc s) ≡ m → 0 < m
      positive zero e = absurd (omega (arith, map_none 8 (suc s) (omega (arith, pow_mono few)) e))
      positive (suc m) e = omega arith

  abbrev step_of : ℕ → ℕ → ℕ → ℕ → Placed
  step_of i t d l = record { step = one t d l; from = i; until = i + length (step_bytes (one t d l)) }

  step_back : (i t d l : ℕ) (rest : List ℕ) → t < tests → d < 2 ^ curves → l < 2 ^ curves
      → read_step curves tests i (step_bytes (one t d l) ++ rest) ≡ done (got (step_of i t d l) (i + length (step_bytes (one t d l))) rest)
  unfolding read_step step_bytes byte_at between demand ◌>>=◌ ◌>>◌
  step_back i t d l rest ht hd hl =
      let a = stands d in
      let b = stands l in
      let la = stands_le d in
      let lb = stands_le l in
      let b0 : bit 0 (a + 2 * b + 4) ≡ a = omega arith in
      let b1 : bit 1 (a + 2 * b + 4) ≡ b = omega arith in
      let n : suc (suc i + length (set_field d) + length (set_field l)) ≡ i + suc (length (set_field d ++ set_field l ++ (t ∷ []))) =
      simp length-append (omega arith) in
      rw (
        le-leb 4 (a + 2 * b + 4) (omega arith),
        le-leb (a + 2 * b + 4) 7 (omega arith),
        b0,
        b1,
        append_assoc (set_field d ++ set_field l) (t ∷ []) rest,
        append_assoc (set_field d) (set_field l) (t ∷ rest),
        field_back (suc i) d (set_field l ++ (t ∷ rest)) hd,
        field_back (suc i + length (set_field d)) l (t ∷ rest) hl,
        lt-ltb t tests ht,
        n,
      ) refl

  -- the steps of a plan, in their bytes from offset i on
  steps_of : ℕ → List ℕ → List ℕ → List ℕ → List Placed
  steps_of i [] ds ls = []
  steps_of i (t ∷ ts) [] ls = []
  steps_of i (t ∷ ts) (d ∷ ds) [] = []
  steps_of i (t ∷ ts) (d ∷ ds) (l ∷ ls) = step_of i t d l ∷ steps_of (i + length (step_bytes (one t d l))) ts ds ls

  -- a test, a drop set and a load set for each step, all of the job
  abbrev InRange : List ℕ → List ℕ → List ℕ → Type 0
  InRange [] [] [] = Unit {0}
  InRange [] [] (l ∷ ls) = ⊥
  InRange [] (d ∷ ds) ls = ⊥
  InRange (t ∷ ts) [] ls = ⊥
  InRange (t ∷ ts) (d ∷ ds) [] = ⊥
  InRange (t ∷ ts) (d ∷ ds) (l ∷ ls) = (t < tests) × (d < 2 ^ curves) × (l < 2 ^ curves) × InRange ts ds ls

  steps_back : (acc : List Placed) (i : ℕ) (ts ds ls rest : List ℕ) → InRange ts ds ls
      → read_steps curves tests (length ts) acc i (list_bytes ts ds ls ++ rest) ≡ done
      (got (acc ++ steps_of i ts ds ls) (i + length (list_bytes ts ds ls)) rest)
  unfolding read_steps steps_bytes steps steps_of ◌>>=◌
  steps_back acc i [] [] [] rest r = let n : i ≡ i + 0 = omega arith in rw (append-nil acc, ← n) refl
  steps_back acc i [] [] (l ∷ ls) rest r = absurd r
  steps_back acc i [] (d ∷ ds) ls rest r = absurd r
  steps_back acc i (t ∷ ts) [] ls rest r = absurd r
  steps_back acc i (t ∷ ts) (d ∷ ds) [] rest r = absurd r
  steps_back acc i (t ∷ ts) (d ∷ ds) (l ∷ ls) rest r =
      let n : i + length (step_bytes (one t d l)) + length (list_bytes ts ds ls) ≡ i + length (step_bytes (one t d l) ++ list_bytes ts ds ls) =
      simp length-append (omega arith) in
      rw (append_assoc (step_bytes (one t d l)) (list_bytes ts ds ls) rest, step_back i t d l (list_bytes ts ds ls ++ rest) r.0 r.1 r.2)
      (steps_back (acc ++ (step_of i t d l ∷ [])) (i + length (step_bytes (one t d l))) ts ds ls rest r.3
      ∙ rw (n, append_assoc acc (step_of i t d l ∷ []) (steps_of (i + length (step_bytes (one t d l))) ts ds ls)) refl)

  of_tests : (i : ℕ) (ts ds ls : List ℕ) → InRange ts ds ls → map (λ s. s.step.test) (steps_of i ts ds ls) ≡ ts
  unfolding steps_of
  of_tests i [] [] [] r = refl
  of_tests i [] [] (l ∷ ls) r = absurd r
  of_tests i [] (d ∷ ds) ls r = absurd r
  of_tests i (t ∷ ts) [] ls r = absurd r
  of_tests i (t ∷ ts) (d ∷ ds) [] r = absurd r
  of_tests i (t ∷ ts) (d ∷ ds) (l ∷ ls) r = ap {B = List ℕ} (λ x. t ∷ x) (of_tests (i + length (step_bytes (one t d l))) ts ds ls r.3)

  of_drops : (i : ℕ) (ts ds ls : List ℕ) → InRange ts ds ls → map (λ s. s.step.drops) (steps_of i ts ds ls) ≡ ds
  unfolding steps_of
  of_drops i [] [] [] r = refl
  of_drops i [] [] (l ∷ ls) r = absurd r
  of_drops i [] (d ∷ ds) ls r = absurd r
  of_drops i (t ∷ ts) [] ls r = absurd r
  of_drops i (t ∷ ts) (d ∷ ds) [] r = absurd r
  of_drops i (t ∷ ts) (d ∷ ds) (l ∷ ls) r = ap {B = List ℕ} (λ x. d ∷ x) (of_drops (i + length (step_bytes (one t d l))) ts ds ls r.3)

  of_loads : (i : ℕ) (ts ds ls : List ℕ) → InRange ts ds ls → map (λ s. s.step.loads) (steps_of i ts ds ls) ≡ ls
  unfolding steps_of
  of_loads i [] [] [] r = refl
  of_loads i [] [] (l ∷ ls) r = absurd r
  of_loads i [] (d ∷ ds) ls r = absurd r
  of_loads i (t ∷ ts) [] ls r = absurd r
  of_loads i (t ∷ ts) (d ∷ ds) [] r = absurd r
  of_loads i (t ∷ ts) (d ∷ ds) (l ∷ ls) r = ap {B = List ℕ} (λ x. l ∷ x) (of_loads (i + length (step_bytes (one t d l))) ts ds ls r.3)

  end_back : (i s : ℕ) → s < 2 ^ curves → read_end curves tests i (end_bytes s) ≡ done s
  unfolding read_end end_bytes demand at_end ◌>>=◌ ◌>>◌
  end_back i zero h = refl
  end_back i (suc s) h = rw set_there refl
    where
      set_there : read_set curves tests 1 (suc i) (set_bytes (suc s)) ≡ done (got (suc s) (suc i + length (set_bytes (suc s))) [])
      set_there =
          subst (λ (bs : List ℕ). read_set curves tests 1 (suc i) bs ≡ done (got (suc s) (suc i + length (set_bytes (suc s))) []))
          (append-nil (set_bytes (suc s))) (unfold stands set_field in (field_back (suc i) (suc s) [] h))

  -- what is read of the bytes of a plan
  abbrev contents_of : List ℕ → Plan → Contents
  contents_of ts p =
      record {
        steps = steps_of 0 ts p.drops p.loads;
        behind = 0 + length (list_bytes ts p.drops p.loads);
        end = p.end;
      }

  bytes_back : (ts : List ℕ) (p : Plan) → length ts ≡ tests → InRange ts p.drops p.loads → p.end < 2 ^ curves
      → read_plan_bytes curves tests (plan_bytes ts p) ≡ done (contents_of ts p)
  unfolding read_plan_bytes ◌>>=◌
  bytes_back ts p n r h =
      let c = contents_of ts p in
      let w : read_steps curves tests tests [] 0 (plan_bytes ts p) ≡ done (got c.steps c.behind (end_bytes p.end)) =
      subst (λ (m : ℕ). read_steps curves tests m [] 0 (plan_bytes ts p) ≡ done (got c.steps c.behind (end_bytes p.end))) n
      (steps_back [] 0 ts p.drops p.loads (end_bytes p.end) r) in
      rw (w, end_back c.behind p.end h) refl

-- what passes the check is in range
module _ (places curves : ℕ) (wants : List ℕ) where
  below : (s : ℕ) → s ≼ all_curves curves → s < 2 ^ curves
  below s h = inside_below curves s (≼-inside s (all_curves curves) h)

  in_range : (few : curves ≤ 64) (h : ℕ) (ts ds ls : List ℕ) → length ds ≡ length ts → length ls ≡ length ts → h ≼ all_curves curves
      → ((t : ℕ) → length wants ≤ t → count t ts ≡ 0)
      → AllKept places (all_curves curves) h (moves (in_order wants ts) ds ls) → InRange curves (length wants) few ts ds ls
  unfolding in_order count moves
  in_range few h [] [] [] nd nl s own ok = tt
  in_range few h [] [] (l ∷ ls) nd nl s own ok = absurd (omega arith)
  in_range few h [] (d ∷ ds) ls nd nl s own ok = absurd (omega arith)
  in_range few h (t ∷ ts) [] ls nd nl s own ok = absurd (omega arith)
  in_range few h (t ∷ ts) (d ∷ ds) [] nd nl s own ok = absurd (omega arith)
  in_range few h (t ∷ ts) (d ∷ ds) (l ∷ ls) nd nl s own ok =
      let k = first_kept ok in (
        test (dec_le (length wants) t),
        below d (λ c. omega (arith, k.0.drops c, s c)),
        below l k.0.known,
        in_range few (moved h (record { drops = d; loads = l })) ts ds ls (omega arith) (omega arith)
            (moved-≼ h (record { drops = d; loads = l }) (all_curves curves) s k.0.known)
            (λ u e. omega (arith, own u e)) k.1,
      )
    where
      test : Dec (length wants ≤ t) → t < length wants
      test (yes e) = absurd (omega (arith, own t e, one_same t))
      test (no e) = omega arith

-- A PLAN THAT IS WRITTEN READS BACK
pub plan_back : (j : Job) (held : ℕ) (order : List ℕ) (p : Plan) (lent : ℕ) (bytes : List ℕ) → write_plan j held order p lent ≡ done bytes
    → (c : Contents) × (plan_steps j.rig.curves (length j.wants) bytes ≡ done c) × (tests_of c ≡ order) × (plan_in c ≡ p)
unfolding write_plan plan_steps
plan_back j held order p lent bytes e =
    let curves = j.rig.curves in
    let tests = length j.wants in
    let a = bind_done (checking j held order p) _ bytes e in
    let b = both_done (room lent (length (plan_bytes order p))) (done (plan_bytes order p)) bytes a.2 in
    let ok : Passes j held order p = passed j held order p a.0 a.1 in
    let few = ok.is_job.curves_bounds.1 in
    let own : held ≼ all_curves curves = set-in-range curves held ok.is_holding in
    let long = order_length tests order ok.is_order in
    let r : InRange curves tests few order p.drops p.loads =
    in_range (capacity j.rig) curves j.wants few held order p.drops p.loads (ok.drop_sets ∙ sym long) (ok.load_sets ∙ sym long)
    own ok.is_order.only ok.steps in
    let left : p.end < 2 ^ curves =
    rw ok.ends (below (capacity j.rig) curves j.wants (held_after held (plan_sets j order p)) (held-≼ own ok.steps)) in (
      contents_of curves tests few order p,
      done_both _ _ (job_counts j ok.is_job)
          ∙ ap (read_plan_bytes curves tests) (sym (done_same b.1))
          ∙ bytes_back curves tests few order p long r left,
      of_tests curves tests few 0 order p.drops p.loads r,
      rw (of_drops curves tests few 0 order p.drops p.loads r, of_loads curves tests few 0 order p.drops p.loads r) refl,
    )

-- ---- read, then written
module _ (curves tests : ℕ) where
  record FieldRead (d : ℕ) (bs : List ℕ) (g : Got ℕ) : Type 0 where
    bit_stands : d ≡ stands g.value
    bytes : bs ≡ set_field g.value ++ g.rest
    tail : Bytes g.rest

  field_read : (d i : ℕ) (bs : List ℕ) (g : Got ℕ) → d ≤ 1 → Bytes bs → read_set curves tests d i bs ≡ done g → FieldRead d bs g
  unfolding read_set byte_at ◌>>=◌
  field_read zero i bs g l all e =
      subst (FieldRead zero bs) (done_same e) (record { bit_stands = unfold stands in refl; bytes = unfold set_field in refl; tail = all })
  field_read (suc d) i [] g l all e = absurd (refused≢done e)
  field_read (suc d) i (M ∷ bs) g l all e =
      let a = both_done (demand (ltb 0 M) 11 i) (read_groups 11 11 11 curves 8 0 M 0 (suc i) bs) g e in
      let s : SetRead curves M (suc i) bs g = set_read 11 11 11 curves M (suc i) bs g all.0 all.1 a.1 in
      go g.value refl s.map (ltb-true 0 M (demand_true (ltb 0 M) 11 i a.0)) s.bytes s.tail
    where
      go : (v : ℕ) → g.value ≡ v → group_map 8 g.value ≡ M → 0 < M → bs ≡ group_bytes 8 g.value ++ g.rest → Bytes g.rest → FieldRead (suc d) (M ∷ bs) g
      go zero v m p b t = absurd (omega (arith, m, ap (group_map 8) v, map_zero))
      go (suc v) q m p b t =
          record {
            bit_stands = rw q (unfold stands in (omega arith));
            bytes = ap {B = List ℕ} (λ l. M ∷ l) b ∙ ap {B = List ℕ} (λ x. x ∷ (group_bytes 8 g.value ++ g.rest)) (sym m)
                ∙ sym (ap (λ (l : List ℕ). l ++ g.rest) (whole g.value v q));
            tail = t;
          }
        where
          whole : (s v : ℕ) → s ≡ suc v → set_field s ≡ group_map 8 s ∷ group_bytes 8 s
          whole s v e = rw e (unfold set_field set_bytes in refl)

  pub record StepRead (bs : List ℕ) (g : Got Placed) : Type 0 where
    pub bytes : bs ≡ step_bytes g.value.step ++ g.rest
    pub tail : Bytes g.rest

  -- a map, the two sets and the test
  step_bytes_lem : (M t : ℕ) (bs rest : List ℕ) (ds ls : Got ℕ) → 4 ≤ M → M ≤ 7 → FieldRead (bit 0 M) bs ds → FieldRead (bit 1 M) ds.rest ls
      → ls.rest ≡ t ∷ rest
      → M ∷ bs ≡ step_bytes (one t ds.value ls.value) ++ rest
  unfolding step_bytes
  step_bytes_lem M t bs rest ds ls l h D L e =
      let m : M ≡ stands ds.value + 2 * stands ls.value + 4 = omega (arith, step_map M l h, D.bit_stands, L.bit_stands) in
      let b : bs ≡ set_field ds.value ++ (set_field ls.value ++ (t ∷ rest)) =
      D.bytes ∙ ap (λ (x : List ℕ). set_field ds.value ++ x) (L.bytes ∙ ap (λ (x : List ℕ). set_field ls.value ++ x) e) in
      ap {B = List ℕ} (λ x. M ∷ x) b ∙ ap {B = List ℕ} (λ x. x ∷ (set_field ds.value ++ (set_field ls.value ++ (t ∷ rest)))) m ∙ simp append_assoc

  pub step_read : (i : ℕ) (bs : List ℕ) (g : Got Placed) → Bytes bs → read_step curves tests i bs ≡ done g → StepRead bs g
  unfolding read_step byte_at between ◌>>=◌
  step_read i [] g all e = absurd (refused≢done e)
  step_read i (M ∷ bs) g all e =
      let a = both_done (demand (leb 4 M && leb M 7) 11 i) _ g e in
      let m = both (leb 4 M) (leb M 7) (demand_true _ 11 i a.0) in
      let d = bind_done (read_set curves tests (bit 0 M) (suc i) bs) _ g a.1 in
      let D : FieldRead (bit 0 M) bs d.0 = field_read (bit 0 M) (suc i) bs d.0 (omega arith) all.1 d.1 in
      let l = bind_done (read_set curves tests (bit 1 M) d.0.next d.0.rest) _ g d.2 in
      let L : FieldRead (bit 1 M) d.0.rest l.0 = field_read (bit 1 M) d.0.next d.0.rest l.0 (omega arith) D.tail l.1 in
      last l.0.rest l.0.next d.0 l.0 (leb-true 4 M m.0) (leb-true M 7 m.1) D L refl L.tail l.2
    where
      last : (r : List ℕ) (n : ℕ) (ds ls : Got ℕ) → 4 ≤ M → M ≤ 7 → FieldRead (bit 0 M) bs ds → FieldRead (bit 1 M) ds.rest ls → ls.rest ≡ r
          → Bytes ls.rest
          → ◌>>=◌ (byte_at 11 n r) (λ t. ◌>>◌ (demand (ltb t.value tests) 11 n)
          (done (got (record { step = one t.value ds.value ls.value; from = i; until = t.next }) t.next t.rest))) ≡ done g
          → StepRead (M ∷ bs) g
      last [] n ds ls lo hi D L q tl e = absurd (refused≢done e)
      last (t ∷ rest) n ds ls lo hi D L q tl e =
          let b = both_done (demand (ltb t tests) 11 n) (done (got (record { step = one t ds.value ls.value; from = i; until = suc n }) (suc n) rest)) g
          e in
          let tb : Bytes (t ∷ rest) = subst Bytes q tl in
          subst (StepRead (M ∷ bs)) (done_same b.1) (record { bytes = step_bytes_lem M t bs rest ds ls lo hi D L q; tail = tb.1 })

  -- the bytes of some steps
  abbrev bytes_of : List Placed → List ℕ
  bytes_of ss = list_bytes (map (λ s. s.step.test) ss) (map (λ s. s.step.drops) ss) (map (λ s. s.step.loads) ss)

  record StepsRead (k : ℕ) (acc : List Placed) (bs : List ℕ) (g : Got (List Placed)) : Type 0 where
    steps : List Placed
    value : g.value ≡ acc ++ steps
    bytes : bs ≡ bytes_of steps ++ g.rest
    tail : Bytes g.rest

  steps_read : (k : ℕ) (acc : List Placed) (i : ℕ) (bs : List ℕ) (g : Got (List Placed)) → Bytes bs → read_steps curves tests k acc i bs ≡ done g
      → StepsRead k acc bs g
  unfolding read_steps steps_bytes steps
  steps_read zero acc i bs g all e = subst (StepsRead zero acc bs) (done_same e) (record { steps = []; value = sym (append-nil acc); bytes = refl; tail = all })
  steps_read (suc k) acc i bs g all e =
      let x = bind_done (read_step curves tests i bs) _ g e in
      let s : StepRead bs x.0 = step_read i bs x.0 all x.1 in
      let r : StepsRead k (acc ++ (x.0.value ∷ [])) x.0.rest g = steps_read k (acc ++ (x.0.value ∷ [])) x.0.next x.0.rest g s.tail x.2 in
      record {
        steps = x.0.value ∷ r.steps;
        value = r.value ∙ append_assoc acc (x.0.value ∷ []) r.steps;
        bytes = s.bytes ∙ ap (λ (l : List ℕ). step_bytes x.0.value.step ++ l) r.bytes
            ∙ sym (append_assoc (step_bytes x.0.value.step) (bytes_of r.steps) g.rest);
        tail = r.tail;
      }

  -- what stands behind the steps are bytes
  pub steps_read_tail : (bs : List ℕ) (c : Contents) → Bytes bs → (rest : List ℕ)
      → read_steps curves tests tests [] 0 bs ≡ done (got c.steps c.behind rest) → Bytes rest
  steps_read_tail bs c all rest e = (steps_read tests [] 0 bs _ all e).tail

  -- an end step that was read is the one that is written for its set
  some_end : (v : ℕ) → 1 ≡ stands v → 1 ∷ set_field v ≡ end_bytes v
  unfolding stands set_field end_bytes
  some_end zero e = absurd (omega arith)
  some_end (suc v) e = refl

  pub end_read : (i : ℕ) (bs : List ℕ) (s : ℕ) → Bytes bs → read_end curves tests i bs ≡ done s → bs ≡ end_bytes s
  unfolding read_end
  end_read i [] s all e = let z : 0 ≡ s = done_same e in rw (← z) (unfold end_bytes in refl)
  end_read i (b ∷ bs) s all e =
      let a = both_done (demand (eqb b 1) 11 i) _ s e in
      let g = bind_done (read_set curves tests 1 (suc i) bs) _ s a.1 in
      let z = both_done (at_end 11 g.0.next g.0.rest) (done g.0.value) s g.2 in
      let F : FieldRead 1 bs g.0 = field_read 1 (suc i) bs g.0 (omega arith) all.1 g.1 in
      let none : g.0.rest ≡ [] = end_none 11 g.0.next g.0.rest z.0 in
      let v = g.0.value in
      let set : bs ≡ set_field v = F.bytes ∙ ap (λ (l : List ℕ). set_field v ++ l) none ∙ append-nil (set_field v) in
      let map : b ≡ 1 = eqb-true b 1 (demand_true _ 11 i a.0) in
      rw (map, set) (some_end v F.bit_stands ∙ ap end_bytes (done_same z.1))

  -- BYTES THAT READ AS A PLAN are those that are written for it
  pub plan_bytes_read : (bs : List ℕ) (c : Contents) → Bytes bs → read_plan_bytes curves tests bs ≡ done c → plan_bytes (tests_of c) (plan_in c) ≡ bs
  plan_bytes_read bs c all e =
      let r = bytes_read curves tests bs c e in
      let S : StepsRead tests [] bs (got c.steps c.behind r.rest) = steps_read tests [] 0 bs _ all r.steps in
      let E = end_read c.behind r.rest c.end S.tail r.end in
      sym (S.bytes ∙ ap (λ (l : List ℕ). bytes_of S.steps ++ l) E
      ∙ ap (λ (ss : List Placed). bytes_of ss ++ end_bytes c.end) (sym S.value))

-- .. so a plan that reads and passes the check is written as the bytes that it was read from
pub plan_read_lem : (j : Job) (bs : List ℕ) (c : Contents) → Bytes bs → plan_steps j.rig.curves (length j.wants) bs ≡ done c
    → (held n : ℕ) → checking j held (tests_of c) (plan_in c) ≡ done n → write_plan j held (tests_of c) (plan_in c) (length bs) ≡ done bs
unfolding write_plan plan_steps ◌>>=◌
plan_read_lem j bs c all e held n ok =
    let s = plan_bytes_read j.rig.curves (length j.wants) bs c all (both_done (counts_known j.rig.curves (length j.wants)) _ c e).1 in
    rw ok (done_both _ _ (done_room (length bs) _ (omega (arith, ap length s))) ∙ ap done s)
