-- The bounds of plan bytes: a step takes at most 20 of them, and the end step 10. So no figure of a refusal, which is always 11, is larger than 20 for each
-- test and 10, and bytes behind the next one never change the answer.
use mathlib.Core.Path.{◌≡◌, refl, sym, ap, ◌∙◌}
use mathlib.Core.List.{List, [], ◌∷◌, ◌++◌}
use Prim.Native.Nat.{ℕ, zero, suc, ◌+◌, ◌*◌, ◌≤◌, ◌<◌}
use native.Mathlib.Omega.{arith}
use native.Mathlib.Decide.{dec_le, ℕ_discrete}
use lib.Dec.{eqb}
use lib.ListN.{length, get_or, take, drop, length-take, take-append-drop}
use lib.Seq.{take_all}
use Rattle.job.specs.Refusal.{Outcome, done, refused, ◌>>=◌, ◌>>◌, demand}
use Rattle.job.proofs.Laws.{refused≢done, refused_same}
use Rattle.bitset.specs.Set.{◌∪◌, bit}
use Rattle.job.proofs.Refuses.{Refuses, refuses_demand, refuses_both, refuses_bind}
use Rattle.job_bytes.specs.SetBytes.{Got, byte_at, read_group, read_groups}
use Rattle.job_bytes.specs.JobBytes.{at_end}
use Rattle.job_bytes.proofs.Spans.{Spans, span_done, span_refused, span_bind, span_test, span_stop, span_longer, byte_span, groups_span}
use Rattle.job_bytes.proofs.Behind.{Same, value, fault, same_then, same_test, byte_same, groups_same}
use Rattle.plan_bytes.specs.PlanBytes.{Placed, Contents, read_set, read_step, read_steps, read_end, read_plan_bytes, plan_steps}
use Rattle.plan_bytes.proofs.Reading.{no_end, end_other_map, end_set}

module _ (curves tests : ℕ) where
  -- ---- how large a figure

  module _ (bs : List ℕ) where
    set_span : (d i : ℕ) → i ≤ length bs → Spans 9 i bs (read_set curves tests d i (drop i bs))
    unfolding read_set
    set_span zero i l = span_longer (omega arith) (span_stop i bs 0 l)
    set_span (suc d) i l = span_bind 1 8 _ (byte_span bs 11 i l) (λ map n a m. span_test _ 11 i a m (groups_span bs 11 11 11 curves 8 0 map 0 n m))

    step_span : (i : ℕ) → i ≤ length bs → Spans 20 i bs (read_step curves tests i (drop i bs))
    unfolding read_step
    step_span i l =
        span_bind 1 19 _ (byte_span bs 11 i l)
        (λ map n a m.
        span_test _ 11 i a m
        (span_bind 9 10 _ (set_span _ n m)
        (λ ds n a m. span_bind 9 1 _ (set_span _ n m)
        (λ ls n a m. span_bind 1 0 _ (byte_span bs 11 n m) (λ t k a h. span_test _ 11 n a h (span_stop k bs _ h))))))

    steps_span : (k : ℕ) (ss : List Placed) (i : ℕ) → i ≤ length bs → Spans (20 * k) i bs (read_steps curves tests k ss i (drop i bs))
    unfolding read_steps
    steps_span zero ss i l = span_stop i bs ss l
    steps_span (suc k) ss i l = span_longer (omega arith) (span_bind 20 (20 * k) _ (step_span i l) (λ s n a m. steps_span k (ss ++ (s ∷ [])) n m))

  -- behind a set nothing stands
  set_figure : (bs : List ℕ) (w i k f : ℕ) (o : Outcome (Got ℕ)) → Spans w i bs o
      → ◌>>=◌ o (λ s. ◌>>◌ (at_end 11 s.next s.rest) (done s.value)) ≡ refused k f → f ≤ i + w
  unfolding at_end ◌>>=◌ ◌>>◌
  set_figure bs w i k f (done g) s e = go g.rest e
    where
      go : (rest : List ℕ) → ◌>>◌ (at_end 11 g.next rest) (done g.value) ≡ refused k f → f ≤ i + w
      go [] e = absurd (refused≢done (sym e))
      go (b ∷ rest) e = let q : f ≡ g.next = cc in omega (arith, (span_done s).most)
  set_figure bs w i k f (refused n j) s e = let q : f ≡ j = cc in omega (arith, (span_refused s).0)

  end_figure : (bs : List ℕ) (i k f : ℕ) → read_end curves tests i (drop i bs) ≡ refused k f → f ≤ i + 10
  end_figure bs i k f e = go (dec_le (length bs) i) (ℕ_discrete (get_or bs i 0) 1)
    where
      go : Dec (length bs ≤ i) → Dec (get_or bs i 0 ≡ 1) → f ≤ i + 10
      go (yes h) d = absurd (refused≢done (sym e ∙ no_end curves tests i bs h))
      go (no h) (no d) = omega (arith, refused_same (sym e ∙ end_other_map curves tests i bs (omega arith) d))
      go (no h) (yes d) =
          omega (
            arith,
            set_figure bs 9 (i + 1) k f _ (set_span bs 1 (i + 1) (omega arith)) (sym (end_set curves tests i bs (omega arith) d) ∙ e),
          )

  -- A FIGURE IS AT MOST 20 FOR EACH TEST, AND 10
  pub plan_figure : (bs : List ℕ) (k f : ℕ) → read_plan_bytes curves tests bs ≡ refused k f → f ≤ 20 * tests + 10
  unfolding read_plan_bytes ◌>>=◌
  plan_figure bs k f e = go (read_steps curves tests tests [] 0 bs) (steps_span bs tests [] 0 (omega arith)) e
    where
      end : (ss : List Placed) (i : ℕ) (o : Outcome ℕ) → read_end curves tests i (drop i bs) ≡ o → i ≤ 20 * tests
          → ◌>>=◌ {B = Contents} o (λ end. done (record { steps = ss; behind = i; end = end })) ≡ refused k f → f ≤ 20 * tests + 10
      end ss i (done s) r l e = absurd (refused≢done (sym e))
      end ss i (refused n j) r l e = let q : f ≡ j = cc in omega (arith, end_figure bs i n j r)

      go : (o : Outcome (Got (List Placed))) → Spans (20 * tests) 0 bs o
          → ◌>>=◌ {B = Contents} o
          (λ r. ◌>>=◌ (read_end curves tests r.next r.rest) (λ end. done (record { steps = r.value; behind = r.next; end = end })))
          ≡ refused k f
          → f ≤ 20 * tests + 10
      go (done g) s e =
          let b = span_done s in
          end g.value g.next _ (ap (read_end curves tests g.next) (sym b.behind)) (omega (arith, b.most)) e
      go (refused n i) s e =
          let q : f ≡ i = cc in
          omega (arith, (span_refused s).0)

  -- ---- which refusal

  abbrev Eleven : ℕ → ℕ → Type 0
  Eleven k i = k ≡ 11

  byte_eleven : (i : ℕ) (bs : List ℕ) → Refuses Eleven (byte_at 11 i bs)
  unfolding byte_at
  byte_eleven i [] = refl
  byte_eleven i (b ∷ bs) = tt

  group_eleven : (d j i : ℕ) (bs : List ℕ) → Refuses Eleven (read_group 11 11 11 curves d j i bs)
  unfolding read_group
  group_eleven zero j i bs = tt
  group_eleven (suc d) j i bs =
      refuses_bind Eleven _ _ (byte_eleven i bs)
      (λ b e. refuses_both Eleven _ _ (refuses_demand Eleven _ 11 i refl) (refuses_both Eleven _ _ (refuses_demand Eleven _ 11 i refl) tt))

  groups_eleven : (k j map s i : ℕ) (bs : List ℕ) → Refuses Eleven (read_groups 11 11 11 curves k j map s i bs)
  unfolding read_groups
  groups_eleven zero j map s i bs = tt
  groups_eleven (suc k) j map s i bs =
      refuses_bind Eleven _ _ (group_eleven (bit j map) j i bs) (λ g e. groups_eleven k (suc j) map (s ∪ g.value) g.next g.rest)

  set_eleven : (d i : ℕ) (bs : List ℕ) → Refuses Eleven (read_set curves tests d i bs)
  unfolding read_set
  set_eleven zero i bs = tt
  set_eleven (suc d) i bs =
      refuses_bind Eleven _ _ (byte_eleven i bs)
      (λ m e. refuses_both Eleven _ _ (refuses_demand Eleven _ 11 i refl) (groups_eleven 8 0 m.value 0 m.next m.rest))

  step_eleven : (i : ℕ) (bs : List ℕ) → Refuses Eleven (read_step curves tests i bs)
  unfolding read_step
  step_eleven i bs =
      refuses_bind Eleven _ _ (byte_eleven i bs)
      (λ m e. refuses_both Eleven _ _ (refuses_demand Eleven _ 11 i refl)
      (refuses_bind Eleven _ _ (set_eleven (bit 0 m.value) m.next m.rest)
      (λ ds e. refuses_bind Eleven _ _ (set_eleven (bit 1 m.value) ds.next ds.rest)
      (λ ls e. refuses_bind Eleven _ _ (byte_eleven ls.next ls.rest) (λ t e. refuses_both Eleven _ _ (refuses_demand Eleven _ 11 ls.next refl) tt)))))

  steps_eleven : (k : ℕ) (ss : List Placed) (i : ℕ) (bs : List ℕ) → Refuses Eleven (read_steps curves tests k ss i bs)
  unfolding read_steps
  steps_eleven zero ss i bs = tt
  steps_eleven (suc k) ss i bs = refuses_bind Eleven _ _ (step_eleven i bs) (λ s e. steps_eleven k (ss ++ (s.value ∷ [])) s.next s.rest)

  end_eleven : (i : ℕ) (bs : List ℕ) → Refuses Eleven (at_end 11 i bs)
  unfolding at_end
  end_eleven i [] = tt
  end_eleven i (b ∷ bs) = refl

  behind_eleven : (i : ℕ) (bs : List ℕ) → Refuses Eleven (read_end curves tests i bs)
  unfolding read_end
  behind_eleven i [] = tt
  behind_eleven i (b ∷ bs) =
      refuses_both Eleven _ _ (refuses_demand Eleven _ 11 i refl)
      (refuses_bind Eleven _ _ (set_eleven 1 (suc i) bs) (λ s e. refuses_both Eleven _ _ (end_eleven s.next s.rest) tt))

  -- PLAN BYTES ARE REFUSED BY 11 ONLY
  pub plan_eleven : (bs : List ℕ) → Refuses (λ k i. k ≡ 11) (read_plan_bytes curves tests bs)
  unfolding read_plan_bytes
  plan_eleven bs =
      refuses_bind Eleven _ _ (steps_eleven tests [] 0 bs) (λ r e. refuses_bind Eleven _ _ (behind_eleven r.next r.rest) (λ end e. tt))

  -- ---- bytes behind

  module _ (ys : List ℕ) where
    set_same : (d i m : ℕ) (xs : List ℕ) → 9 + m ≤ length xs → Same ys m (read_set curves tests d i xs) (read_set curves tests d i (xs ++ ys))
    unfolding read_set
    set_same zero i m xs l = value 0 i xs (omega arith)
    set_same (suc d) i m xs l =
        same_then ys (8 + m) m _ (byte_same ys 11 i (8 + m) xs (omega arith))
        (λ map n xs l. same_test ys m _ 11 i (groups_same ys 11 11 11 curves 8 0 map 0 n m xs (omega arith)))

    step_same : (i m : ℕ) (xs : List ℕ) → 20 + m ≤ length xs → Same ys m (read_step curves tests i xs) (read_step curves tests i (xs ++ ys))
    unfolding read_step
    step_same i m xs l =
        same_then ys (19 + m) m _ (byte_same ys 11 i (19 + m) xs (omega arith))
        (λ map n xs l.
        same_test ys m _ 11 i
        (same_then ys (10 + m) m _ (set_same _ n (10 + m) xs (omega arith))
        (λ ds n xs l.
        same_then ys (1 + m) m _ (set_same _ n (1 + m) xs (omega arith))
        (λ ls n xs l. same_then ys m m _ (byte_same ys 11 n m xs (omega arith)) (λ t k xs l. same_test ys m _ 11 n (value _ k xs l))))))

    steps_same : (k : ℕ) (ss : List Placed) (i m : ℕ) (xs : List ℕ) → 20 * k + m ≤ length xs
        → Same ys m (read_steps curves tests k ss i xs) (read_steps curves tests k ss i (xs ++ ys))
    unfolding read_steps
    steps_same zero ss i m xs l = value ss i xs (omega arith)
    steps_same (suc k) ss i m xs l =
        same_then ys (20 * k + m) m _ (step_same i (20 * k + m) xs (omega arith)) (λ s n xs l. steps_same k (ss ++ (s ∷ [])) n m xs l)

    -- with a byte left behind the end step in both, both are refused there
    set_end : {o q : Outcome (Got ℕ)} → Same ys 1 o q
        → ◌≡◌ {A = Outcome ℕ} (◌>>=◌ q (λ s. ◌>>◌ (at_end 11 s.next s.rest) (done s.value)))
        (◌>>=◌ o (λ s. ◌>>◌ (at_end 11 s.next s.rest) (done s.value)))
    unfolding ◌>>=◌ ◌>>◌ at_end
    set_end (value a n [] l) = absurd (omega arith)
    set_end (value a n (x ∷ xs) l) = refl
    set_end (fault k f) = refl

    end_same : (i : ℕ) (xs : List ℕ) → 11 ≤ length xs → read_end curves tests i (xs ++ ys) ≡ read_end curves tests i xs
    unfolding read_end
    end_same i [] l = absurd (omega arith)
    end_same i (x ∷ xs) l = ap (◌>>◌ (demand (eqb x 1) 11 i)) (set_end (set_same 1 (suc i) 1 xs (omega arith)))

    contents_same : {o q : Outcome (Got (List Placed))} → Same ys 11 o q
        → ◌≡◌ {A = Outcome Contents}
        (◌>>=◌ q (λ r. ◌>>=◌ (read_end curves tests r.next r.rest) (λ end. done (record { steps = r.value; behind = r.next; end = end }))))
        (◌>>=◌ o (λ r. ◌>>=◌ (read_end curves tests r.next r.rest) (λ end. done (record { steps = r.value; behind = r.next; end = end }))))
    unfolding ◌>>=◌
    contents_same (value a n xs l) = rw (end_same n xs l) refl
    contents_same (fault k f) = refl

    behind_same : (xs : List ℕ) → 20 * tests + 10 < length xs → read_plan_bytes curves tests (xs ++ ys) ≡ read_plan_bytes curves tests xs
    unfolding read_plan_bytes
    behind_same xs l = contents_same (steps_same tests [] 0 11 xs (omega arith))

  -- BYTES BEHIND THE NEXT ONE NEVER CHANGE THE ANSWER
  pub prefix_plan : (n : ℕ) (bs : List ℕ) → 20 * tests + 10 < n → plan_steps curves tests (take n bs) ≡ plan_steps curves tests bs
  unfolding plan_steps
  prefix_plan n bs l = ap (◌>>◌ _) (go (dec_le (length bs) n))
    where
      go : Dec (length bs ≤ n) → read_plan_bytes curves tests (take n bs) ≡ read_plan_bytes curves tests bs
      go (yes m) = ap (read_plan_bytes curves tests) (take_all n bs m)
      go (no m) = sym (behind_same (drop n bs) (take n bs) (omega (arith, length-take n bs))) ∙ ap (read_plan_bytes curves tests) (take-append-drop n bs)
