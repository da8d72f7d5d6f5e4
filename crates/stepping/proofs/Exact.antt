-- FOR EVERY STATE, made or not: when a look says done, when a commit is carried out, and when it is refused by 15.
use mathlib.Core.Path.{◌≡◌, refl, sym, ap, ◌∙◌}
use mathlib.Core.Logic.{◌↔◌, ◌⊎◌, inl, inr}
use mathlib.Core.Bool.{Bool, true, false, false≢true, not, ◌&&◌}
use mathlib.Core.List.{List, [], ◌∷◌}
use Prim.Native.Nat.{ℕ, zero, suc, ◌+◌, ◌≤◌, ◌<◌}
use native.Mathlib.Omega.{arith}
use native.Mathlib.Numerals.{add-one}
use lib.Dec.{eqb}
use lib.ListN.{length, get_or, drop}
use borrow.Author.Tests.{eqb-true, eq-eqb, ne_eqb}
use Rattle.job.specs.Refusal.{done, refused}
use Rattle.job.proofs.Laws.{refused≢done, done_same, demand_done, demand_refused, done_both}
use Rattle.job.proofs.Examination.{refused_both}
use Rattle.drive.specs.Plan.{furthest, next}
use Rattle.stepping.specs.declared.State.{State}
use Rattle.stepping.specs.declared.NextStep.{NextStep}
use Rattle.stepping.specs.declared.NextStep.TheVariants.{Step, End, Done}
use Rattle.stepping.specs.Stepping.{look_end, look_at, is_done, held_behind, commit_at, step_wants, look, commit, state_after, after_commit}

-- ---- done

pub done_is : (l : NextStep) → is_done l ≡ true → l ≡ Done
unfolding is_done
done_is (Step s) e = absurd (false≢true e)
done_is (End d) e = absurd (false≢true e)
done_is Done e = refl

pub is_done_lem : (l : NextStep) → l ≡ Done → is_done l ≡ true
unfolding is_done
is_done_lem l e = rw e refl

module _ (capacity : ℕ) where
  done_where : (h k : ℕ) (ws : List ℕ) → look_at capacity h k ws ≡ Done → (length ws < k) ⊎ ((k ≡ length ws) × (h ≡ 0))
  unfolding look_at look_end
  done_where zero zero [] e = inr (refl, refl)
  done_where (suc h) zero [] e = let z : ◌≡◌ {A = ℕ} 0 1 = cc in absurd (omega arith)
  done_where h (suc k) [] e = inl (omega arith)
  done_where h zero (w ∷ ws) e = let z : ◌≡◌ {A = ℕ} 0 1 = cc in absurd (omega arith)
  done_where h (suc k) (w ∷ ws) e = more (done_where h k ws e)
    where
      more : (length ws < k) ⊎ ((k ≡ length ws) × (h ≡ 0)) → (length (w ∷ ws) < suc k) ⊎ ((suc k ≡ length (w ∷ ws)) × (h ≡ 0))
      more (inl l) = inl (omega arith)
      more (inr r) = inr (omega (arith, r.0), r.1)

  where_done : (h k : ℕ) (ws : List ℕ) → (length ws < k) ⊎ ((k ≡ length ws) × (h ≡ 0)) → look_at capacity h k ws ≡ Done
  unfolding look_at look_end
  where_done zero zero [] r = refl
  where_done (suc h) zero [] (inl l) = absurd (omega arith)
  where_done (suc h) zero [] (inr r) = absurd (omega (arith, r.1))
  where_done h (suc k) [] r = refl
  where_done h zero (w ∷ ws) (inl l) = absurd (omega arith)
  where_done h zero (w ∷ ws) (inr r) = absurd (omega (arith, r.0))
  where_done h (suc k) (w ∷ ws) (inl l) = where_done h k ws (inl (omega arith))
  where_done h (suc k) (w ∷ ws) (inr r) = where_done h k ws (inr (omega (arith, r.0), r.1))

  -- ALL IS DONE exactly behind the end step, and in its place where nothing is held
  pub done_exact : (h k : ℕ) (ws : List ℕ) → look_at capacity h k ws ≡ Done ↔ ((length ws < k) ⊎ ((k ≡ length ws) × (h ≡ 0)))
  done_exact h k ws = (done_where h k ws, where_done h k ws)

  -- below the number of tests there is a test's step ..
  pub test_step : (h k : ℕ) (ws : List ℕ) → k < length ws
      → look_at capacity h k ws ≡ Step (next (furthest 64) capacity h (get_or ws k 0) (drop (suc k) ws))
  unfolding look_at
  test_step h k [] l = absurd (omega arith)
  test_step h zero (w ∷ ws) l = refl
  test_step h (suc k) (w ∷ ws) l = test_step h k ws (omega arith)

  -- .. and at that number the end step, where something is held
  pub end_step : (h k : ℕ) (ws : List ℕ) → k ≡ length ws → (h ≡ 0 → ⊥) → look_at capacity h k ws ≡ End h
  unfolding look_at look_end
  end_step zero k ws e n = absurd (n refl)
  end_step (suc h) zero [] e n = refl
  end_step (suc h) (suc k) [] e n = absurd (omega arith)
  end_step (suc h) zero (w ∷ ws) e n = absurd (omega arith)
  end_step (suc h) (suc k) (w ∷ ws) e n = end_step (suc h) k ws (omega arith) n

  -- a step that is not done has a position no further than the end step's
  pub step_within : (h k : ℕ) (ws : List ℕ) → is_done (look_at capacity h k ws) ≡ false → k ≤ length ws
  unfolding look_at look_end is_done
  step_within h zero ws e = omega arith
  step_within h (suc k) [] e = absurd (false≢true (sym e))
  step_within h (suc k) (w ∷ ws) e = omega (arith, step_within h k ws e)

  -- ---- a commit

  module _ (h k : ℕ) (ws : List ℕ) (position : ℕ) where
    abbrev shows : NextStep
    shows = look_at capacity h k ws

    pub commit_next : position ≡ k → is_done shows ≡ false → commit_at capacity h k ws position ≡ done shows
    unfolding commit_at
    commit_next p e = done_both _ _ (demand_done _ 15 k (rw (eq-eqb position k p, e) refl))

    pub commit_other : (position ≡ k → ⊥) → commit_at capacity h k ws position ≡ refused 15 k
    unfolding commit_at
    commit_other p = refused_both _ _ 15 k (demand_refused _ 15 k (rw (ne_eqb position k p) refl))

    pub commit_behind : is_done shows ≡ true → commit_at capacity h k ws position ≡ refused 15 k
    unfolding commit_at
    commit_behind e = refused_both _ _ 15 k (demand_refused _ 15 k (go (eqb position k) (is_done shows) e))
      where
        go : (a b : Bool) → b ≡ true → a && not b ≡ false
        go true b e = rw e refl
        go false b e = refl

-- ---- a commit at a state

-- it is carried out, or turned away
pub data Turn (s : State) (position : ℕ) : Type 0 where
  carried : position ≡ s.committed → is_done (look s) ≡ false → commit s position ≡ done (look s) → Turn s position
  turned : (position ≡ s.committed → ⊥) ⊎ (look s ≡ Done) → commit s position ≡ refused 15 s.committed → Turn s position

pub turn : (s : State) (position : ℕ) → Turn s position
turn s position = go (eqb position s.committed) refl (is_done (look s)) refl
  where
    go : (a : Bool) → eqb position s.committed ≡ a → (b : Bool) → is_done (look s) ≡ b → Turn s position
    go true e false f = carried (eqb-true position s.committed e) f (commit_next s.capacity _ _ _ position (eqb-true position s.committed e) f)
    go true e true f = turned (inr (done_is (look s) f)) (commit_behind s.capacity _ _ _ position f)
    go false e b f =
        let p : position ≡ s.committed → ⊥ = λ q. false≢true (sym e ∙ eq-eqb position s.committed q) in
        turned (inl p) (commit_other s.capacity _ _ _ position p)

-- what is carried out has a position no further than the end step's
pub carried_within : (s : State) (position : ℕ) (l : NextStep) → commit s position ≡ done l → s.committed ≤ length (step_wants s)
carried_within s position l e = go (turn s position)
  where
    go : Turn s position → s.committed ≤ length (step_wants s)
    go (carried p f c) = step_within s.capacity s.held s.committed _ f
    go (turned w c) = absurd (refused≢done (sym c ∙ e))

-- A COMMIT IS CARRIED OUT exactly where it names the next position and not all is done; it answers what a look shows
pub carried_exact : (s : State) (position : ℕ) (l : NextStep)
    → commit s position ≡ done l ↔ ((position ≡ s.committed) × (look s ≡ l) × (l ≡ Done → ⊥))
carried_exact s position l = (there (turn s position), λ x. back x (turn s position))
  where
    there : Turn s position → commit s position ≡ done l → (position ≡ s.committed) × (look s ≡ l) × (l ≡ Done → ⊥)
    there (carried p f c) e =
        let same = done_same (sym c ∙ e) in
        (p, same, λ d. false≢true (sym f ∙ is_done_lem (look s) (same ∙ d)))
    there (turned w c) e = absurd (refused≢done (sym c ∙ e))

    back : (position ≡ s.committed) × (look s ≡ l) × (l ≡ Done → ⊥) → Turn s position → commit s position ≡ done l
    back x (carried p f c) = c ∙ ap done x.1
    back x (turned (inl p) c) = absurd (p x.0)
    back x (turned (inr d) c) = absurd (x.2 (sym x.1 ∙ d))

-- 15 IS ANSWERED exactly where another position is named, or all is done; its figure is the number of steps committed, and no other refusal is answered
pub not_next_exact : (s : State) (position k i : ℕ)
    → commit s position ≡ refused k i ↔ ((k ≡ 15) × (i ≡ s.committed) × ((position ≡ s.committed → ⊥) ⊎ (look s ≡ Done)))
not_next_exact s position k i = (there (turn s position), λ x. back x (turn s position))
  where
    there : Turn s position → commit s position ≡ refused k i → (k ≡ 15) × (i ≡ s.committed) × ((position ≡ s.committed → ⊥) ⊎ (look s ≡ Done))
    there (carried p f c) e = absurd (refused≢done (sym e ∙ c))
    there (turned w c) e = (cc, cc, w)

    back : (k ≡ 15) × (i ≡ s.committed) × ((position ≡ s.committed → ⊥) ⊎ (look s ≡ Done)) → Turn s position → commit s position ≡ refused k i
    back x (turned w c) = c ∙ sym (rw (x.0, x.1) refl)
    back x (carried p f c) = absurd (no x.2)
      where
        no : (position ≡ s.committed → ⊥) ⊎ (look s ≡ Done) → ⊥
        no (inl q) = q p
        no (inr d) = false≢true (sym f ∙ is_done_lem (look s) d)

-- and it "leaves the state unchanged"
pub unchanged : (s : State) (position k i : ℕ) → commit s position ≡ refused k i → after_commit s position ≡ s
unfolding state_after
unchanged s position k i e = rw e refl

-- the state behind a step that is carried out, as it is written
pub moved_on : (s : State) (position : ℕ) (l : NextStep) (held : ℕ) → commit s position ≡ done l → held ≡ held_behind s.held l
    → record { capacity = s.capacity; held = held; committed = s.committed + 1; tests = s.tests; wants = s.wants } ≡ after_commit s position
unfolding state_after
moved_on s position l held e h = rw (e, h, add-one s.committed) refl
