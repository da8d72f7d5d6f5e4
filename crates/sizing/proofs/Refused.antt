-- "apart from 7, the walk refuses as planning does": beside planning for a drive with any number of places, into lists that are long enough.
use mathlib.Core.Path.{◌≡◌, refl, sym, ◌∙◌}
use mathlib.Core.Logic.{◌↔◌, ◌⊎◌, inl, inr}
use mathlib.Core.List.{List}
use Prim.Native.Nat.{ℕ, ◌≤◌}
use lib.ListN.{length}
use Rattle.job.specs.Refusal.{Outcome, done, refused}
use Rattle.job.specs.Handed.{wants_fit}
use Rattle.job.specs.Calls.{planning_known, sizing_known}
use Rattle.job.proofs.Laws.{refused≢done, both_done, done_both, refused_split}
use Rattle.job.proofs.Examination.{refused_both}
use Rattle.job.proofs.Refuses.{refuses, refuses_each}
use Rattle.job.proofs.SizingExact.{sizing_as_planning}
use Rattle.planning.specs.Planning.{planning}
use Rattle.planning.proofs.Sequence.{plan_refused, plan_done}
use Rattle.sizing.specs.Sizing.{sizing}
use Rattle.sizing.specs.EverySize.{in_drive}

module _ (curves : ℕ) (wants order : List ℕ) where
  -- what is examined is all that is refused
  pub known_refused : (k i : ℕ) → sizing curves wants order ≡ refused k i → sizing_known curves wants order ≡ refused k i
  unfolding sizing
  known_refused k i e = go (refused_split (sizing_known curves wants order) _ k i e)
    where
      go : {A : Type 0} {a : A} → (sizing_known curves wants order ≡ refused k i)
          ⊎ ((x : Unit {0}) × (sizing_known curves wants order ≡ done x) × (done a ≡ refused k i)) → sizing_known curves wants order ≡ refused k i
      go (inl r) = r
      go (inr (x, d, r)) = absurd (refused≢done (sym r))

  module _ (p lent : ℕ) (some : 1 ≤ p) (most : p ≤ 64) (long : length wants ≤ lent) where
    -- WHAT THE WALK REFUSES, PLANNING REFUSES, for a drive of any size ..
    pub sizing_refused : (k i : ℕ) → sizing curves wants order ≡ refused k i → planning (in_drive p curves wants) 0 order lent ≡ refused k i
    sizing_refused k i e =
        plan_refused (in_drive p curves wants) 0 order lent k i
        (sizing_as_planning p curves wants order some most ∙ refused_both _ (wants_fit p wants) k i (known_refused k i e))

    -- .. AND WHAT PLANNING REFUSES BESIDES, it refuses by 7
    pub planning_refused : (counts : List ℕ) → sizing curves wants order ≡ done counts → (k i : ℕ)
        → planning (in_drive p curves wants) 0 order lent ≡ refused k i → k ≡ 7
    unfolding sizing wants_fit
    planning_refused counts s k i e = go (wants_fit p wants) refl
      where
        known : planning_known (in_drive p curves wants) 0 order ≡ wants_fit p wants
        known = sizing_as_planning p curves wants order some most ∙ done_both _ _ (both_done (sizing_known curves wants order) _ counts s).0

        go : (o : Outcome (Unit {0})) → wants_fit p wants ≡ o → k ≡ 7
        go (done tt) f = absurd (refused≢done (sym e ∙ plan_done (in_drive p curves wants) 0 order lent (known ∙ f) long))
        go (refused l j) f =
            let seven : l ≡ 7 = refuses (λ k i. k ≡ 7) (wants_fit p wants) l j (refuses_each (λ k i. k ≡ 7) _ 7 0 wants (λ t h. refl)) f in
            let same = sym (plan_refused (in_drive p curves wants) 0 order lent l j (known ∙ f)) ∙ e in
            let number : k ≡ l = cc in
            number ∙ seven

    -- APART FROM 7, BOTH REFUSE ALIKE
    pub refused_as_planning : (k i : ℕ) → (k ≡ 7 → ⊥) → sizing curves wants order ≡ refused k i ↔ planning (in_drive p curves wants) 0 order lent ≡ refused k i
    refused_as_planning k i other = (sizing_refused k i, λ e. go (sizing curves wants order) refl e)
      where
        go : (o : Outcome (List ℕ)) → sizing curves wants order ≡ o → planning (in_drive p curves wants) 0 order lent ≡ refused k i → o ≡ refused k i
        go (done counts) s e = absurd (other (planning_refused counts s k i e))
        go (refused l j) s e =
            let same = sym (sizing_refused l j s) ∙ e in
            let number : l ≡ k = cc in
            let figure : j ≡ i = cc in
            rw (number, figure) refl
