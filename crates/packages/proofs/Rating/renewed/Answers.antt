-- `Rating::renewed` meets its contract: what is left of the rating stays, or the joined package is the partner (`Renew`).
use mathlib.Core.Bool.{true, false≢true}
use mathlib.Core.List.{List}
use mathlib.Core.Path.{◌≡◌, refl, sym, subst, ap, ◌∙◌}
use Prim.Native.Nat.{ℕ, suc, ◌+◌, ◌≤◌, ◌<◌}
use native.Mathlib.Omega.{arith}
use lib.ListN.{length, get_or}
use Rattle.bitset.specs.Set.{◌∪◌}
use Rattle.packages.specs.Packages.{shared}
use Rattle.packages.specs.ContractWords.{at, within, joined_curves, Rated}
use Rattle.packages.specs.declared.Rating.{Rating}
use Rattle.packages.proofs.Rows as rows
use Rattle.packages.proofs.Renew as renew
use Rattle.packages.proofs.Rating.renewed.Goals.{Joined-self-pair, then-self-pair, else-self-pair}
use Rattle.packages.proofs.Rating.renewed.Goals as goal

-- what is left of the rating
kept : (c : Joined-self-pair) → let a = c.args in renew.Kept a.pair.first a.pair.second a.self c.if-self-pair.kept
kept c =
    let a = c.args in
    elim c.if-self-pair.branch [
      | then-self-pair w ↦ renew.kept_none a.pair.first a.pair.second a.self c.if-self-pair.kept (w.kept-is ∙ w.lone-kept.ensures)
      | else-self-pair w ↦ renew.kept_moved a.pair.first a.pair.second a.self c.if-self-pair.kept c.requires.0 (λ z e. w.if-self-pair.false e)
          (w.kept-is ∙ w.moved-kept.ensures)
    ]

-- the rating r is right for the package after the join
abbrev Renewed : Joined-self-pair → Rating → Type 0
Renewed c r =
    let a = c.args in
    (bound row : ℕ) (cs ds : List ℕ) → row < a.pair.first → a.pair.second ≤ length ds → length cs ≡ suc (length ds)
    → ds ≡ joined_curves cs a.pair.first a.pair.second
    → a.fits ≡ within bound (get_or ds row 0 ∪ get_or ds a.pair.first 0) → a.both ≡ shared ds (at row a.pair.first)
    → Rated (within bound) cs row a.self → Rated (within bound) ds row r

module _ (c : Joined-self-pair) where
  score_is : let a = c.args in
      (row : ℕ) (ds : List ℕ) → row < a.pair.first → a.both ≡ shared ds (at row a.pair.first) → rows.score ds row a.pair.first ≡ 1 + a.both
  score_is row ds l n = rows.score_some ds row c.args.pair.first (omega arith) ∙ ap (λ (k : ℕ). 1 + k) (sym n)

  -- what is left of the rating stays
  stays : let t = c.if-self-pair.kept in let a = c.args in
      (a.fits ≡ true → (1 + a.both ≤ t.score) × (a.pair.first < t.partner → 1 + a.both < t.score)) → Renewed c t
  stays worse =
      let a = c.args in
      λ bound row cs ds l m n e f b w.
      let s = score_is row ds l b in
      renew.rated_stays (within bound) cs ds a.pair.first a.pair.second c.requires.0 n m e row (omega arith) (λ z. omega arith)
      a.self c.if-self-pair.kept (subst (λ (k : ℕ). Rated (within bound) cs k a.self) (sym (renew.old_low a.pair.second row (omega arith))) w) (kept c)
      (λ _ g. (omega (arith, s, (worse (f ∙ g)).0), λ z. omega (arith, s, (worse (f ∙ g)).1 z)))

  -- the joined package becomes the partner
  beaten : let t = c.if-self-pair.kept in let a = c.args in
      a.fits ≡ true → t.score ≤ 1 + a.both → (1 + a.both ≤ t.score → a.pair.first < t.partner)
      → Renewed c (record { score = 1 + a.both; partner = a.pair.first })
  beaten fit high ties =
      let a = c.args in
      λ bound row cs ds l m n e f b w.
      let s = score_is row ds l b in
      renew.rated_beaten (within bound) cs ds a.pair.first a.pair.second c.requires.0 n m e row (omega arith) (λ z. omega arith)
      a.self c.if-self-pair.kept (subst (λ (k : ℕ). Rated (within bound) cs k a.self) (sym (renew.old_low a.pair.second row (omega arith))) w) (kept c)
      (record { score = 1 + a.both; partner = a.pair.first }) (sym s) refl l (sym f ∙ fit)
      (omega (arith, s, high)) (λ z. ties (omega (arith, s, z)))

pub returns-then-not-fits : goal.returns-then-not-fits
returns-then-not-fits c = stays (goal.at.returns-then-not-fits c).Joined-self-pair (λ f. absurd (false≢true (sym c.if-not-fits.true ∙ f)))

pub returns-then-kept-joined : goal.returns-then-kept-joined
returns-then-kept-joined c =
    beaten (goal.at.returns-then-kept-joined c).Joined-self-pair c.if-not-fits.false (omega (arith, c.if-kept-joined.true))
    (λ l. absurd (omega (arith, l, c.if-kept-joined.true)))

pub returns-then-joined-kept : goal.returns-then-joined-kept
returns-then-joined-kept c =
    stays (goal.at.returns-then-joined-kept c).Joined-self-pair (λ f. (omega (arith, c.if-joined-kept.true), λ l. omega (arith, c.if-joined-kept.true)))

pub returns-then-pair-kept : goal.returns-then-pair-kept
returns-then-pair-kept c =
    beaten (goal.at.returns-then-pair-kept c).Joined-self-pair c.if-not-fits.false (omega (arith, c.if-joined-kept.false))
    (λ l. omega (arith, c.if-pair-kept.true))

pub returns-else-pair-kept : goal.returns-else-pair-kept
returns-else-pair-kept c =
    stays (goal.at.returns-else-pair-kept c).Joined-self-pair
    (λ f. (omega (arith, c.if-kept-joined.false), λ l. absurd (omega (arith, l, c.if-pair-kept.false))))
