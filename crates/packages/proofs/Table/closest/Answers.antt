use mathlib.Core.Path.{◌≡◌, sym, subst, ap, ◌∙◌}
use mathlib.Core.Bool.{Bool}
use mathlib.Core.List.{List}
use Prim.Native.Nat.{ℕ, ◌<◌}
use native.Mathlib.Omega.{arith}
use native.Mathlib.Decide.{ℕ_discrete}
use lib.Seq.{get_or-set_same, get_or-set_other}
use lib.ListN.{length, get_or, set, length-set, get_or-eq_default}
use Rattle.packages.specs.ContractWords.{within, unrated, Rated}
use Rattle.packages.specs.declared.Rating.{Rating}
use Rattle.packages.proofs.Rows as rows
use Rattle.packages.proofs.Renew.{row_rated, row_behind, rated_score}
use Rattle.packages.proofs.Ratings.{rated_none, rated_pair, weights_set, lighter}
use Rattle.packages.proofs.Table.closest.Goals.{In_ok-rating}
use Rattle.packages.proofs.Table.closest.Goals as goal

-- the place of the rating, and what stands there
module _ (c : In_ok-rating) where
  place : (c.highest-first.result < length c.args.self.now.curves.now) × (c.highest-first.result < length c.loop-rating.ratings)
  place =
      let h = c.in_ok-rating.ensures.lookup.3.0 in
      (omega (arith, h, c.loop-rating.invariant.long, c.requires.ratings_len), h)

  rating_is : c.in_ok-rating.field-0.now ≡ get_or c.loop-rating.ratings c.highest-first.result unrated
  rating_is = c.in_ok-rating.ensures.lookup.3.1 unrated

turned : (fits : ℕ → Bool) (cs : List ℕ) (rs : List Rating) (f k : ℕ) (r : Rating) → f < length rs → Rated fits cs f r
    → Rated fits cs k (get_or rs k unrated) → Dec (k ≡ f) → Rated fits cs k (get_or (set rs f r) k unrated)
turned fits cs rs f k r l new old (yes e) =
    subst (λ (n : ℕ). Rated fits cs n (get_or (set rs f r) n unrated)) (sym e) (subst (Rated fits cs f) (sym (get_or-set_same rs f r unrated l)) new)
turned fits cs rs f k r l new old (no e) = subst (Rated fits cs k) (sym (get_or-set_other rs f k r unrated e)) old

pub returns-in_err-rating-clause-pair : goal.returns-in_err-rating-clause-pair
returns-in_err-rating-clause-pair c =
    let rs = c.loop-rating.ratings in
    let f = c.highest-first.result in
    let e : get_or rs f unrated ≡ unrated = get_or-eq_default rs unrated {n = f} c.in_err-rating.ensures.lookup.3 in
    rw c.from_residual.ensures
    (rated_none (within c.args.self.now.bound) c.args.self.now.curves.now rs c.loop-rating.invariant.rated
    (λ k. omega (arith, ap (λ (r : Rating). r.score) e, c.highest-first.ensures.most k)))

pub overflow_cast-result : goal.overflow_cast-result
overflow_cast-result c =
    let k = (goal.at.overflow_cast-result c).In_ok-rating in
    let cs = c.args.self.now.curves.now in
    let f = c.highest-first.result in
    let r = get_or c.loop-rating.ratings f unrated in
    let e = ap (λ (r : Rating). r.partner) (rating_is k) in
    let z : 0 < r.partner = omega (arith, e, c.if-rating-gt0.true) in
    let o = row_behind (within c.args.self.now.bound) cs f r.partner (place k).0
    (((c.loop-rating.invariant.rated f (place k).0).own z).0 ∙ sym (rows.chosen_some f r.partner z)) z in
    record { fits = omega (arith, e, o, c.args.self.now.few) }

pub returns-then-rating-gt0-clause-pair : goal.returns-then-rating-gt0-clause-pair
returns-then-rating-gt0-clause-pair c =
    let k = (goal.at.returns-then-rating-gt0-clause-pair c).In_ok-rating in
    rw (rating_is k)
    (rated_pair (within c.args.self.now.bound) c.args.self.now.curves.now c.loop-rating.ratings c.loop-rating.invariant.rated c.highest-first.result
    (place k).0
    c.highest-first.ensures.most c.highest-first.ensures.earliest (omega (arith, ap (λ (r : Rating). r.partner) (rating_is k), c.if-rating-gt0.true)))

pub returns-then-rating-eq0-clause-pair : goal.returns-then-rating-eq0-clause-pair
returns-then-rating-eq0-clause-pair c =
    let e = ap (λ (r : Rating). r.score) (rating_is (goal.at.returns-then-rating-eq0-clause-pair c).In_ok-rating) in
    rated_none (within c.args.self.now.bound) c.args.self.now.curves.now c.loop-rating.ratings c.loop-rating.invariant.rated
    (λ k. omega (arith, e, c.if-rating-eq0.true, c.highest-first.ensures.most k))

pub loop-rating-smaller : goal.loop-rating-smaller
loop-rating-smaller c =
    let k = (goal.at.loop-rating-smaller c).In_ok-rating in
    let cs = c.args.self.now.curves.now in
    let rs = c.loop-rating.ratings in
    let f = c.highest-first.result in
    let e = rating_is k in
    let b = c.best_partner in
    let n : b.result.score ≡ rows.score cs f b.result.partner = b.ensures.score ∙ rows.score_as cs f b.result.partner in
    weights_set rs f b.result (place k).1
    (lighter (get_or rs f unrated) b.result (omega (arith, ap (λ (r : Rating). r.partner) e, c.if-rating-gt0.false))
    (omega (arith, ap (λ (r : Rating). r.score) e, c.if-rating-eq0.false))
    (omega (
      arith,
      n,
      rated_score (within c.args.self.now.bound) cs f (get_or rs f unrated) (place k).0 (c.loop-rating.invariant.rated f (place k).0)
          b.result.partner b.ensures.partner,
    ))
    (λ z. n ∙ ap (rows.score cs f) z ∙ rows.score_none cs f))

pub loop-rating-preserved : goal.loop-rating-preserved
loop-rating-preserved c =
    let b = c.best_partner in
    let cs = c.args.self.now.curves.now in
    let f = c.highest-first.result in
    let k = (goal.at.loop-rating-preserved c).In_ok-rating in
    let fits = within c.args.self.now.bound in
    record {
      long = simp length-set c.loop-rating.invariant.long;
      rated = λ n l.
          turned fits cs c.loop-rating.ratings f n b.result (place k).1
          (row_rated fits cs f b.result (place k).0 b.ensures.partner (b.ensures.score ∙ rows.score_as cs f b.result.partner))
          (c.loop-rating.invariant.rated n l) (ℕ_discrete n f);
    }
