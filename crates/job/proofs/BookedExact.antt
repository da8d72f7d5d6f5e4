-- The booked places of handed numbers: 10 at 260 and 13 are given exactly where all else is as for a job, and there are more than 63, or none of the places is
-- left. 260 is no place of a test: there are at most 256, so that the last one's is 4 + 255.
use mathlib.Core.Path.{◌≡◌, refl, sym, ap, ◌∙◌}
use mathlib.Core.Logic.{◌↔◌, ◌⊎◌, inl, inr}
use Prim.Native.Nat.{ℕ, ◌≤◌, ◌<◌}
use native.Mathlib.Omega.{arith}
use lib.Dec.{leb, ltb}
use lib.ListN.{length}
use borrow.Author.Tests.{leb-true, leb-false, le-leb, lt-leb, ltb-false, le-ltb}
use Rattle.job.specs.Refusal.{done, refused, demand}
use Rattle.job.specs.declared.Rig.{Rig}
use Rattle.job.specs.Words.{Job, job_of, IsJob, IsMethod}
use Rattle.job.specs.Handed.{places_known, numbers_known, booked_below, booked_known, job_known_by}
use Rattle.job.proofs.Laws.{both_done, done_both, demand_true, demand_false, demand_done, demand_refused, refused_split}
use Rattle.job.proofs.Examination.{refused_both, before_booked, by_parts}
use Rattle.job.proofs.Refuses.{refuses, BeforeBooked, before_refuses}
use Rattle.job.proofs.JobExact.{places_known_lem, booked_done, job_by_exact}

-- the same job, with no place booked
abbrev pub none_booked : Job → Job
none_booked j = job_of (record { places = j.rig.places; booked = 0; curves = j.rig.curves }) j.wants

-- ---- of the booked places alone
module _ (rig : Rig) where
  -- the two refusals
  abbrev pub OfBooked : ℕ → ℕ → Type 0
  OfBooked k i = ((63 < rig.booked) × (k ≡ 10) × (i ≡ 260)) ⊎ ((rig.places ≤ rig.booked) × (rig.booked ≤ 63) × (k ≡ 13) × (i ≡ 0))

  pub booked_refused : (k i : ℕ) → booked_known rig ≡ refused k i → OfBooked k i
  unfolding booked_known booked_below
  booked_refused k i e = go (refused_split (demand (leb rig.booked 63) 10 260) _ k i e)
    where
      go : (demand (leb rig.booked 63) 10 260 ≡ refused k i)
          ⊎ ((x : Unit {0}) × (demand (leb rig.booked 63) 10 260 ≡ done x) × (demand (ltb rig.booked rig.places) 13 0 ≡ refused k i)) → OfBooked k i
      go (inl e) = let d = demand_false _ 10 260 k i e in inl (leb-false rig.booked 63 d.0, sym d.1, sym d.2)
      go (inr (x, e, f)) =
          let d = demand_false _ 13 0 k i f in
          inr (ltb-false rig.booked rig.places d.0, leb-true rig.booked 63 (demand_true _ 10 260 e), sym d.1, sym d.2)

  above : (k i : ℕ) → k ≡ 10 → OfBooked k i → 63 < rig.booked
  above k i e (inl x) = x.0
  above k i e (inr x) = absurd (omega (arith, x.2))

  left : (k i : ℕ) → k ≡ 13 → OfBooked k i → (rig.places ≤ rig.booked) × (rig.booked ≤ 63) × (i ≡ 0)
  left k i e (inl x) = absurd (omega (arith, x.1))
  left k i e (inr x) = (x.0, x.1, x.3)

  above_63 : 63 < rig.booked → booked_known rig ≡ refused 10 260
  unfolding booked_known
  above_63 h = refused_both _ _ 10 260 (demand_refused _ 10 260 (lt-leb rig.booked 63 h))

  none_left : rig.places ≤ rig.booked → rig.booked ≤ 63 → booked_known rig ≡ refused 13 0
  unfolding booked_known booked_below
  none_left h l = done_both _ _ (demand_done _ 10 260 (le-leb rig.booked 63 l)) ∙ demand_refused _ 13 0 (le-ltb rig.booked rig.places h)

-- ---- behind all else
module _ (method : ℕ) (j : Job) where
  -- all else is passed exactly by what would be a job with no place booked, and a known method
  before_exact : before_booked method j ≡ done tt ↔ (IsJob (none_booked j) × IsMethod method)
  unfolding numbers_known
  before_exact = (
    λ e.
        let n = (both_done (numbers_known j.rig (length j.wants)) _ tt e).0 in
        let p = places_known_lem j.rig.places (both_done (places_known j.rig.places) _ tt n).0 in
        (job_by_exact (none_booked j) method).0 (by_parts method (none_booked j) ∙ done_both _ _ e ∙ booked_done (none_booked j).rig p.0 p.1),
    λ x. (both_done (before_booked method j) _ tt (sym (by_parts method (none_booked j)) ∙ (job_by_exact (none_booked j) method).1 x)).0,
  )

  -- a refusal by 13, or by 10 at 260, is of the booked places
  of_booked : (k i : ℕ) → (BeforeBooked k i → ⊥) → job_known_by method j ≡ refused k i → (before_booked method j ≡ done tt) × (booked_known j.rig ≡ refused k i)
  of_booked k i other e = go (refused_split (before_booked method j) (booked_known j.rig) k i (sym (by_parts method j) ∙ e))
    where
      go : (before_booked method j ≡ refused k i) ⊎ ((x : Unit {0}) × (before_booked method j ≡ done x) × (booked_known j.rig ≡ refused k i))
          → (before_booked method j ≡ done tt) × (booked_known j.rig ≡ refused k i)
      go (inl e) = absurd (other (refuses BeforeBooked (before_booked method j) k i (before_refuses method j) e))
      go (inr (tt, e, f)) = (e, f)

  -- "a handed count above 63 is 10 with place 259 + 1 = 260": 10 AT 260
  pub above_63_exact : job_known_by method j ≡ refused 10 260 ↔ (IsJob (none_booked j) × IsMethod method × (63 < j.rig.booked))
  above_63_exact = (
    λ e.
        let b = of_booked 10 260 (λ n. omega (arith, n.1)) e in
        let x = before_exact.0 b.0 in
        (x.0, x.1, above j.rig 10 260 refl (booked_refused j.rig 10 260 b.1)),
    λ x. by_parts method j ∙ done_both _ _ (before_exact.1 (x.0, x.1)) ∙ above_63 j.rig x.2,
  )

  -- "13, booked not below places, .. 0 for handed numbers after 10": 13
  pub none_left_exact : (i : ℕ)
      → job_known_by method j ≡ refused 13 i ↔ (IsJob (none_booked j) × IsMethod method × (j.rig.places ≤ j.rig.booked) × (j.rig.booked ≤ 63) × (i ≡ 0))
  none_left_exact i = (
    λ e.
        let b = of_booked 13 i (λ n. omega (arith, n.0)) e in
        let x = before_exact.0 b.0 in
        let l = left j.rig 13 i refl (booked_refused j.rig 13 i b.1) in
        (x.0, x.1, l.0, l.1, l.2),
    λ x. by_parts method j ∙ done_both _ _ (before_exact.1 (x.0, x.1)) ∙ none_left j.rig x.2 x.3 ∙ ap (refused 13) (sym x.4),
  )
