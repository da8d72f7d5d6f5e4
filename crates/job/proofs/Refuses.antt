-- Which refusals can come out: a property of the number and the figure that every refusal of an outcome has.
-- 5 is the number of none.
use mathlib.Core.Path.{◌≡◌, refl}
use mathlib.Core.Logic.{◌⊎◌, inl, inr}
use mathlib.Core.Bool.{Bool, true, false}
use mathlib.Core.List.{List, [], ◌∷◌}
use Prim.Native.Nat.{ℕ, suc, ◌+◌, ◌≤◌, ◌<◌}
use native.Mathlib.Omega.{arith}
use lib.Count.{trailing_le}
use lib.ListN.{length}
use Rattle.job.specs.declared.Refusal.{Refusal}
use Rattle.job.specs.Refusal.{Outcome, done, refused, number, ◌>>=◌, ◌>>◌, mapped, demand}
use Rattle.job.specs.declared.Rig.{Rig}
use Rattle.job.specs.Words.{Job}
use Rattle.job.specs.Handed.{each, places_known, curves_known, tests_known, method_known, wants_known, numbers_known, booked_below, booked_known}
use Rattle.job.specs.Handed.{held_known, job_known_by}
use Rattle.job.proofs.Examination.{known_bounds, before_booked, by_parts}

abbrev pub Refuses : {A : Type 0} → (ℕ → ℕ → Type 0) → Outcome A → Type 0
Refuses P (done a) = Unit {0}
Refuses P (refused k i) = P k i

pub refuses : {A : Type 0} (P : ℕ → ℕ → Type 0) (o : Outcome A) (k i : ℕ) → Refuses P o → o ≡ refused k i → P k i
refuses P o k i r e = rw e at r

-- and what follows from the property
pub refuses_more : {A : Type 0} (P Q : ℕ → ℕ → Type 0) (o : Outcome A) → ((k i : ℕ) → P k i → Q k i) → Refuses P o → Refuses Q o
refuses_more P Q (done a) f p = tt
refuses_more P Q (refused k i) f p = f k i p

module _ (P : ℕ → ℕ → Type 0) where
  pub refuses_demand : (t : Bool) (k i : ℕ) → P k i → Refuses P (demand t k i)
  unfolding demand
  refuses_demand true k i p = tt
  refuses_demand false k i p = p

  pub refuses_both : {A B : Type 0} (a : Outcome A) (b : Outcome B) → Refuses P a → Refuses P b → Refuses P (◌>>◌ a b)
  unfolding ◌>>◌
  refuses_both (done a) b p q = q
  refuses_both (refused k i) b p q = p

  -- what is asked later is asked behind what was passed
  pub refuses_then : {A : Type 0} (a : Outcome (Unit {0})) (b : Outcome A) → Refuses P a → (a ≡ done tt → Refuses P b) → Refuses P (◌>>◌ a b)
  unfolding ◌>>◌
  refuses_then (done tt) b p q = q refl
  refuses_then (refused k i) b p q = p

  pub refuses_bind : {A B : Type 0} (a : Outcome A) (f : A → Outcome B) → Refuses P a → ((x : A) → a ≡ done x → Refuses P (f x)) → Refuses P (◌>>=◌ a f)
  unfolding ◌>>=◌
  refuses_bind (done a) f p q = q a refl
  refuses_bind (refused k i) f p q = p

  pub refuses_mapped : {A B : Type 0} (f : A → B) (a : Outcome A) → Refuses P a → Refuses P (mapped f a)
  unfolding mapped
  refuses_mapped f (done a) p = tt
  refuses_mapped f (refused k i) p = p

  -- the place of the first entry that fails
  pub refuses_each : (ok : ℕ → Bool) (k i : ℕ) (xs : List ℕ) → ((t : ℕ) → t < length xs → P k (i + t)) → Refuses P (each ok k i xs)
  unfolding each
  refuses_each ok k i [] p = tt
  refuses_each ok k i (x ∷ xs) p =
      let z : i + 0 ≡ i = omega arith in
      refuses_both (demand (ok x) k i) (each ok k (suc i) xs) (refuses_demand (ok x) k i (rw z at (p 0 (omega arith))))
      (refuses_each ok k (suc i) xs (λ t l. let n : i + suc t ≡ suc i + t = omega arith in rw n at (p (suc t) (omega arith))))

-- ---- the numbers of the table: 1 to 15, without 5
pub in_table : (r : Refusal) → (1 ≤ number r) × (number r ≤ 15) × (number r ≡ 5 → ⊥)
in_table (Refusal.Truncated i) = (omega arith, omega arith, λ e. omega arith)
in_table (Refusal.BadHeader i) = (omega arith, omega arith, λ e. omega arith)
in_table (Refusal.EmptyGroup i) = (omega arith, omega arith, λ e. omega arith)
in_table (Refusal.UnknownCurve i) = (omega arith, omega arith, λ e. omega arith)
in_table (Refusal.TrailingBytes i) = (omega arith, omega arith, λ e. omega arith)
in_table (Refusal.TestTooLarge i) = (omega arith, omega arith, λ e. omega arith)
in_table (Refusal.BadOrder i) = (omega arith, omega arith, λ e. omega arith)
in_table (Refusal.BufferTooSmall i) = (omega arith, omega arith, λ e. omega arith)
in_table (Refusal.BadArgument i) = (omega arith, omega arith, λ e. omega arith)
in_table (Refusal.BadPlanBytes i) = (omega arith, omega arith, λ e. omega arith)
in_table (Refusal.PlanRejected i) = (omega arith, omega arith, λ e. omega arith)
in_table (Refusal.TooManyBooked i) = (omega arith, omega arith, λ e. omega arith)
in_table (Refusal.UnknownHeld i) = (omega arith, omega arith, λ e. omega arith)
in_table (Refusal.NotNext i) = (omega arith, omega arith, λ e. omega arith)

-- 02, wish 3: "Refusal 5 is withdrawn and its number not used again": NO REFUSAL that a function can answer has this number
pub withdrawn : (r : Refusal) → number r ≡ 5 → ⊥
withdrawn r = (in_table r).2

-- ---- the examination refuses by 10 and 13 only

-- before the booked places are asked: by 10, at a place before theirs
abbrev pub BeforeBooked : ℕ → ℕ → Type 0
BeforeBooked k i = (k ≡ 10) × (i < 260)

-- at places 0 to 2, as far as the number of tests
abbrev pub OfNumbers : ℕ → ℕ → Type 0
OfNumbers k i = (k ≡ 10) × (i < 3)

pub numbers_refuse : (rig : Rig) (tests : ℕ) → Refuses OfNumbers (numbers_known rig tests)
unfolding numbers_known places_known curves_known tests_known
numbers_refuse rig tests =
    refuses_both OfNumbers _ _ (refuses_demand OfNumbers _ 10 0 (refl, omega arith))
    (refuses_both OfNumbers _ _ (refuses_demand OfNumbers _ 10 1 (refl, omega arith)) (refuses_demand OfNumbers _ 10 2 (refl, omega arith)))

-- at places from 4 on, of the wants
abbrev pub OfWants : ℕ → ℕ → Type 0
OfWants k i = (k ≡ 10) × (3 < i) × (i < 260)

pub wants_refuse : (curves : ℕ) (wants : List ℕ) → length wants ≤ 256 → Refuses OfWants (wants_known curves wants)
unfolding wants_known
wants_refuse curves wants few = refuses_each OfWants _ 10 4 wants (λ t l. (refl, omega arith, omega arith))

pub before_refuses : (method : ℕ) (j : Job) → Refuses BeforeBooked (before_booked method j)
unfolding method_known
before_refuses method j =
    refuses_then BeforeBooked _ _
    (refuses_more OfNumbers BeforeBooked (numbers_known j.rig (length j.wants)) (λ k i n. (n.0, omega (arith, n.1)))
    (numbers_refuse j.rig (length j.wants)))
    (λ e. refuses_both BeforeBooked _ _ (refuses_demand BeforeBooked _ 10 3 (refl, omega arith))
    (refuses_more OfWants BeforeBooked (wants_known j.rig.curves j.wants) (λ k i n. (n.0, n.2))
    (wants_refuse j.rig.curves j.wants (known_bounds j.rig (length j.wants) e).1)))

-- and the whole
abbrev pub HandedRefusal : ℕ → ℕ → Type 0
HandedRefusal k i = ((k ≡ 10) × (i ≤ 260)) ⊎ ((k ≡ 13) × (i ≡ 0))

booked_refuse : (rig : Rig) → Refuses HandedRefusal (booked_known rig)
unfolding booked_known booked_below
booked_refuse rig =
    refuses_both HandedRefusal _ _ (refuses_demand HandedRefusal _ 10 260 (inl (refl, omega arith))) (refuses_demand HandedRefusal _ 13 0 (inr (refl, refl)))

pub job_by_refuses : (method : ℕ) (j : Job) → Refuses HandedRefusal (job_known_by method j)
job_by_refuses method j =
    rw (by_parts method j)
    (refuses_both HandedRefusal _ _
    (refuses_more BeforeBooked HandedRefusal (before_booked method j) (λ k i n. inl (n.0, omega (arith, n.1))) (before_refuses method j))
    (booked_refuse j.rig))

-- what is held is refused by 14, at a curve below 64, or at 64 where 64 bits do not hold it
abbrev pub HeldRefusal : ℕ → ℕ → Type 0
HeldRefusal k i = (k ≡ 14) × (i ≤ 64)

pub held_refuses : (curves held : ℕ) → Refuses HeldRefusal (held_known curves held)
unfolding held_known
held_refuses curves held = refuses_demand HeldRefusal _ 14 _ (refl, trailing_le 64 _)
