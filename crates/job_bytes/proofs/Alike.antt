-- Two readings of bytes that differ at one place alone, where the first has 2 and the second 1: as long as they come before it they are alike.
use mathlib.Core.Path.{◌≡◌, subst}
use mathlib.Core.Bool.{Bool, true, false}
use mathlib.Core.List.{List, [], ◌∷◌}
use Prim.Native.Nat.{ℕ, zero, suc, ◌+◌, ◌*◌, ◌≤◌}
use native.Mathlib.Omega.{arith}
use lib.ListN.{get_or, set}
use Rattle.job.specs.Refusal.{Outcome, done, refused, ◌>>=◌, ◌>>◌, demand}
use Rattle.job_bytes.specs.declared.fields.Field.{Field}
use Rattle.job_bytes.specs.SetBytes.{Got, got, byte_at}
use Rattle.job_bytes.specs.JobBytes.{read_number, read_field}

-- two lists of bytes that differ at place n alone, where the first has 2 and the second 1
pub data Apart : ℕ → List ℕ → List ℕ → Type 0 where
  here : (t : List ℕ) → Apart 0 (2 ∷ t) (1 ∷ t)
  there : (n b : ℕ) (r s : List ℕ) → Apart n r s → Apart (suc n) (b ∷ r) (b ∷ s)

pub apart_set : (bs : List ℕ) (n : ℕ) → get_or bs n 0 ≡ 2 → Apart n bs (set bs n 1)
apart_set [] n e = absurd (omega arith)
apart_set (b ∷ bs) zero e = rw e (here bs)
apart_set (b ∷ bs) (suc n) e = there n b bs (set bs n 1) (apart_set bs n e)

pub apart_first : {r s : List ℕ} (P : List ℕ → List ℕ → Type 0) → ((t : List ℕ) → P (2 ∷ t) (1 ∷ t)) → Apart 0 r s → P r s
apart_first P h (here t) = h t

-- two readings of such lists, which come before place n of what they leave: the same refusal, or the same value
pub data Alike {A : Type 0} (n : ℕ) : Outcome (Got A) → Outcome (Got A) → Type 0 where
  value : (a : A) (i : ℕ) (r s : List ℕ) → Apart n r s → Alike n (done (got a i r)) (done (got a i s))
  fault : (k f : ℕ) → Alike n (refused k f) (refused k f)

alike_then : {A B : Type 0} (n m : ℕ) {o q : Outcome (Got A)} (f : Got A → Outcome (Got B)) → Alike n o q
    → ((a : A) (i : ℕ) (r s : List ℕ) → Apart n r s → Alike m (f (got a i r)) (f (got a i s))) → Alike m (◌>>=◌ o f) (◌>>=◌ q f)
unfolding ◌>>=◌
alike_then n m f (value a i r s p) h = h a i r s p
alike_then n m f (fault k i) h = fault k i

alike_test : {A : Type 0} (n : ℕ) {o q : Outcome (Got A)} (t : Bool) (k f : ℕ) → Alike n o q → Alike n (◌>>◌ (demand t k f) o) (◌>>◌ (demand t k f) q)
unfolding ◌>>◌ demand
alike_test n true k f a = a
alike_test n false k f a = fault k f

byte_alike : (o i : ℕ) {n : ℕ} {r s : List ℕ} → Apart (suc n) r s → Alike n (byte_at o i r) (byte_at o i s)
unfolding byte_at
byte_alike o i (there n b r s p) = value b (suc i) r s p

number_alike : (w i n : ℕ) (r s : List ℕ) → Apart (w + n) r s → Alike n (read_number w i r) (read_number w i s)
unfolding read_number
number_alike zero i n r s p = let z : 0 + n ≡ n = omega arith in value 0 i r s (rw z at p)
number_alike (suc w) i n r s p =
    alike_then (w + n) n _ (byte_alike 1 i (let z : suc w + n ≡ suc (w + n) = omega arith in rw z at p))
    (λ b i r s p. alike_then n n _ (number_alike w i n r s p) (λ v i r s p. value _ i r s p))

pub field_alike : (f : Field) (d i n : ℕ) (r s : List ℕ) → d ≤ 1 → Apart (d * f.width + n) r s → Alike n (read_field f d i r) (read_field f d i s)
unfolding read_field
field_alike f zero i n r s l p = let z : 0 * f.width + n ≡ n = omega arith in value f.absent i r s (rw z at p)
field_alike f (suc d) i n r s l p =
    let e : suc d * f.width + n ≡ f.width + n = let z : d ≡ 0 = omega arith in rw z (omega arith) in
    alike_then n n _ (number_alike f.width i n r s (subst (λ (m : ℕ). Apart m r s) e p)) (λ v j r s p. alike_test n _ 2 i (value v j r s p))
