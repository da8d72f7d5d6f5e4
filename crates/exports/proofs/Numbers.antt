-- Outcomes as numbers: they fit, and tell what they stand for.
use mathlib.Core.Path.{◌≡◌, refl}
use mathlib.Core.Bool.{Bool, true, false}
use mir.Val.{bool_byte}
use Prim.Native.Nat.{ℕ, ◌/◌, ◌%◌, ◌^◌, ◌≤◌, ◌<◌}
use native.Mathlib.Omega.{arith}
use Rattle.job.specs.declared.Refusal.{Refusal}
use Rattle.job.specs.declared.Head.{Head}
use Rattle.job.specs.Refusal.{Outcome, done, refused, number, mapped}
use Rattle.job.specs.Words.{digit}
use Rattle.job.proofs.Refuses.{in_table}
use Rattle.exports.specs.Numbers.{numbered, head_of}

-- a refusal's number takes five bits
pub number_small : (r : Refusal) → number r ≤ 31
number_small r = omega (arith, (in_table r).1)

-- COUNTS AND REFUSALS NEVER MEET: a count below 2^48 is its own answer, with 0 for a refusal's number; a refusal with a figure below 2^48 tells both
pub numbered_tells : ((n : ℕ) → n < 2 ^ 48 → (numbered (done n) ≡ n) × (numbered (done n) / 2 ^ 48 ≡ 0))
    × ((k i : ℕ) → 1 ≤ k → i < 2 ^ 48 → (2 ^ 48 ≤ numbered (refused k i)) × (numbered (refused k i) / 2 ^ 48 ≡ k) × (numbered (refused k i) % 2 ^ 48 ≡ i))
unfolding numbered
numbered_tells = ((λ n l. (refl, omega arith)), (λ k i p l. (omega arith, omega arith, omega arith)))

-- what is answered in a job's head is its number of tests by the same rule
pub head_answer : (o : Outcome Head) → (head_of o).answer ≡ numbered (mapped (λ h. h.tests) o)
unfolding head_of mapped
head_answer (done h) = refl
head_answer (refused k i) = refl

-- truth as a number
pub truth : (b : Bool) → bool_byte b ≡ digit b
unfolding digit
truth true = refl
truth false = refl
