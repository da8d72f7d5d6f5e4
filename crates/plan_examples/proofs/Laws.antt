-- What a call answered, from what the rule computes to.
use mathlib.Core.Path.{◌≡◌, ap, ◌∙◌}
use Prim.Native.Nat.{ℕ}
use Rattle.std.specs.Prelude.{Result, Ok, Err}
use Rattle.job.specs.declared.Refusal.{Refusal}
use Rattle.job.specs.Refusal.{Outcome, outcome, done, refused, number, figure}
use Rattle.job.proofs.Laws.{refused≢done, done_same}

-- where the rule refuses, the number and the figure are the rule's
pub refusal_is : {A : Type 0} (r : Refusal) (o : Outcome A) (k i : ℕ) → outcome (Err r) ≡ o → o ≡ refused k i → (number r ≡ k) × (figure r ≡ i)
unfolding outcome
refusal_is {A = A} r o k i p q = let e : ◌≡◌ {A = Outcome A} (refused (number r) (figure r)) (refused k i) = p ∙ q in (cc, cc)

-- where the rule is done, its value was answered
pub answered : {A : Type 0} (r : Result A Refusal) (a : A) → outcome r ≡ done a → r ≡ Ok a
unfolding outcome
answered (Ok b) a e = ap Ok (done_same e)
answered (Err x) a e = absurd (refused≢done e)
