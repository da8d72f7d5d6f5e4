-- `plan_examples::look_behind_commit` is true: the rule computes to it.
use mathlib.Core.Path.{◌≡◌, sym, ap, ◌∙◌}
use Prim.Native.Nat.{ℕ}
use native.Mathlib.Omega.{arith}
use borrow.Author.Tests.{eq-eqb}
use Rattle.job.specs.Refusal.{Outcome, done}
use Rattle.drive.specs.declared.Sets.{Sets}
use Rattle.stepping.specs.declared.State.{State}
use Rattle.stepping.specs.declared.NextStep.TheVariants.{Step}
use Rattle.stepping.specs.Stepping.{look, commit, after_commit, state_made}
use Rattle.examples.specs.Looks.{a}
use Rattle.examples.proofs.Rules.{rules}
use Rattle.plan_examples.proofs.Laws.{answered}
use Rattle.plan_examples.proofs.look_behind_commit.Goals.{After-look}
use Rattle.plan_examples.proofs.look_behind_commit.Goals as goal

-- the state that was made, job A's
first : {s : State} {o : Outcome State} → s ≡ state_made o → o ≡ done a → s ≡ a
unfolding rules
first e made = e ∙ ap state_made made

pub returns-in_default : goal.returns-in_default
unfolding rules
returns-in_default c =
    absurd (c.in_default.not-Ok _ (answered c.commit.result _ (c.commit.ensures.answer
    ∙ ap (λ (s : State). commit s 0) (first c.state_or_done-state.ensures c.make_state-made.ensures.answer))))

-- what the look shows
shown : (c : After-look) → c.look.result ≡ Step (record { drops = 1; loads = 4 })
unfolding rules
shown c =
    c.look.ensures ∙ ap (λ (s : State). look s) (c.commit.ensures.state
    ∙ ap (λ (s : State). after_commit s 0) (first c.state_or_done-state.ensures c.make_state-made.ensures.answer))

same_sets : {a b : Sets} → Step a ≡ Step b → a ≡ b
same_sets e = cc

pub returns-then-sets-eq1 : goal.returns-then-sets-eq1
returns-then-sets-eq1 c =
    eq-eqb _ 4 (ap (λ (s : Sets). s.loads) (same_sets (sym c.in-Step.is ∙ shown (goal.at.returns-then-sets-eq1 c).After-look)))

pub returns-else-sets-eq1 : goal.returns-else-sets-eq1
returns-else-sets-eq1 c =
    eq-eqb _ 1 (ap (λ (s : Sets). s.drops) (same_sets (sym c.in-Step.is ∙ shown (goal.at.returns-else-sets-eq1 c).After-look)))

pub returns-in-End : goal.returns-in-End
returns-in-End c =
    let e = sym c.in-End.is ∙ shown (goal.at.returns-in-End c).After-look in
    let z : ◌≡◌ {A = ℕ} 0 1 = cc in absurd (omega arith)

pub returns-in-Done : goal.returns-in-Done
returns-in-Done c =
    let e = sym c.in-Done.is ∙ shown (goal.at.returns-in-Done c).After-look in
    let z : ◌≡◌ {A = ℕ} 0 1 = cc in absurd (omega arith)
