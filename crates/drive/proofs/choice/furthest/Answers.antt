-- `furthest` meets its contract.
use Prim.Native.Nat.{ℕ}
use mathlib.Core.Path.{◌≡◌, refl, sym, ◌∙◌}
use mathlib.Core.Bool.{true, false≢true}
use native.Mathlib.Omega.{arith}
use Rattle.drive.specs.declared.choice.NextUse.TheVariants.{At, Never}
use Rattle.drive.specs.Uses.{further}
use Rattle.drive.proofs.Staying.{first_of_same}
use Rattle.drive.proofs.choice.furthest.Goals as goal

pub returns-then-never-eq0 : goal.returns-then-never-eq0
returns-then-never-eq0 c =
    let f = c.first_to_go.ensures in
    record {
      of_never = λ ws h. absurd (omega (arith, c.if-never-eq0.true));
      of_group = λ ws z h used. first_of_same ws _ _ _ (f.member h) f.highest used;
    }

pub returns-then-further : goal.returns-then-further
returns-then-further c =
    let f = c.first_to_go-2.ensures in
    record { of_never = λ ws h used. first_of_same ws _ _ _ (f.member h) f.highest used; of_group = λ ws z. absurd (c.if-never-eq0.false z) }

never_further : (m : ℕ) → further Never (At m) ≡ true
unfolding further
never_further m = refl

pub returns : goal.returns
returns c = absurd (false≢true (sym c.if-further.false ∙ c.further.ensures ∙ never_further _))
