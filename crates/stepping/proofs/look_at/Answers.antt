-- `look_at` meets its contract.
use mathlib.Core.Path.{sym, ap, ◌∙◌}
use mathlib.Core.Logic.{inl, inr}
use mathlib.Core.List.{List}
use native.Mathlib.Omega.{arith}
use native.Mathlib.Numerals.{add-one}
use Prim.Native.Nat.{ℕ, ◌+◌}
use lib.ListN.{get_or, drop}
use borrow.Author.Rules.{part_to_end}
use Rattle.drive.specs.Plan.{furthest, next}
use Rattle.stepping.specs.declared.NextStep.TheVariants.{Step}
use Rattle.stepping.proofs.Exact.{done_exact, test_step, end_step}
use Rattle.stepping.proofs.look_at.Goals as goal

pub returns-then-position-tests : goal.returns-then-position-tests
returns-then-position-tests c =
    let a = c.args in
    let ws = a.wants.now in
    let later = part_to_end ws (a.position + 1) ∙ ap (λ (k : ℕ). drop k ws) (add-one a.position) in
    let sets = c.step.ensures ∙ ap (λ (l : List ℕ). next (furthest 64) a.capacity a.held (get_or ws a.position 0) l) later in
    ap Step sets ∙ sym (test_step a.capacity a.held a.position ws (omega arith))

pub returns-then-tests-position : goal.returns-then-tests-position
returns-then-tests-position c =
    let a = c.args in
    sym ((done_exact a.capacity a.held a.position a.wants.now).1 (inl (omega arith)))

pub returns-then-held-eq0 : goal.returns-then-held-eq0
returns-then-held-eq0 c =
    let a = c.args in
    sym ((done_exact a.capacity a.held a.position a.wants.now).1 (inr (omega arith, c.if-held-eq0.true)))

pub returns : goal.returns
returns c =
    let a = c.args in
    sym (end_step a.capacity a.held a.position a.wants.now (omega arith) c.if-held-eq0.false)
