-- `serves` meets its contract.
use mathlib.Core.Path.{◌≡◌, refl}
use mathlib.Core.Bool.{false}
use Prim.Native.Nat.{ℕ}
use lib.Dec.{leb}
use borrow.Author.Tests.{ne_eqb, eq-eqb}
use Rattle.every_size.specs.Sizes.{mark, serves}
use Rattle.every_size.proofs.serves.Goals as goal

marked : (loads entry : ℕ) → entry ≡ mark → false ≡ serves loads entry
unfolding serves
marked loads entry e = rw (eq-eqb entry mark e) refl

unmarked : (loads entry : ℕ) → (entry ≡ mark → ⊥) → leb entry loads ≡ serves loads entry
unfolding serves
unmarked loads entry e = rw (ne_eqb entry mark e) refl

pub returns-then-entry-eq-MARK : goal.returns-then-entry-eq-MARK
returns-then-entry-eq-MARK c = marked c.args.loads _ c.if-entry-eq-MARK.true

pub returns : goal.returns
returns c = unmarked c.args.loads _ c.if-entry-eq-MARK.false
