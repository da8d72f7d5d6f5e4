-- `job::is_method` meets its contract.
use mathlib.Core.Path.{◌≡◌, refl}
use mathlib.Core.Bool.{false}
use Prim.Native.Nat.{ℕ}
use lib.Dec.{leb}
use borrow.Author.Tests.{eq-eqb, ne_eqb}
use Rattle.job.specs.Handed.{is_method}
use Rattle.job.proofs.is_method.Goals as goal

none : (method : ℕ) → method ≡ 2 → false ≡ is_method method
unfolding is_method
none method e = rw (eq-eqb method 2 e) refl

other : (method : ℕ) → (method ≡ 2 → ⊥) → leb method 3 ≡ is_method method
unfolding is_method
other method d = rw (ne_eqb method 2 d) refl

pub returns-then-method-eq-OLD_METHOD : goal.returns-then-method-eq-OLD_METHOD
returns-then-method-eq-OLD_METHOD c = none _ c.if-method-eq-OLD_METHOD.true

pub returns-else-method-eq-OLD_METHOD : goal.returns-else-method-eq-OLD_METHOD
returns-else-method-eq-OLD_METHOD c = other _ c.if-method-eq-OLD_METHOD.false
