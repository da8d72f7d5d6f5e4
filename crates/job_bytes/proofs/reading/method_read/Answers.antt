-- `job_bytes::reading::method_read` meets its contract.
use mathlib.Core.Path.{◌≡◌, refl}
use Prim.Native.Nat.{ℕ}
use borrow.Author.Tests.{eq-eqb, ne_eqb}
use Rattle.job_bytes.specs.JobBytes.{method_read}
use Rattle.job_bytes.proofs.reading.method_read.Goals as goal

old : (v : ℕ) → v ≡ 2 → 1 ≡ method_read v
unfolding method_read
old v e = rw (eq-eqb v 2 e) refl

other : (v : ℕ) → (v ≡ 2 → ⊥) → v ≡ method_read v
unfolding method_read
other v d = rw (ne_eqb v 2 d) refl

pub returns-then-value-eq-OLD_METHOD : goal.returns-then-value-eq-OLD_METHOD
returns-then-value-eq-OLD_METHOD c = old _ c.if-value-eq-OLD_METHOD.true

pub returns-else-value-eq-OLD_METHOD : goal.returns-else-value-eq-OLD_METHOD
returns-else-value-eq-OLD_METHOD c = other _ c.if-value-eq-OLD_METHOD.false
