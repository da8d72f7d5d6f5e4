-- `job_bytes::reading::read_field` meets its contract: one law of `Heads` a case.
use mathlib.Core.Path.{◌≡◌, refl, sym, ◌∙◌}
use mathlib.Core.Bool.{true, false}
use Prim.Native.Nat.{◌+◌, ◌*◌}
use native.Mathlib.Omega.{arith}
use Rattle.job.specs.Refusal.{outcome, ◌>>◌, mapped, demand}
use Rattle.job.specs.Words.{digit}
use Rattle.job_bytes.specs.JobBytes.{read_field}
use Rattle.job_bytes.proofs.HeadRoundTrip.{holds}
use Rattle.job_bytes.proofs.Heads.{field_cut, field_judged}
use Rattle.job_bytes.proofs.reading.read_field.Goals as goal

pub returns-then-not-stands : goal.returns-then-not-stands
unfolding digit read_field mapped outcome
returns-then-not-stands c =
    let a = c.args in
    let d : a.stands ≡ false = c.if-not-stands.true in
    let n : a.at + 0 * a.field.width ≡ a.at = omega arith in
    rw (d, n) refl

pub returns-then-job-at : goal.returns-then-job-at
unfolding digit mapped outcome
returns-then-job-at c =
    let a = c.args in
    let d : a.stands ≡ true = c.if-not-stands.false in
    rw d (field_cut a.job.now a.field a.at (omega arith) (omega arith))

pub returns-then-holds : goal.returns-then-holds
unfolding digit holds mapped outcome demand ◌>>◌
returns-then-holds c =
    let a = c.args in
    let d : a.stands ≡ true = c.if-not-stands.false in
    let n : a.at + 1 * a.field.width ≡ a.at + a.field.width = omega arith in
    let h : holds a.field c.number_at-value.result ≡ true = sym c.holds.ensures ∙ c.if-holds.true in
    rw (d, n) (field_judged a.job.now a.field a.at _ c.number_at-value.ensures ∙ rw h refl)

pub returns : goal.returns
unfolding digit holds mapped outcome demand ◌>>◌
returns c =
    let a = c.args in
    let d : a.stands ≡ true = c.if-not-stands.false in
    let h : holds a.field c.number_at-value.result ≡ false = sym c.holds.ensures ∙ c.if-holds.false in
    rw d (field_judged a.job.now a.field a.at _ c.number_at-value.ensures ∙ rw h refl)
