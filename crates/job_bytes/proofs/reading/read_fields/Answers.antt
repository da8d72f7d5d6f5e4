use mathlib.Core.Path.{◌≡◌, refl, ◌∙◌}
use Prim.Native.Nat.{ℕ, zero, suc, ◌+◌, ◌*◌, ◌%◌, ◌≤◌, ◌<◌}
use lib.Dec.{eqb}
use native.Mathlib.Omega.{arith}
use lib.ListN.{length, take, drop, length-set}
use lib.Seq.{take_all}
use Rattle.job.specs.Refusal.{done, outcome, ◌>>=◌, mapped}
use Rattle.job.specs.Words.{digit}
use Rattle.job.proofs.Laws.{handed_on}
use Rattle.job_bytes.specs.SetBytes.{got}
use Rattle.job_bytes.specs.JobBytes.{fields, read_field}
use Rattle.job_bytes.proofs.Heads.{rows, field_within, fields_end, fields_fault, fields_next, head_none, head_map, head_fields_lem}
use Rattle.job_bytes.proofs.Records.{list_more}
use Rattle.job_bytes.proofs.reading.read_fields.Goals.{In_ok-values, then-stands, else-stands}
use Rattle.job_bytes.proofs.reading.read_fields.Goals as goal

-- the bit of the map, as a number
bit : (n : ℕ) → digit (eqb (n % 2) 1) ≡ n % 2
unfolding digit
bit n = go (n % 2) (omega arith)
  where
    go : (m : ℕ) → m < 2 → digit (eqb m 1) ≡ m
    go zero h = refl
    go (suc zero) h = refl
    go (suc (suc m)) h = absurd (omega arith)

-- the field that was read
field : (c : In_ok-values)
    → let l = c.loop-j in
    let bs = c.args.job.now in
    let f = c.row-field.result in
    let v = c.in_ok-values.field-0 in
    let n = l.at + l.map % 2 * f.width in
    (read_field f (l.map % 2) l.at (drop l.at bs) ≡ done (got v n (drop n bs))) × (n ≤ length bs)
unfolding mapped outcome
field c =
    let e = rw (bit c.loop-j.map) at c.in_ok-values.ensures in
    (e, field_within c.args.job.now c.row-field.result c.loop-j.at _ _ _ c.loop-j.invariant.within e)

pub returns-then-job-eq0 : goal.returns-then-job-eq0
unfolding mapped outcome
returns-then-job-eq0 c = head_none c.args.job.now c.if-job-eq0.true

pub returns-then-map-ge-MAPS : goal.returns-then-map-ge-MAPS
unfolding mapped outcome
returns-then-map-ge-MAPS c = head_map c.args.job.now (omega arith) (rw rows c.if-map-ge-MAPS.true)

pub row-field-requires : goal.row-field-requires
row-field-requires c = omega (arith, rows)

pub returns-in_err-values : goal.returns-in_err-values
unfolding mapped outcome ◌>>=◌
returns-in_err-values c =
    let bs = c.args.job.now in
    let l = c.loop-j in
    let r = c.row-field in
    head_fields_lem bs (omega arith) (rw rows (omega arith))
    ∙ rw (
      l.invariant.goes ∙ fields_fault bs fields l.j l.map (take l.j l.values) l.at r.result r.ensures.0 _ _
          (rw (bit l.map) at c.in_err-values.ensures),
      handed_on _ _ c.from_residual.ensures.1,
    ) refl

pub loop-j-preserved : goal.loop-j-preserved
loop-j-preserved c =
    let l = c.loop-j in
    let bs = c.args.job.now in
    let r = c.row-field in
    let w = r.result.width in
    let f = field (goal.at.loop-j-preserved c).In_ok-values in
    let more = list_more l.values l.j c.in_ok-values.field-0 (omega (arith, rows, l.invariant.long)) in
    let at : c.if-stands.at ≡ l.at + l.map % 2 * w =
    elim c.if-stands.branch [
      | then-stands v ↦ let one : l.map % 2 ≡ 1 = v.if-stands.true in v.at-is ∙ rw one (omega arith)
      | else-stands v ↦ let none : l.map % 2 ≡ 0 = omega (arith, v.if-stands.false) in v.at-is ∙ rw none (omega arith)
    ] in
    rw at (record {
      long = simp length-set l.invariant.long;
      within = f.1;
      goes = rw more (l.invariant.goes ∙ fields_next bs fields l.j l.map (take l.j l.values) l.at r.result r.ensures.0 _ f.0);
    })

pub returns : goal.returns
unfolding mapped outcome ◌>>=◌
returns c =
    let bs = c.args.job.now in
    let l = c.loop-j in
    let e : take l.j l.values ≡ l.values = take_all l.j l.values (omega (arith, rows, l.invariant.long)) in
    head_fields_lem bs (omega arith) (rw rows (omega arith))
    ∙ rw (l.invariant.goes ∙ fields_end bs fields l.j l.map (take l.j l.values) l.at (omega (arith, rows)), e) refl
