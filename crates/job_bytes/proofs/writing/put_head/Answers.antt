use mathlib.Core.Path.{◌≡◌, refl, sym, ap, ◌∙◌}
use Prim.Native.Nat.{◌+◌}
use native.Mathlib.Omega.{arith}
use borrow.Author.Rules.{rules}
use lib.ListN.{length, get_or, length-set}
use lib.Seq.{length-sets}
use Rattle.job_bytes.specs.JobBytes.{number_bytes, head_bytes}
use Rattle.job_bytes.proofs.Encoding.{sets_append}
use Rattle.job_bytes.proofs.HeadRoundTrip.{fields_bytes}
use Rattle.job_bytes.proofs.Heads.{rows}
use Rattle.job_bytes.proofs.JobWritten.{number_length, bytes_from, absent_bytes, stands_bytes, stands_long, none, head_length}
use Rattle.job_bytes.proofs.writing.put_head.Goals.{then-value-field, else-value-field}
use Rattle.job_bytes.proofs.writing.put_head.Goals as goal

pub bounds-out-0 : goal.bounds-out-0
bounds-out-0 c = omega (arith, head_length c.args.values.now, c.requires.1)

pub loop-j-init : goal.loop-j-init
loop-j-init c = record { long = refl; fits = simp length-set (omega (arith, head_length c.args.values.now, c.requires.1)); goes = refl }

pub row-field-requires : goal.row-field-requires
row-field-requires c = let long : length c.args.values.now ≡ 5 = search rules in omega (arith, rows)

pub put_number-requires : goal.put_number-requires
put_number-requires c =
    let r = c.row-field in
    let long : length c.args.values.now ≡ 5 = search rules in
    let more = stands_long c.args.values.now c.loop-j.j r.result r.ensures.0 (omega (arith, rows))
    c.if-value-field.true in
    omega (arith, c.loop-j.invariant.long, c.loop-j.invariant.fits)

pub loop-j-preserved : goal.loop-j-preserved
loop-j-preserved c =
    let l = c.loop-j in
    let vs = c.args.values.now in
    let r = c.row-field in
    let v = get_or vs l.j 0 in
    let w = r.result.width in
    let long : length vs ≡ 5 = search rules in
    elim c.if-value-field.branch [
      | then-value-field b ↦
          let stands = b.if-value-field.true in
          let e = b.put_number.ensures in
          let more = stands_long vs l.j r.result r.ensures.0 (omega (arith, rows)) stands in
          let next = ap (lib.Seq.sets l.out l.at) (stands_bytes vs l.j r.result r.ensures.0 (omega (arith, rows)) stands) in
          rw (b.out-is, b.at-is)
          record {
            long = ap length e ∙ length-sets l.out l.at (number_bytes w v) ∙ l.invariant.long;
            fits = omega (arith, l.invariant.fits);
            goes = rw e (l.invariant.goes ∙ next ∙ sets_append (number_bytes w v) l.out (bytes_from vs (l.j + 1)) l.at ∙ rw (number_length w v) refl);
          }
      | else-value-field b ↦
          let same = absent_bytes vs l.j r.result r.ensures.0 (omega (arith, rows)) b.if-value-field.false in
          rw (b.out-is, b.at-is)
          record {
            long = l.invariant.long;
            fits = omega (arith, l.invariant.fits, ap length same);
            goes = l.invariant.goes ∙ ap (lib.Seq.sets l.out l.at) same;
          }
    ]

pub returns : goal.returns
unfolding head_bytes fields_bytes
returns c =
    let l = c.loop-j in
    let long : length c.args.values.now ≡ 5 = search rules in
    let end = (none c.args.values.now l.j (omega (arith, rows))).1 in
    rw c.requires.0 at (sym (l.invariant.goes ∙ ap (lib.Seq.sets l.out l.at) end))
