use Prim.Native.Nat.{◌+◌}
use mathlib.Core.Path.{refl, sym, ◌∙◌, ap}
use native.Mathlib.Omega.{arith}
use mathlib.Core.List.{[], ◌∷◌, append_assoc}
use lib.ListN.{length, get_or, drop}
use lib.Seq.{length-sets}
use Rattle.job_bytes.specs.SetBytes.{set_bytes}
use Rattle.job_bytes.specs.JobBytes.{record_bytes}
use Rattle.job_bytes.proofs.Encoding.{set_le, next_over}
use Rattle.job_bytes.proofs.JobWritten.{records_more, records_long, records_none}
use Rattle.job_bytes.proofs.writing.put_records.Goals as goal

pub loop-w-preserved : goal.loop-w-preserved
loop-w-preserved c =
    let ws = c.args.wants.now in
    let l = c.loop-w in
    let w = get_or ws l.w-index 0 in
    let h = c.loop-w-test.true in
    let later = record_bytes (drop (l.w-index + 1) ws) in
    let p = c.put_set_at-to.ensures.room (omega (arith, c.requires, l.invariant.room, l.invariant.long)) in
    record {
      room = omega (arith, p.0, l.invariant.room, set_le w);
      long = ap length p.1 ∙ simp length-sets l.invariant.long;
      ends = omega (arith, p.0, l.invariant.ends, records_long ws l.w-index h);
      goes = rw (p.1, p.0)
          (l.invariant.goes ∙ rw (records_more ws l.w-index h, append_assoc (set_bytes w) later (0 ∷ [])) (sym (next_over (set_bytes w) later l.out l.to 0)));
    }

pub returns-clause-end : goal.returns-clause-end
returns-clause-end c =
    let l = c.loop-w in
    omega (arith, l.invariant.ends, ap length (records_none c.args.wants.now l.w-index c.loop-w-test.false))

pub returns-clause-bytes : goal.returns-clause-bytes
returns-clause-bytes c = let l = c.loop-w in sym (l.invariant.goes ∙ rw (records_none c.args.wants.now l.w-index c.loop-w-test.false) refl)
