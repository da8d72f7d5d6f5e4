-- `job_bytes::writing::write_job` meets its contract: the bytes stand in a buffer of its own before their number is asked for.
use mathlib.Core.Path.{◌≡◌, sym, ap, ◌∙◌}
use mathlib.Core.List.{List}
use Prim.Native.Nat.{ℕ, ◌≤◌, ◌+◌}
use native.Mathlib.Omega.{arith}
use lib.ListN.{length, take}
use lib.Seq.{length-take-le}
use Rattle.job.specs.Refusal.{done, outcome}
use Rattle.job.specs.Words.{job_of}
use Rattle.job.specs.Handed.{job_known_by}
use Rattle.job_bytes.specs.JobBytes.{request, job_bytes}
use Rattle.job.proofs.Laws.{handed_on}
use Rattle.job.proofs.JobExact.{job_by_exact}
use Rattle.job_bytes.proofs.Encoding.{put, put_fits, own_bytes, own_fits}
use Rattle.job_bytes.proofs.Heads.{rows}
use Rattle.job_bytes.proofs.JobWritten.{records_le, job_length, job_sets, job_unknown, job_large, job_wrote}
use Rattle.job_bytes.proofs.writing.write_job.Goals.{After-put_records-needed, In_ok-examine_job}
use Rattle.job_bytes.proofs.writing.write_job.Goals as goal

known : (c : In_ok-examine_job) → let a =
    c.args in job_known_by a.method (job_of a.rig a.wants.now) ≡ done tt
unfolding outcome
known c = sym c.in_ok-examine_job.ensures

few : (c : In_ok-examine_job) → length c.args.wants.now ≤ 256
few c =
    let a = c.args in ((job_by_exact (job_of a.rig a.wants.now) a.method).0 (known c)).0.tests_bound

pub returns-in_err-examine_job : goal.returns-in_err-examine_job
unfolding outcome
returns-in_err-examine_job c =
    let a = c.args in
    let both = job_unknown a.method (job_of a.rig a.wants.now) a.out.now _ _ (sym c.in_err-examine_job.ensures) in
    record { answer = handed_on _ _ c.from_residual.ensures.1 ∙ both.0; lent = both.1 }

pub put_head-requires : goal.put_head-requires
put_head-requires c = let e = c.head_shape-head.ensures in (e.map, omega (arith, rows, e.len.0, e.len.1))

pub put_records-needed-requires : goal.put_records-needed-requires
put_records-needed-requires c =
    omega (arith, rows, c.head_shape-head.ensures.len.1, few (goal.at.put_records-needed-requires c).In_ok-examine_job, c.put_head.auto.out)

-- the buffer of its own has the bytes of the job in front
abbrev bytes : After-put_records-needed → List ℕ
bytes c = let a = c.args in job_bytes (request a.method (job_of a.rig a.wants.now))

own : (c : After-put_records-needed) → let p = c.put_records-needed in
    (p.result ≡ length (bytes c)) × (p.result ≤ length p.new.out) × (take p.result p.new.out ≡ bytes c)
own c =
    let p = c.put_records-needed.ensures in
    let a = c.args in
    let q = request a.method (job_of a.rig a.wants.now) in
    let n : c.put_records-needed.result ≡ length (bytes c) = omega (arith, p.end, c.head_shape-head.ensures.len.0, job_length q) in
    let m : length (bytes c) ≤ 2345 =
    omega (
      arith,
      rows,
      c.head_shape-head.ensures.len.0,
      c.head_shape-head.ensures.len.1,
      job_length q,
      records_le a.wants.now,
      (few (goal.at.After-put_records-needed c).In_ok-examine_job),
    ) in
    let s = job_sets q _ _ _ c.head_shape-head.result.len c.head_shape-head.ensures.len.0 c.put_head.ensures p.bytes in
    let z : c.put_records-needed.result ≡ 0 + length (bytes c) = omega arith in
    (n, own_fits (bytes c) _ _ _ z s (omega arith), own_bytes (bytes c) _ _ _ z s (omega arith))

pub returns-then-out-needed : goal.returns-then-out-needed
unfolding outcome
returns-then-out-needed c =
    let a = c.args in
    let at = goal.at.returns-then-out-needed c in
    let e = (own at.After-put_records-needed).0 in
    let both = rw (← e) at
    (job_large a.method (job_of a.rig a.wants.now) a.out.now (known at.In_ok-examine_job) (omega (arith, e, c.if-out-needed.true))) in
    record { answer = both.0; lent = both.1 }

pub slice_bounds-bytes-end : goal.slice_bounds-bytes-end
slice_bounds-bytes-end c = (own (goal.at.slice_bounds-bytes-end c).After-put_records-needed).1

pub slice_bounds-put_front-end : goal.slice_bounds-put_front-end
slice_bounds-put_front-end c = sym (length-take-le _ _ (own (goal.at.slice_bounds-put_front-end c).After-put_records-needed).1)

pub returns : goal.returns
unfolding outcome
returns c =
    let a = c.args in
    let old = a.out.now in
    let at = goal.at.returns c in
    let p = at.After-put_records-needed in
    let o = own p in
    let h : length (bytes p) ≤ length old = omega (arith, o.0, c.if-out-needed.false) in
    let w = job_wrote a.method (job_of a.rig a.wants.now) old (known at.In_ok-examine_job) h in
    record {
      answer = rw o.0 w.0;
      lent = c.put_front.ensures ∙ ap (λ (x : List ℕ). put x old) o.2 ∙ put_fits (bytes p) old h ∙ w.1;
    }
