-- Bytes that read give a job: places, booked places, curves and wants within the bounds, a known method, and as many wants as tests.
use mathlib.Core.Path.{◌≡◌, sym, ap, ◌∙◌}
use mathlib.Core.List.{List}
use Prim.Native.Nat.{ℕ}
use lib.ListN.{length}
use Rattle.job.specs.Refusal.{done}
use Rattle.job.specs.Handed.{job_known_by}
use Rattle.job_bytes.specs.JobBytes.{Request, job_in, request, read_bytes, write_job}
use Rattle.job_bytes.specs.OldFiles.{upgraded}
use Rattle.job.specs.Words.{Job, IsJob, IsMethod}
use Rattle.job.proofs.Laws.{both_done, done_same}
use Rattle.job.proofs.JobExact.{job_by_exact}
use Rattle.job_bytes.proofs.SetRoundTrip.{Bytes}
use Rattle.job_bytes.proofs.OldFiles.{old_read}
use Rattle.job_bytes.proofs.JobRoundTrip.{job_back, job_read}

pub record ReadJob (q : Request) : Type 0 where
  pub is_job : IsJob (job_in q)
  pub method : IsMethod q.head.method
  pub tests : length q.wants ≡ q.head.tests

pub read_exact : (bs : List ℕ) (q : Request) → Bytes bs → read_bytes bs ≡ done q → ReadJob q
read_exact bs q all e =
    let m = q.head.method in
    let w = job_read bs q all e in
    let k = (job_by_exact (job_in q) m).0 (known m (job_in q) (length bs) (upgraded bs) w) in
    let s : request m (job_in q) ≡ q = done_same (sym (job_back m (job_in q) (length bs) (upgraded bs) w) ∙ sym (old_read bs) ∙ e) in
    record { is_job = k.0; method = k.1; tests = ap (λ (x : Request). x.head.tests) s }
  where
    known : (m : ℕ) (j : Job) (lent : ℕ) (bs : List ℕ) → write_job m j lent ≡ done bs → job_known_by m j ≡ done tt
    known m j lent bs e = unfold write_job in (both_done (job_known_by m j) _ bs e).0
