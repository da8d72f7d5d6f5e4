-- What can matter of an input: the 2,311 first bytes of a job and the 5,131 first of a plan. So a buffer of at least as many bytes takes enough of every one.
use mathlib.Core.Path.{◌≡◌, refl, sym, ap, ◌∙◌, subst}
use mathlib.Core.List.{List}
use Prim.Native.Nat.{ℕ, ◌≤◌}
use native.Mathlib.Omega.{arith}
use lib.ListN.{length, take}
use lib.Seq.{take-take}
use Rattle.lists.specs.Choice.{Found}
use Rattle.job.specs.Refusal.{Outcome, done, refused, mapped}
use Rattle.job_bytes.specs.JobBytes.{Request, read_bytes}
use Rattle.job_bytes.proofs.JobBounds.{Bounded, read, read_bounded, prefix_reads}
use Rattle.plan_bytes.proofs.PlanBounds.{prefix_plan}
use Rattle.planned.specs.Planned.{plan_job}
use Rattle.report.specs.Report.{sheet}
use Rattle.report.specs.Audit.{audit_plan, audit}
use Rattle.report.specs.SizeTable.{size_job, size_table}
use Rattle.report.specs.Input.{Enough}

-- a job that reads has at most 256 tests
pub few : (bs : List ℕ) (j : Request) → read_bytes bs ≡ done j → j.head.tests ≤ 256
few bs j e = of (subst (Bounded bs) e (read_bounded bs))
  where
    of : {j : Request} → Bounded bs (done j) → j.head.tests ≤ 256
    of (read j l t) = t

job_prefix : (n : ℕ) (bs : List ℕ) → 2312 ≤ n → read_bytes (take n bs) ≡ read_bytes bs
job_prefix n bs l = sym (prefix_reads (take n bs)) ∙ ap read_bytes (take-take 2312 n bs l) ∙ prefix_reads bs

-- BYTES BEHIND THE JOB'S 2,312TH never change a sheet, ..
pub sheet_prefix : (n : ℕ) (bs : List ℕ) → 2312 ≤ n → sheet (take n bs) ≡ sheet bs
unfolding sheet plan_job
sheet_prefix n bs l = rw (job_prefix n bs l) refl

-- .. a table of drive sizes, ..
pub table_prefix : (n : ℕ) (bs : List ℕ) (wanted : Found ℕ) → 2312 ≤ n → size_table (take n bs) wanted ≡ size_table bs wanted
unfolding size_table size_job
table_prefix n bs wanted l = rw (job_prefix n bs l) refl

-- .. nor an audit
pub audit_job_prefix : (n : ℕ) (job plan : List ℕ) → 2312 ≤ n → audit (take n job) plan ≡ audit job plan
unfolding audit
audit_job_prefix n job plan l = rw (job_prefix n job l) refl

-- BYTES BEHIND THE PLAN'S 5,131ST never change an audit
pub audit_plan_prefix : (n : ℕ) (job plan : List ℕ) → 5131 ≤ n → audit job (take n plan) ≡ audit job plan
unfolding audit
audit_plan_prefix n job plan l = go (read_bytes job) refl
  where
    go : (o : Outcome Request) → read_bytes job ≡ o → mapped (λ j. audit_plan j (take n plan)) o ≡ mapped (λ j. audit_plan j plan) o
    go (refused k i) e = unfold mapped in refl
    go (done j) e = unfold mapped audit_plan in rw (prefix_plan j.head.rig.curves j.head.tests n plan (omega (arith, few job j e))) refl

pub audit_prefix : (job plan : List ℕ) → audit (take 2312 job) (take 5131 plan) ≡ audit job plan
audit_prefix job plan = audit_job_prefix 2312 job (take 5131 plan) (omega arith) ∙ audit_plan_prefix 5131 job plan (omega arith)

-- a buffer takes enough for f where no byte behind it changes f
pub enough : {A : Type 0} (f : List ℕ → A) (n : ℕ) (buffer : List ℕ) → ((whole : List ℕ) → f (take (length buffer) whole) ≡ f whole) → Enough f n buffer
enough f n buffer same whole r = sym (same whole) ∙ ap f r
