-- What reading, ordering, planning and writing come to in turn. Once a job is read, only 7 and, for the buffer, 9 can follow.
use mathlib.Core.Path.{◌≡◌, refl, sym, ◌∙◌}
use mathlib.Core.List.{List}
use Prim.Native.Nat.{ℕ}
use lib.ListN.{length}
use Rattle.job.specs.Refusal.{Outcome, done, refused, ◌>>=◌, ◌>>◌, mapped, room}
use Rattle.job.specs.Words.{capacity}
use Rattle.job.specs.Handed.{wants_fit}
use Rattle.job_bytes.specs.JobBytes.{Request, job_in, read_bytes}
use Rattle.job_bytes.specs.OldFiles.{upgraded}
use Rattle.job.proofs.Laws.{refused≢done, done_same, made_refused}
use Rattle.job_bytes.proofs.SetRoundTrip.{Bytes}
use Rattle.job_bytes.proofs.ReadExact.{read_exact}
use Rattle.drive.specs.Steps.{load_count}
use Rattle.planning.specs.Plan.{Plan, handed}
use Rattle.planning.specs.Planning.{checking}
use Rattle.plan_bytes.specs.PlanBytes.{plan_bytes, write_plan}
use Rattle.plan_bytes.specs.ContractWords.{write_steps, write_steps_answer, write_steps_buffer}
use Rattle.plan_bytes.proofs.Writing.{passed_written}
use Rattle.planned.specs.Planned.{Planned, plan_job}
use Rattle.planned.proofs.Composed.{old_planned, order_of, sets_of, checked, job_planned, job_too_large}
use Rattle.curveplan.specs.Call.{written, job_to_plan, call_plan}

-- the plan bytes of a job
abbrev pub bytes_of : Request → List ℕ
bytes_of q = plan_bytes (order_of q) (handed 0 (sets_of q))

-- ---- the whole, of bytes that read
module _ (bs : List ℕ) (q : Request) (all : Bytes bs) (read : read_bytes bs ≡ done q) where
  pub call_written : wants_fit (capacity q.head.rig) q.wants ≡ done tt → (lent : ℕ)
      → job_to_plan bs lent ≡ ◌>>◌ (room lent (length (bytes_of q))) (done (bytes_of q))
  unfolding job_to_plan written write_plan ◌>>=◌
  call_written f lent = rw (job_planned bs q all read f, checked q (read_exact bs q all read) f) refl

  pub call_too_large : (k i : ℕ) → wants_fit (capacity q.head.rig) q.wants ≡ refused k i → (lent : ℕ) → job_to_plan bs lent ≡ refused k i
  unfolding job_to_plan ◌>>=◌
  call_too_large k i f lent = rw (job_too_large bs q all read k i f) refl

-- of bytes that do not
job_unread : (bs : List ℕ) (k i : ℕ) → read_bytes bs ≡ refused k i → plan_job bs ≡ refused k i
unfolding plan_job ◌>>=◌
job_unread bs k i e = rw e refl

pub call_unread : (bs : List ℕ) (k i : ℕ) → read_bytes bs ≡ refused k i → (lent : ℕ) → job_to_plan bs lent ≡ refused k i
unfolding job_to_plan ◌>>=◌
call_unread bs k i e lent = rw (job_unread bs k i e) refl

-- 02, wish 8: an old job file with method 2 is answered as with 1 in its place
pub old_called : (bs : List ℕ) (lent : ℕ) → job_to_plan bs lent ≡ job_to_plan (upgraded bs) lent
unfolding job_to_plan
old_called bs lent = rw (← (old_planned bs)) refl

-- ---- what was planned passes the check, so that it is written the same without it
module _ (bs : List ℕ) (all : Bytes bs) (p : Planned) (planned : plan_job bs ≡ done p) where
  abbrev Passes : Type 0
  Passes = (n : ℕ) × (checking (job_in p.request) 0 p.order p.plan ≡ done n)

  passes : Passes
  passes = go (read_bytes bs) refl
    where
      fits : (q : Request) → read_bytes bs ≡ done q → (o : Outcome (Unit {0})) → wants_fit (capacity q.head.rig) q.wants ≡ o → Passes
      fits q read (done tt) f = (load_count (sets_of q), rw (done_same (sym planned ∙ job_planned bs q all read f)) (checked q (read_exact bs q all read) f))
      fits q read (refused k i) f = absurd (refused≢done (sym (job_too_large bs q all read k i f) ∙ planned))

      go : (o : Outcome Request) → read_bytes bs ≡ o → Passes
      go (done q) read = fits q read (wants_fit (capacity q.head.rig) q.wants) refl
      go (refused k i) read = absurd (refused≢done (sym (job_unread bs k i read) ∙ planned))

  call_steps : (lent : ℕ) → job_to_plan bs lent ≡ write_steps p.order p.plan lent
  unfolding job_to_plan written ◌>>=◌
  call_steps lent = rw planned (passed_written (job_in p.request) 0 p.order p.plan passes.0 passes.1 lent)

-- ---- what is answered and left, of what was planned
module _ (bs old : List ℕ) where
  pub call_refused : (k i : ℕ) → plan_job bs ≡ refused k i → (refused k i ≡ mapped length (job_to_plan bs (length old))) × (old ≡ call_plan bs old)
  unfolding call_plan job_to_plan ◌>>=◌
  call_refused k i e = made_refused _ old k i (rw e refl)

  pub call_given : Bytes bs → (p : Planned) (order : List ℕ) (plan : Plan) → plan_job bs ≡ done p → order ≡ p.order → plan ≡ p.plan
      → (answer : Outcome ℕ) (new : List ℕ) → answer ≡ write_steps_answer order plan old → new ≡ write_steps_buffer order plan old
      → (answer ≡ mapped length (job_to_plan bs (length old))) × (new ≡ call_plan bs old)
  unfolding call_plan write_steps_answer write_steps_buffer
  call_given all p order plan e f g answer new a n =
      let w : job_to_plan bs (length old) ≡ write_steps order plan (length old) = rw (f, g) (call_steps bs all p e (length old)) in
      (rw w a, rw w n)
