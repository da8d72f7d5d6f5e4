-- The table of drive sizes, stage by stage, by what each function answered.
use mathlib.Core.Path.{◌≡◌, refl, sym, ap, ◌∙◌}
use mathlib.Core.List.{List}
use Prim.Native.Nat.{ℕ}
use native.Mathlib.Omega.{arith}
use mir.Val.{Val}
use denote.Laws.{Is}
use denote.Enum.Declared.{row}
use Rattle.std.specs.Prelude.{Option, Some, None}
use Rattle.std.specs.contracts.option.Option.{the_type}
use Rattle.lists.specs.Choice.{Found}
use Rattle.job.specs.Refusal.{Outcome, done, refused, ◌>>=◌}
use Rattle.job.proofs.Laws.{done_same, bind_done}
use Rattle.job_bytes.specs.JobBytes.{Request, read_bytes}
use Rattle.planned.specs.Planned.{order_request}
use Rattle.sizing.specs.Sizing.{sizing}
use Rattle.report.specs.declared.sizes.JobSizes.{JobSizes}
use Rattle.report.specs.Report.{printed}
use Rattle.report.proofs.TableLines.{Word}
use Rattle.report.specs.SizeTable.{size_request, size_job, table_text, sized_text, size_table, write_table, table_answer, table_buffer, wanted_found}
use Rattle.report.specs.ContractWords.{Filled}

-- ---- the counts of a list that was ordered

module _ (q : Request) where
  pub not_ordered : (k i : ℕ) → order_request q ≡ refused k i → size_request q ≡ refused k i
  unfolding size_request ◌>>=◌
  not_ordered k i e = rw e refl

  pub sized : (order : List ℕ) → order_request q ≡ done order → (counts : List ℕ) → sizing q.head.rig.curves q.wants order ≡ done counts
      → size_request q ≡ done (record { head = q.head; counts = counts })
  unfolding size_request ◌>>=◌
  sized order ordered counts e = rw (ordered, e) refl

-- ---- reading before that

pub not_read : (bs : List ℕ) (k i : ℕ) → read_bytes bs ≡ refused k i → size_job bs ≡ refused k i
unfolding size_job ◌>>=◌
not_read bs k i e = rw e refl

pub was_read : (bs : List ℕ) (q : Request) → read_bytes bs ≡ done q → size_job bs ≡ size_request q
unfolding size_job ◌>>=◌
was_read bs q e = rw e refl

-- what a sized job was made of
pub record SizedBy (bs : List ℕ) (s : JobSizes) : Type 0 where
  pub request : Request
  pub order : List ℕ
  pub read : read_bytes bs ≡ done request
  pub ordered : order_request request ≡ done order
  pub made : sizing request.head.rig.curves request.wants order ≡ done s.counts
  pub head : s.head ≡ request.head

pub sized_by : (bs : List ℕ) (s : JobSizes) → size_job bs ≡ done s → SizedBy bs s
unfolding size_job size_request
sized_by bs s e =
    let a = bind_done (read_bytes bs) _ s e in
    let b = bind_done (order_request a.0) _ s a.2 in
    let d = bind_done (sizing a.0.head.rig.curves a.0.wants b.0) _ s b.2 in
    let h = done_same d.2 in
    record {
      request = a.0;
      order = b.0;
      read = a.1;
      ordered = b.1;
      made = d.1 ∙ ap (λ (s : JobSizes). done s.counts) h;
      head = ap (λ (s : JobSizes). s.head) (sym h);
    }

-- ---- the text

-- a count that is asked for is one that a word holds
pub asked_word : (w : Option ℕ) (vs : List Val) → Is (row (the_type (denote.Plain.UInt mir.Syntax.w64))) w vs → Word (wanted_found w)
unfolding wanted_found
asked_word (Some l) vs g = omega (arith, g)
asked_word None vs g = tt

module _ (job old : List ℕ) (wanted : Found ℕ) {answer : Outcome ℕ} {new : List ℕ} where
  pub table_refused : (k i : ℕ) → size_job job ≡ refused k i → Filled (printed (refused k i)) old answer new
      → record { answer : answer ≡ table_answer job wanted old; bytes : new ≡ table_buffer job wanted old }
  unfolding table_answer table_buffer write_table size_table sized_text
  table_refused k i e f = rw e (record { answer = f.answers; bytes = f.holds })

  pub table_made : (s : JobSizes) → size_job job ≡ done s → Filled (table_text wanted s) old answer new
      → record { answer : answer ≡ table_answer job wanted old; bytes : new ≡ table_buffer job wanted old }
  unfolding table_answer table_buffer write_table size_table sized_text
  table_made s e f = rw e (record { answer = f.answers; bytes = f.holds })
