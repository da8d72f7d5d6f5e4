-- An audit, stage by stage, by what each function answered.
use mathlib.Core.Path.{◌≡◌, refl, sym, ap, ◌∙◌}
use mathlib.Core.List.{List, ◌++◌, append_assoc}
use Prim.Native.Nat.{ℕ, ◌-◌, ◌≤◌, min}
use lib.ListN.{length, take, length-map}
use Rattle.std.specs.Prelude.{Result}
use Rattle.job.specs.declared.Refusal.{Refusal}
use Rattle.job.specs.Refusal.{Outcome, done, refused, ◌>>=◌, ◌>>◌, mapped}
use Rattle.job.specs.Words.{Job}
use Rattle.job.specs.Handed.{counts_known}
use Rattle.job_bytes.specs.JobBytes.{Request, read_bytes}
use Rattle.job.proofs.Laws.{both_done, done_room, mapped_done, mapped_refused, done_mapped, refused_mapped, leaves_done}
use Rattle.lists.proofs.Overwritten.{front}
use Rattle.drive.specs.Steps.{load_count}
use Rattle.planning.specs.declared.CountEnd.{CountEnd}
use Rattle.planning.specs.Plan.{SetLists, first, entries, count_end}
use Rattle.planning.specs.Planning.{planning, plan_answer}
use Rattle.plan_bytes.specs.PlanBytes.{Contents, tests_of, plan_in, plan_steps, read_plan, plan_read, read_plan_bytes, read_plan_answer, read_plan_order, read_plan_lists}
use Rattle.plan_bytes.proofs.ReadPlan.{plan_count}
use Rattle.planned.proofs.Stages.{planning_room}
use Rattle.report.specs.declared.audit.LoadCounts.{LoadCounts}
use Rattle.report.specs.Audit.{audit_steps, audit_plan, audit, audited_outcome, audit_text, write_audit, audit_answer, audit_buffer}
use Rattle.report.specs.Report.{text, decimal}
use Rattle.report.specs.ContractWords.{Filled}

-- ---- outcomes

mapped_twice : {A B C : Type 0} (f : A → B) (g : B → C) (a : Outcome A) → mapped g (mapped f a) ≡ mapped (λ x. g (f x)) a
unfolding mapped
mapped_twice f g (done a) = refl
mapped_twice f g (refused k i) = refl

pub mapped_bind : {A B : Type 0} (f : A → B) (a : Outcome A) → mapped f a ≡ ◌>>=◌ a (λ x. done (f x))
unfolding mapped ◌>>=◌
mapped_bind f (done a) = refl
mapped_bind f (refused k i) = refl

-- ---- the fewest loads

module _ (j : Job) (order : List ℕ) (lent : SetLists) (k n : ℕ) (fits : length j.wants ≤ n) (long : length j.wants ≤ entries lent) where
  pub counts : (o : Outcome CountEnd) → o ≡ plan_answer j 0 order lent
      → mapped (λ m. record { loads = k; fewest = m.count }) o
      ≡ mapped {B = LoadCounts} (λ q. record { loads = k; fewest = load_count q }) (planning j 0 order n)
  unfolding plan_answer
  counts o e =
      rw (
        e,
        mapped_twice {C = LoadCounts} (count_end 0) (λ m. record { loads = k; fewest = m.count }) (planning j 0 order (entries lent)),
        planning_room j 0 order (entries lent) n long fits,
      ) refl

-- ---- the plan's bytes

module _ (q : Request) (plan O : List ℕ) (lent : SetLists) (long : q.head.tests ≤ min (length O) (entries lent)) where
  abbrev c : ℕ
  c = q.head.rig.curves

  abbrev t : ℕ
  t = q.head.tests

  -- with lists that are long enough 9 never comes
  whole : plan_read c t plan O lent ≡ plan_steps c t plan
  unfolding read_plan ◌>>=◌
  whole = rw (done_room (min (length O) (entries lent)) t long) (go (plan_steps c t plan))
    where
      go : (r : Outcome Contents) → ◌>>=◌ r (λ ss. ◌>>◌ (done (tt {0})) (done ss)) ≡ r
      go (done ss) = unfold ◌>>◌ in refl
      go (refused k i) = refl

  -- the first entries are the steps
  given : (ss : Contents) → plan_steps c t plan ≡ done ss → (O' : List ℕ) (new : SetLists) → O' ≡ read_plan_order c t plan O lent
      → new ≡ read_plan_lists c t plan O lent
      → audit_steps q (take t O') (first t new ss.end) ≡ audit_plan q plan
  unfolding audit_plan read_plan_order read_plan_lists plan_steps ◌>>=◌
  given ss m O' new eo el =
      let r : plan_read c t plan O lent ≡ done ss = whole ∙ m in
      let k = plan_count c t plan ss (both_done (counts_known c t) (read_plan_bytes c t plan) ss m).1 in
      let po : take t O' ≡ tests_of ss =
      ap (take t) (eo ∙ leaves_done tests_of (plan_read c t plan O lent) ss O r) ∙ front (tests_of ss) O t (length-map ss.steps (λ s. s.step.test) ∙ k) in
      let pd = ap (take t) (leaves_done (λ ss. (plan_in ss).drops) (plan_read c t plan O lent) ss lent.drops r)
      ∙ front (plan_in ss).drops lent.drops t (length-map ss.steps (λ s. s.step.drops) ∙ k) in
      let pl = ap (take t) (leaves_done (λ ss. (plan_in ss).loads) (plan_read c t plan O lent) ss lent.loads r)
      ∙ front (plan_in ss).loads lent.loads t (length-map ss.steps (λ s. s.step.loads) ∙ k) in
      rw (el, po, pd, pl, m) refl

  -- the number of steps, and the end set
  abbrev told : Contents → CountEnd
  told ss = record { count = length ss.steps; end = ss.end }

  answered : (o : Outcome CountEnd) → o ≡ read_plan_answer c t plan O lent → mapped told (plan_steps c t plan) ≡ o
  unfolding read_plan_answer
  answered o e = sym (e ∙ ap (mapped told) whole)

  pub plan_refused : (k i : ℕ) → refused k i ≡ read_plan_answer c t plan O lent → audit_plan q plan ≡ refused k i
  unfolding audit_plan ◌>>=◌
  plan_refused k i e = rw (mapped_refused told (plan_steps c t plan) k i (answered _ e)) refl

  pub plan_counted : (a : CountEnd) → done a ≡ read_plan_answer c t plan O lent → (O' : List ℕ) (new : SetLists) → O' ≡ read_plan_order c t plan O lent
      → new ≡ read_plan_lists c t plan O lent
      → audit_steps q (take t O') (first t new a.end) ≡ audit_plan q plan
  plan_counted a e O' new eo el =
      let m = mapped_done told (plan_steps c t plan) a (answered _ e) in
      ap (λ (a : CountEnd). audit_steps q (take t O') (first t new a.end)) (sym m.2) ∙ given m.0 m.1 O' new eo el

-- ---- the job's bytes

module _ (job plan : List ℕ) where
  pub job_refused : (k i : ℕ) → read_bytes job ≡ refused k i → refused k i ≡ audit job plan
  unfolding audit
  job_refused k i e = refused_mapped (λ j. audit_plan j plan) (read_bytes job) k i e

  pub job_done : (j : Request) → read_bytes job ≡ done j → done (audit_plan j plan) ≡ audit job plan
  unfolding audit
  job_done j e = done_mapped (λ j. audit_plan j plan) (read_bytes job) j e

-- ---- the text

-- grouped as it is put
pub counts_lines : (l f : ℕ) →
    audit_text (done (done (record { loads = l; fewest = f })))
    ≡ text "loads " ++ (decimal l ++ text "\nfewest ") ++ (decimal f ++ text "\nshorter by ") ++ (decimal (l - f) ++ text "\n")
unfolding audit_text
counts_lines l f = simp append_assoc

-- of what the audit answered
pub audited : {x : Result (Result LoadCounts Refusal) Refusal} {o : Outcome (Outcome LoadCounts)} (y : Result (Result LoadCounts Refusal) Refusal)
    → x ≡ y → audited_outcome x ≡ o → o ≡ audited_outcome y
audited y p q = sym q ∙ ap audited_outcome p

pub audit_written : (job plan old : List ℕ) {answer : Outcome ℕ} {new : List ℕ} {o : Outcome (Outcome LoadCounts)} → audit job plan ≡ o
    → Filled (audit_text o) old answer new
    → record { answer : answer ≡ audit_answer job plan old; bytes : new ≡ audit_buffer job plan old }
unfolding audit_answer audit_buffer write_audit
audit_written job plan old e f = rw e (record { answer = f.answers; bytes = f.holds })
