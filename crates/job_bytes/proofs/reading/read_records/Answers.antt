use Prim.Native.Nat.{ℕ, ◌<◌, ◌-◌, ◌+◌}
use mathlib.Core.Path.{◌≡◌, ◌∙◌, ap, subst}
use mathlib.Core.List.{List, []}
use mathlib.Core.Logic.{inl, inr}
use native.Mathlib.Omega.{arith}
use lib.ListN.{length, get_or, take, drop, length-set}
use Rattle.std.proofs.Common.{Err}
use Rattle.bitset.specs.Set.{bit}
use Rattle.job.specs.declared.Refusal.TheVariants.{Truncated, EmptyGroup, UnknownCurve}
use Rattle.job.specs.Refusal.{Outcome, refused, outcome}
use Rattle.job.proofs.Laws.{handed_on}
use Rattle.job_bytes.specs.SetBytes.{Got, got, read_groups}
use Rattle.job_bytes.specs.JobBytes.{read_records}
use Rattle.job_bytes.proofs.Turns.{groups_end, records_end}
use Rattle.job_bytes.proofs.Encoding.{rest_is, rest_long}
use Rattle.job_bytes.proofs.GroupByte.{Answers, owed_end, answer_owed, answer_empty, answer_unknown, answer_curves}
use Rattle.job_bytes.proofs.Records.{record_none, record_fault, record_read, list_more, LeftWith, left_refused, left_passed, promise_refused}
use Rattle.job_bytes.proofs.Records.{promise_done}
use Rattle.job_bytes.proofs.reading.read_records.Goals.{Left-tests}
use Rattle.job_bytes.proofs.reading.read_records.Goals.{else-tests-test, then-tests-test+then-rest-eq0, then-tests-test+else-rest-eq0+then-loop-j-test+in-Err-Owed}
use Rattle.job_bytes.proofs.reading.read_records.Goals.{then-tests-test+else-rest-eq0+then-loop-j-test+in-Err-Empty, then-tests-test+else-rest-eq0+then-loop-j-test+in-Err-Unknown}
use Rattle.job_bytes.proofs.reading.read_records.Goals as goal

pub loop-j-preserved : goal.loop-j-preserved
loop-j-preserved c =
    let a = c.args in
    let job = a.job.now in
    let at = c.tests.at in
    let rest = take (length job - at) (drop at job) in
    let g = c.loop-j in
    let d = bit g.j (get_or rest 0 0) in
    let h : g.j < 8 = c.loop-j-test.true in
    let f = subst (Answers rest g.used d g.j a.curves) c.in-Ok.is c.read_due.ensures in
    let r = answer_curves 1 3 4 a.curves (get_or rest 0 0) g.set at g.used g.j rest h c.requires.2 c.in-Ok.group g.invariant.fits f in
    record { fits = r.0; same = g.invariant.same; goes = g.invariant.goes ∙ r.1 }

pub tests-preserved : goal.tests-preserved
tests-preserved c =
    let a = c.args in
    let q = c.tests in
    let job = a.job.now in
    let rest = take (length job - q.at) (drop q.at job) in
    let u = c.loop-j.used in
    let set = c.loop-j.set in
    let full : c.loop-j.j ≡ 8 = omega arith in
    let some : 0 < length rest = omega (arith, c.if-rest-eq0.false) in
    let long = rest_long job q.at in
    let read = rw full at c.loop-j.invariant.goes ∙ groups_end 1 3 4 a.curves (get_or rest 0 0) set (q.at + u) (drop u rest) in
    record {
      within = omega arith;
      long = simp length-set q.invariant.long;
      fine = c.loop-j.invariant.same ∙ q.invariant.fine;
      goes =
          rw (list_more q.list q.t set (omega arith))
          (q.invariant.goes
          ∙ record_read job a.curves a.tests q.t q.at (take q.t q.list) (omega arith) rest (rest_is job q.at) some set u read);
    }

-- the way out in the middle of a test's groups: the record's fault is the reading's
module _ (k : Left-tests) (more : k.tests.t < k.args.tests) where
  abbrev whole : Outcome (Got (List ℕ))
  whole = let a = k.args in read_records a.curves a.tests [] a.start (drop a.start a.job.now)

  abbrev rest : List ℕ
  rest = let job = k.args.job.now in take (length job - k.tests.at) (drop k.tests.at job)

  fault : (n f : ℕ) → 0 < length rest
      → read_groups 1 3 4 k.args.curves 8 0 (get_or rest 0 0) 0 (k.tests.at + 1) (drop 1 rest) ≡ refused n f → whole ≡ refused n f
  fault n f some e =
      let a = k.args in
      let q = k.tests in
      q.invariant.goes
      ∙ record_fault a.job.now a.curves a.tests q.t q.at (take q.t q.list) more rest (rest_is a.job.now q.at) some n f e

-- what the ways out of the loops say of the reading
left : (k : Left-tests)
    → let a = k.args in
    let q = k.tests in
    LeftWith k.tests-test.answer (read_records a.curves a.tests [] a.start (drop a.start a.job.now))
    (got (take a.tests q.list) q.at (drop q.at a.job.now))
left k =
    let a = k.args in
    let pre = k.requires in
    let q = k.tests in
    let job = a.job.now in
    let part = take (length job - q.at) (drop q.at job) in
    let long = rest_long job q.at in
    elim k.tests-test.branch [
      | else-tests-test w ↦
          let e : q.t ≡ a.tests = omega (arith, w.tests-test.false) in
          inl (
            w.answer-is ∙ q.invariant.fine,
            rw e at (q.invariant.goes ∙ records_end a.curves a.tests q.t (take q.t q.list) q.at (drop q.at job) w.tests-test.false),
          )
      | then-tests-test+then-rest-eq0 w ↦
          let e : q.at ≡ length job = omega (arith, w.if-rest-eq0.true) in
          inr (
            Truncated (length job),
            w.answer-is,
            q.invariant.goes
                ∙ record_none job a.curves a.tests q.t q.at (take q.t q.list) w.tests-test.true (omega arith) ∙ ap (refused 1) e,
          )
      | then-tests-test+else-rest-eq0+then-loop-j-test+in-Err-Owed w ↦
          let p = w.loop-j in
          let f = subst (Answers part p.used (bit p.j (get_or part 0 0)) p.j a.curves) (w.in-Err-Owed.is ∙ ap Err w.in-Err-Owed.field-0-is) w.read_due.ensures in
          let e = p.invariant.goes ∙ answer_owed 1 3 4 a.curves (get_or part 0 0) p.set q.at p.used p.j part w.loop-j-test.true pre.2 f in
          let n : q.at + p.used ≡ length job = omega (arith, owed_end part p.used (bit p.j (get_or part 0 0)) p.j a.curves f, p.invariant.fits) in
          inr (Truncated (length job), w.answer-is, fault k w.tests-test.true 1 (q.at + p.used) (omega (arith, w.if-rest-eq0.false)) e ∙ ap (refused 1) n)
      | then-tests-test+else-rest-eq0+then-loop-j-test+in-Err-Empty w ↦
          let p = w.loop-j in
          let f = subst (Answers part p.used (bit p.j (get_or part 0 0)) p.j a.curves) (w.in-Err-Empty.is ∙ ap Err w.in-Err-Empty.field-0-is) w.read_due.ensures in
          let e = p.invariant.goes ∙ answer_empty 1 3 4 a.curves (get_or part 0 0) p.set q.at p.used p.j part w.loop-j-test.true pre.2 f in
          inr (EmptyGroup (q.at + p.used), w.answer-is, fault k w.tests-test.true 3 (q.at + p.used) (omega (arith, w.if-rest-eq0.false)) e)
      | then-tests-test+else-rest-eq0+then-loop-j-test+in-Err-Unknown w ↦
          let p = w.loop-j in
          let f = subst (Answers part p.used (bit p.j (get_or part 0 0)) p.j a.curves) (w.in-Err-Unknown.is ∙ ap Err w.in-Err-Unknown.field-0-is) w.read_due.ensures in
          let e = p.invariant.goes ∙ answer_unknown 1 3 4 a.curves (get_or part 0 0) p.set q.at p.used p.j part w.loop-j-test.true pre.2 f in
          inr (UnknownCurve (q.at + p.used), w.answer-is, fault k w.tests-test.true 4 (q.at + p.used) (omega (arith, w.if-rest-eq0.false)) e)
    ]

pub returns-in_err-answer : goal.returns-in_err-answer
unfolding outcome
returns-in_err-answer c =
    let x = c.in_err-answer.field-0.0 in
    let both =
    promise_refused x _ _ (left_refused _ _ _ (left (goal.at.returns-in_err-answer c).Left-tests) x c.in_err-answer.was) in
    record { end = handed_on _ _ c.from_residual.ensures.1 ∙ both.0; sets = both.1 }

pub returns : goal.returns
returns c =
    let both =
    promise_done _ _ (left_passed _ _ _ (left (goal.at.returns c).Left-tests) c.in_ok-answer.was) in
    record { end = both.0; sets = both.1 }
