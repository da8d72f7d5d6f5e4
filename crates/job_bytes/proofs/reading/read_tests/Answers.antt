-- `job_bytes::reading::read_tests` meets its contract: the head that was read, its records, and then what comes behind them.
use mathlib.Core.Path.{◌≡◌, sym, ap, ◌∙◌}
use mathlib.Core.List.{List, [], ◌++◌}
use Prim.Native.Nat.{ℕ}
use native.Mathlib.Omega.{arith}
use lib.ListN.{length, take, drop, length-take}
use lib.Seq.{length-take-le}
use Rattle.job.specs.Refusal.{done, outcome}
use Rattle.job_bytes.specs.SetBytes.{got}
use Rattle.job_bytes.specs.JobBytes.{read_records}
use Rattle.job.proofs.Laws.{mapped_refused, handed_on}
use Rattle.job_bytes.proofs.HeadRoundTrip.{head_range}
use Rattle.job_bytes.proofs.Heads.{head_within}
use Rattle.job_bytes.proofs.Records.{whole_fault, whole_more, whole_read, records_got, job_refused, job_short, job_fits}
use Rattle.job_bytes.proofs.reading.read_tests.Goals.{In_ok-end}
use Rattle.job_bytes.proofs.reading.read_tests.Goals as goal

-- where the records end, the list, and the sets that they gave
abbrev end : In_ok-end → ℕ
end c = c.in_ok-end.end

abbrev list : In_ok-end → List ℕ
list c = c.read_records.new.list

abbrev sets : In_ok-end → List ℕ
sets c = take c.args.head.tests (list c)

records : (c : In_ok-end)
    → let a = c.args in
    read_records a.head.rig.curves a.head.tests [] a.start (drop a.start a.job.now)
    ≡ done (got (sets c) (end c) (drop (end c) a.job.now))
unfolding outcome
records c =
    let a = c.args in
    let r = c.read_records in
    records_got a.job.now a.head.rig.curves a.head.tests a.start (end c) (sets c) (head_within a.job.now a.head a.start c.requires)
    (sym c.in_ok-end.ensures.end) c.in_ok-end.ensures.sets

pub read_records-requires : goal.read_records-requires
read_records-requires c =
    let a = c.args in
    let bs = a.job.now in
    let h = head_range bs _ c.requires in
    (head_within bs a.head a.start c.requires, h.tests, h.curves.1)

pub returns-then-end-job : goal.returns-then-end-job
unfolding outcome
returns-then-end-job c =
    let a = c.args in
    let d = (goal.at.returns-then-end-job c).In_ok-end in
    let both =
    job_refused a.job.now a.wants.now 6 (end d)
    (whole_more a.job.now a.head a.start c.requires (sets d) (end d) (records d) c.if-end-job.true) in
    record { answer = both.0; lent = both.1 }

pub returns-then-wants-tests : goal.returns-then-wants-tests
unfolding outcome
returns-then-wants-tests c =
    let a = c.args in
    let d = (goal.at.returns-then-wants-tests c).In_ok-end in
    let both =
    job_short a.job.now a.wants.now _
    (whole_read a.job.now a.head a.start c.requires (sets d) (end d) (records d) (omega arith)) c.if-wants-tests.true in
    record { answer = both.0; lent = both.1 }

pub slice_bounds-list-end : goal.slice_bounds-list-end
slice_bounds-list-end c = omega (arith, c.read_records.auto.list, (head_range c.args.job.now _ c.requires).tests)

pub slice_bounds-copy_from_slice-end-3 : goal.slice_bounds-copy_from_slice-end-3
slice_bounds-copy_from_slice-end-3 c =
    omega (arith, length-take {A = ℕ}, c.read_records.auto.list, (head_range c.args.job.now _ c.requires).tests)

pub copy_from_slice-requires : goal.copy_from_slice-requires
copy_from_slice-requires c =
    omega (arith, length-take {A = ℕ}, c.read_records.auto.list, (head_range c.args.job.now _ c.requires).tests)

pub returns-in_err-end : goal.returns-in_err-end
unfolding outcome
returns-in_err-end c =
    let a = c.args in
    let both =
    job_refused a.job.now a.wants.now _ _ (whole_fault a.job.now a.head a.start c.requires _ _
    (mapped_refused _ _ _ _ (sym c.in_err-end.ensures.end))) in
    record { answer = handed_on _ _ c.from_residual.ensures.1 ∙ both.0; lent = both.1 }

pub returns : goal.returns
unfolding outcome
returns c =
    let a = c.args in
    let d = (goal.at.returns c).In_ok-end in
    let long : length (list d) ≡ 256 = c.read_records.auto.list in
    let count : length (sets d) ≡ a.head.tests = length-take-le a.head.tests (list d) (omega (arith, (head_range a.job.now _ c.requires).tests)) in
    let w = job_fits a.job.now a.wants.now _
    (whole_read a.job.now a.head a.start c.requires (sets d) (end d) (records d) (omega arith)) c.if-wants-tests.false in
    record { answer = w.0; lent = ap (λ (x : List ℕ). x ++ drop a.head.tests a.wants.now) c.copy_from_slice.ensures.after ∙ rw count at w.1 }
