-- Examples of 02, wish 8, method 2 goes, by computation on the written rules.
use Rattle.std.specs.Prelude.{◌≡◌, List, [], ◌∷◌, ◌++◌, replicate, ℕ}
use Rattle.job.specs.Refusal.{done, refused}
use Rattle.job_bytes.specs.JobBytes.{request, read_job, write_job}
use Rattle.job_bytes.specs.OldFiles.{upgraded}
use Rattle.ordering.specs.Ordering.{ordering}
use Rattle.curveplan.specs.Call.{job_to_plan}
use Rattle.report.specs.Report.{text, sheet}
use Rattle.examples.specs.Starred.{job, a_bytes, a_wants}
use Rattle.examples.specs.Booked.{booked_job}

-- job A's list with a method byte
abbrev pub a_by : ℕ → List ℕ
a_by m = 0x0f ∷ 0x02 ∷ 0x04 ∷ 0x04 ∷ 0x00 ∷ m ∷ 0x01 ∷ 0x03 ∷ 0x01 ∷ 0x06 ∷ 0x01 ∷ 0x03 ∷ 0x01 ∷ 0x08 ∷ []

-- the examples
pub record OldFiles : Type 0 where
  -- "Old job files with method 2 still read, as method 1, and are written back with 1"; the others as they were
  pub a_read : read_job (a_by 0x02) 4 ≡ done (request 1 (job 2 4 a_wants))
  pub a_written : write_job 1 (job 2 4 a_wants) 14 ≡ done (a_by 0x01)
  pub a_upgraded : upgraded (a_by 0x02) ≡ a_by 0x01
  pub a_1_read : read_job (a_by 0x01) 4 ≡ done (request 1 (job 2 4 a_wants))
  pub a_1_same : upgraded (a_by 0x01) ≡ a_by 0x01
  pub a_3_read : read_job (a_by 0x03) 4 ≡ done (request 3 (job 2 4 a_wants))
  pub a_3_same : upgraded (a_by 0x03) ≡ a_by 0x03
  pub a_0_same : upgraded a_bytes ≡ a_bytes
  -- ordered by method 1, and "the sheet shows 1"
  pub a_call : job_to_plan (a_by 0x02) 21
      ≡ done (0x06 ∷ 0x01 ∷ 0x03 ∷ 0x02 ∷ 0x04 ∷ 0x00 ∷ 0x07 ∷ 0x01 ∷ 0x01 ∷ 0x01 ∷ 0x04 ∷ 0x01 ∷ 0x07 ∷ 0x01 ∷ 0x04 ∷ 0x01 ∷ 0x08 ∷ 0x03
      ∷ 0x01 ∷ 0x01 ∷ 0x0a ∷ [])
  pub a_sheet : sheet (a_by 0x02)
      ≡ text "4 tests, 2 places, method 1\n0: test 2 drop none load 0 1\n1: test 0 drop none load none\n2: test 1 drop 0 load 2\n3: test 3 drop 2 load 3\n"
      ++ text "4: end drop 1 3\nloads 4\n"
  -- the method byte is found behind whatever stands before it; a 2 elsewhere stays
  pub alone : read_job (0x08 ∷ 0x02 ∷ []) 0 ≡ done (request 1 (job 8 64 []))
  pub alone_upgraded : upgraded (0x08 ∷ 0x02 ∷ []) ≡ 0x08 ∷ 0x01 ∷ []
  pub behind_places : upgraded (0x09 ∷ 0x02 ∷ 0x02 ∷ []) ≡ 0x09 ∷ 0x02 ∷ 0x01 ∷ []
  pub behind_curves : upgraded (0x0a ∷ 0x02 ∷ 0x02 ∷ []) ≡ 0x0a ∷ 0x02 ∷ 0x01 ∷ []
  pub behind_tests : upgraded (0x0c ∷ 0x02 ∷ 0x00 ∷ 0x02 ∷ 0x00 ∷ 0x00 ∷ []) ≡ 0x0c ∷ 0x02 ∷ 0x00 ∷ 0x01 ∷ 0x00 ∷ 0x00 ∷ []
  pub before_booked_lem : read_job (0x18 ∷ 0x02 ∷ 0x02 ∷ []) 0 ≡ done (request 1 (booked_job 8 2 64 []))
  pub before_booked_upgraded : upgraded (0x18 ∷ 0x02 ∷ 0x02 ∷ []) ≡ 0x18 ∷ 0x01 ∷ 0x02 ∷ []
  pub places_alone : upgraded (0x01 ∷ 0x02 ∷ []) ≡ 0x01 ∷ 0x02 ∷ []
  pub cut_before : upgraded (0x0b ∷ 0x02 ∷ 0x02 ∷ []) ≡ 0x0b ∷ 0x02 ∷ 0x02 ∷ []
  -- what else is refused of such a file is refused at the same offset
  pub byte_cut : read_job (0x08 ∷ []) 0 ≡ refused 1 1
  pub record_cut : read_job (0x0c ∷ 0x01 ∷ 0x00 ∷ 0x02 ∷ []) 1 ≡ refused 1 4
  pub empty_group : read_job (0x0c ∷ 0x01 ∷ 0x00 ∷ 0x02 ∷ 0x01 ∷ 0x00 ∷ []) 1 ≡ refused 3 5
  pub surplus : read_job (0x08 ∷ 0x02 ∷ 0xff ∷ []) 0 ≡ refused 6 2
  pub all_booked : read_job (0x18 ∷ 0x02 ∷ 0x08 ∷ []) 0 ≡ refused 13 2
  pub no_room : read_job (a_by 0x02) 3 ≡ refused 9 4
  -- "A handed method 2 gets refusal 10 at place 3": behind places, curves and tests, before the wants, the booked places, 13, 7 and 9
  pub handed_ordering : ordering 2 (job 2 4 a_wants) 4 ≡ refused 10 3
  pub handed_writing : write_job 2 (job 2 4 a_wants) 14 ≡ refused 10 3
  pub handed_no_tests : ordering 2 (job 2 4 []) 0 ≡ refused 10 3
  pub places_before : ordering 2 (job 0 4 a_wants) 4 ≡ refused 10 0
  pub curves_before : write_job 2 (job 2 0 a_wants) 14 ≡ refused 10 1
  pub tests_before : ordering 2 (job 2 4 (replicate 257 0)) 1 ≡ refused 10 2
  pub before_wants : write_job 2 (job 2 4 (16 ∷ [])) 0 ≡ refused 10 3
  pub before_range : ordering 2 (booked_job 2 64 4 a_wants) 4 ≡ refused 10 3
  pub before_13 : ordering 2 (booked_job 2 2 4 a_wants) 4 ≡ refused 10 3
  pub before_7 : ordering 2 (job 2 4 (7 ∷ [])) 0 ≡ refused 10 3
