-- Examples of 02, wish 5, booked places, by computation on the written rules.
use Rattle.std.specs.Prelude.{◌≡◌, List, [], ◌∷◌, ◌++◌, ℕ}
use Rattle.job.specs.Refusal.{done, refused}
use Rattle.job.specs.Words.{Job, job_of}
use Rattle.job_bytes.specs.JobBytes.{request, read_job, write_job}
use Rattle.ordering.specs.Ordering.{ordering}
use Rattle.planning.specs.Plan.{plan_of}
use Rattle.planning.specs.Planning.{planning, checking}
use Rattle.plan_bytes.specs.PlanBytes.{write_plan}
use Rattle.curveplan.specs.Call.{job_to_plan, call_answer}
use Rattle.report.specs.Report.{text, sheet}
use Rattle.examples.specs.Starred.{a_wants, a_plan}
use Rattle.examples.specs.Others.{sets}

-- a job of places, booked places, curves and wants
abbrev pub booked_job : ℕ → ℕ → ℕ → List ℕ → Job
booked_job places booked curves wants = job_of (record { places = places; booked = booked; curves = curves }) wants

-- job A's list for a drive of three places, of which one is booked: "Head bit 4 is a byte of booked places", behind the others
abbrev pub a_booked : List ℕ
a_booked = 0x17 ∷ 0x03 ∷ 0x04 ∷ 0x04 ∷ 0x00 ∷ 0x01 ∷ 0x01 ∷ 0x03 ∷ 0x01 ∷ 0x06 ∷ 0x01 ∷ 0x03 ∷ 0x01 ∷ 0x08 ∷ []

-- the examples
pub record Booked : Type 0 where
  -- the list of job A has two places left: it is planned as job A, and both raw numbers are kept
  pub a_read : read_job a_booked 4 ≡ done (request 0 (booked_job 3 1 4 a_wants))
  pub a_written : write_job 0 (booked_job 3 1 4 a_wants) 14 ≡ done a_booked
  pub a_call : job_to_plan a_booked 25 ≡ done a_plan
  pub a_sheet : sheet a_booked
      ≡ text "4 tests, 2 places, method 0\n0: test 0 drop none load 0 1\n1: test 1 drop 0 load 2\n2: test 2 drop 2 load 0\n3: test 3 drop 1 load 3\n"
      ++ text "4: end drop 0 3\nloads 5\n"
  -- the byte: "1..63, absent 0"; cut, 0, 64, and 63 where 64 places have one left
  pub byte_cut : read_job (0x10 ∷ []) 0 ≡ refused 1 1
  pub byte_0 : read_job (0x10 ∷ 0x00 ∷ []) 0 ≡ refused 2 1
  pub byte_64 : read_job (0x10 ∷ 0x40 ∷ []) 0 ≡ refused 2 1
  pub byte_63 : read_job (0x11 ∷ 0x40 ∷ 0x3f ∷ []) 0 ≡ done (request 0 (booked_job 64 63 64 []))
  pub behind_method : read_job (0x18 ∷ 0x03 ∷ 0x07 ∷ []) 0 ≡ done (request 3 (booked_job 8 7 64 []))
  pub bit_5 : read_job (0x20 ∷ 0x01 ∷ []) 0 ≡ refused 2 0
  -- "13, booked not below places, with the byte's offset after its range check": equal and above; absent places are 8; before the records, behind the fields
  pub all_booked : read_job (0x11 ∷ 0x02 ∷ 0x02 ∷ []) 0 ≡ refused 13 2
  pub more_booked : read_job (0x11 ∷ 0x02 ∷ 0x3f ∷ []) 0 ≡ refused 13 2
  pub absent_places : read_job (0x10 ∷ 0x08 ∷ []) 0 ≡ refused 13 1
  pub below_absent_places : read_job (0x10 ∷ 0x07 ∷ []) 0 ≡ done (request 0 (booked_job 8 7 64 []))
  pub range_before_booked : read_job (0x11 ∷ 0x02 ∷ 0x40 ∷ []) 0 ≡ refused 2 2
  pub field_before_booked : read_job (0x19 ∷ 0x02 ∷ 0x04 ∷ 0x02 ∷ []) 0 ≡ refused 2 2
  pub before_records : read_job (0x15 ∷ 0x02 ∷ 0x01 ∷ 0x00 ∷ 0x02 ∷ 0x01 ∷ 0x00 ∷ []) 0 ≡ refused 13 4
  pub before_cut_record : read_job (0x15 ∷ 0x02 ∷ 0x01 ∷ 0x00 ∷ 0x02 ∷ []) 0 ≡ refused 13 4
  pub call_refused : call_answer (0x10 ∷ 0x08 ∷ []) [] ≡ 851969
  pub sheet_refused : sheet (0x10 ∷ 0x08 ∷ []) ≡ text "refused 13 at 1\n"
  -- ".. or 0 for handed numbers after 10; a handed count above 63 is 10 with place .. 260": behind 4 + t, and before 13, 8, 7, 9
  pub handed_equal : write_job 0 (booked_job 2 2 4 (15 ∷ [])) 0 ≡ refused 13 0
  pub handed_64 : write_job 0 (booked_job 2 64 4 (15 ∷ [])) 0 ≡ refused 10 260
  pub handed_63 : ordering 0 (booked_job 2 63 4 (15 ∷ [])) 0 ≡ refused 13 0
  pub wants_before_range : ordering 0 (booked_job 2 100 4 (15 ∷ 16 ∷ [])) 0 ≡ refused 10 5
  pub method_before_range : ordering 4 (booked_job 2 100 4 (15 ∷ [])) 0 ≡ refused 10 3
  pub places_before_booked : planning (booked_job 0 0 4 (15 ∷ [])) 0 (1 ∷ []) 0 ≡ refused 10 0
  pub wants_before_booked : planning (booked_job 2 2 4 (16 ∷ [])) 0 (1 ∷ []) 0 ≡ refused 10 4
  pub range_before_order : planning (booked_job 2 64 4 (15 ∷ [])) 0 (1 ∷ []) 0 ≡ refused 10 260
  pub booked_before_order : planning (booked_job 2 3 4 (15 ∷ [])) 0 (1 ∷ []) 0 ≡ refused 13 0
  pub booked_before_check : checking (booked_job 2 2 4 (1 ∷ [])) 0 (1 ∷ []) (plan_of [] [] 0) ≡ refused 13 0
  pub booked_before_writing : write_plan (booked_job 2 2 4 (1 ∷ [])) 0 (0 ∷ []) (plan_of (0 ∷ []) (1 ∷ []) 1) 0 ≡ refused 13 0
  -- 7, the plan and the check, by places less booked
  pub too_large : planning (booked_job 4 2 4 (3 ∷ 7 ∷ [])) 0 (0 ∷ 1 ∷ []) 2 ≡ refused 7 1
  pub just_fits : planning (booked_job 4 1 4 (3 ∷ 7 ∷ [])) 0 (0 ∷ 1 ∷ []) 2 ≡ done (sets 0 3 ∷ sets 0 4 ∷ [])
  pub ordering_too_large : ordering 0 (booked_job 4 2 4 (3 ∷ 7 ∷ [])) 2 ≡ refused 7 1
  pub excess_dropped : planning (booked_job 3 1 4 (3 ∷ 4 ∷ [])) 0 (0 ∷ 1 ∷ []) 2 ≡ done (sets 0 3 ∷ sets 2 4 ∷ [])
  pub nothing_dropped : planning (booked_job 3 0 4 (3 ∷ 4 ∷ [])) 0 (0 ∷ 1 ∷ []) 2 ≡ done (sets 0 3 ∷ sets 0 4 ∷ [])
  pub check_fits : checking (booked_job 3 1 4 (3 ∷ 4 ∷ [])) 0 (0 ∷ 1 ∷ []) (plan_of (0 ∷ 2 ∷ []) (3 ∷ 4 ∷ []) 5) ≡ done 3
  pub check_does_not_fit : checking (booked_job 3 1 4 (3 ∷ 4 ∷ [])) 0 (0 ∷ 1 ∷ []) (plan_of (0 ∷ 0 ∷ []) (3 ∷ 4 ∷ []) 7) ≡ refused 12 1
  -- method 3: with two places left the first two do not fit together, with three they do
  pub packages_booked : ordering 3 (booked_job 3 1 64 (1 ∷ 6 ∷ 8 ∷ [])) 3 ≡ done (0 ∷ 2 ∷ 1 ∷ [])
  pub packages_free : ordering 3 (booked_job 3 0 64 (1 ∷ 6 ∷ 8 ∷ [])) 3 ≡ done (0 ∷ 1 ∷ 2 ∷ [])
