-- The other examples of document 01, and examples that tell its readings apart, by computation on the written rules.
use Rattle.std.specs.Prelude.{◌≡◌, [], ◌∷◌, ◌++◌, ℕ, replicate}
use Rattle.job.specs.Refusal.{done, refused}
use Rattle.job_bytes.specs.JobBytes.{request, read_job, write_job}
use Rattle.ordering.specs.Ordering.{ordering}
use Rattle.drive.specs.declared.Sets.{Sets}
use Rattle.planning.specs.Plan.{plan_of, set_lists}
use Rattle.planning.specs.Planning.{planning, plan_answer, plan_lists, checking}
use Rattle.plan_bytes.specs.PlanBytes.{read_plan, write_plan, step_at}
use Rattle.curveplan.specs.Call.{call_answer}
use Rattle.report.specs.Report.{text, sheet}
use Rattle.examples.specs.Starred.{job, a_bytes, a_wants, a_plan, loads}

-- a step's drops and loads
abbrev pub sets : ℕ → ℕ → Sets
sets d l = record { drops = d; loads = l }

-- the examples without a star, and more that tell readings apart
pub record Others : Type 0 where
  -- No bytes: 1 at 0. `01`: 1 at 1. `01 00`, `01 08`, `01 41`: 2 at 1.
  pub no_bytes : read_job [] 256 ≡ refused 1 0
  pub cut_places : read_job (0x01 ∷ []) 256 ≡ refused 1 1
  pub places_0 : read_job (0x01 ∷ 0x00 ∷ []) 256 ≡ refused 2 1
  pub places_absent_value : read_job (0x01 ∷ 0x08 ∷ []) 256 ≡ refused 2 1
  pub places_65 : read_job (0x01 ∷ 0x41 ∷ []) 256 ≡ refused 2 1
  pub empty_group : read_job (0x04 ∷ 0x01 ∷ 0x00 ∷ 0x01 ∷ 0x00 ∷ []) 256 ≡ refused 3 4
  pub trailing_byte : read_job (0x04 ∷ 0x01 ∷ 0x00 ∷ 0x00 ∷ 0x00 ∷ []) 256 ≡ refused 6 4
  -- Order 0 1 1 or 0 1 for three tests: 8 at 2.
  pub plan_repeated_test : planning (job 2 4 (0 ∷ 0 ∷ 0 ∷ [])) 0 (0 ∷ 1 ∷ 1 ∷ []) 3 ≡ refused 8 2
  pub plan_missing_test : planning (job 2 4 (0 ∷ 0 ∷ 0 ∷ [])) 0 (0 ∷ 1 ∷ []) 3 ≡ refused 8 2
  pub check_repeated_test : checking (job 2 4 (0 ∷ 0 ∷ 0 ∷ [])) 0 (0 ∷ 1 ∷ 1 ∷ []) (plan_of (0 ∷ 0 ∷ 0 ∷ []) (0 ∷ 0 ∷ 0 ∷ []) 1) ≡ refused 8 2
  pub check_missing_test : checking (job 2 4 (0 ∷ 0 ∷ 0 ∷ [])) 0 (0 ∷ 1 ∷ []) (plan_of (0 ∷ 0 ∷ 0 ∷ []) (0 ∷ 0 ∷ 0 ∷ []) 0) ≡ refused 8 2
  -- the sheet of job A
  pub a_sets : planning (job 2 4 a_wants) 0 (0 ∷ 1 ∷ 2 ∷ 3 ∷ []) 4 ≡ done (sets 0 3 ∷ sets 1 4 ∷ sets 4 1 ∷ sets 2 8 ∷ [])
  pub a_loads : plan_answer (job 2 4 a_wants) 0 (0 ∷ 1 ∷ 2 ∷ 3 ∷ []) (set_lists (0 ∷ 0 ∷ 0 ∷ 0 ∷ []) (0 ∷ 0 ∷ 0 ∷ 0 ∷ 0 ∷ [])) ≡ done (loads 5 9)
  pub a_lent_loads : (plan_lists (job 2 4 a_wants) 0 (0 ∷ 1 ∷ 2 ∷ 3 ∷ []) (set_lists (0 ∷ 0 ∷ 0 ∷ 0 ∷ []) (9 ∷ 9 ∷ 9 ∷ 9 ∷ 9 ∷ []))).loads
      ≡ (3 ∷ 4 ∷ 1 ∷ 8 ∷ 9 ∷ [])
  pub a_read : read_job a_bytes 4 ≡ done (request 0 (job 2 4 a_wants))
  pub a_written : write_job 0 (job 2 4 a_wants) 13 ≡ done a_bytes
  pub a_written_short : write_job 0 (job 2 4 a_wants) 12 ≡ refused 9 13
  pub a_call : call_answer a_bytes (replicate 25 0) ≡ 25
  pub a_call_short : call_answer a_bytes (replicate 24 0) ≡ 589849
  pub a_plan_written : write_plan (job 2 4 a_wants) 0 (0 ∷ 1 ∷ 2 ∷ 3 ∷ []) (plan_of (0 ∷ 1 ∷ 4 ∷ 2 ∷ []) (3 ∷ 4 ∷ 1 ∷ 8 ∷ []) 9) 25 ≡ done a_plan
  pub a_step_0 : step_at 4 4 a_plan 0 ≡ (0x06 ∷ 0x01 ∷ 0x03 ∷ 0x00 ∷ [])
  pub a_step_1 : step_at 4 4 a_plan 1 ≡ (0x07 ∷ 0x01 ∷ 0x01 ∷ 0x01 ∷ 0x04 ∷ 0x01 ∷ [])
  pub a_step_3 : step_at 4 4 a_plan 3 ≡ (0x07 ∷ 0x01 ∷ 0x02 ∷ 0x01 ∷ 0x08 ∷ 0x03 ∷ [])
  -- 02, wish 1: the end step is the step at position 4
  pub a_step_4 : step_at 4 4 a_plan 4 ≡ (0x01 ∷ 0x01 ∷ 0x09 ∷ [])
  pub a_step_5 : step_at 4 4 a_plan 5 ≡ []
  pub no_end_step : step_at 4 1 (0x04 ∷ 0x00 ∷ []) 1 ≡ []
  pub a_step_surplus : step_at 4 4 (a_plan ++ (0x00 ∷ [])) 0 ≡ []
  pub a_step_no_curves : step_at 0 4 a_plan 0 ≡ []
  pub a_step_257_tests : step_at 4 257 a_plan 0 ≡ []
  pub a_sheet : sheet a_bytes
      ≡ text "4 tests, 2 places, method 0\n0: test 0 drop none load 0 1\n1: test 1 drop 0 load 2\n2: test 2 drop 2 load 0\n3: test 3 drop 1 load 3\n"
      ++ text "4: end drop 0 3\nloads 5\n"
  pub sheet_refused : sheet (0x05 ∷ 0x02 ∷ 0x01 ∷ 0x00 ∷ 0x01 ∷ 0x07 ∷ []) ≡ text "refused 7 at 0\n"
  -- 02, wish 2: "Of curves with equally distant next use the highest number is dropped": 01's plan of job A, which drops 0 in step 3, passes the check all the
  -- same; a curve of a higher number whose next use is nearer stays; several go one by one, of those never used and of those used in the same later step;
  -- more of these go than stay
  pub a_lowest : checking (job 2 4 a_wants) 0 (0 ∷ 1 ∷ 2 ∷ 3 ∷ []) (plan_of (0 ∷ 1 ∷ 4 ∷ 1 ∷ []) (3 ∷ 4 ∷ 1 ∷ 8 ∷ []) 10) ≡ done 5
  pub nearer_stays : planning (job 3 5 (7 ∷ 8 ∷ 4 ∷ [])) 0 (0 ∷ 1 ∷ 2 ∷ []) 3 ≡ done (sets 0 7 ∷ sets 2 8 ∷ sets 0 0 ∷ [])
  pub never_highest : planning (job 4 6 (15 ∷ 48 ∷ 1 ∷ [])) 0 (0 ∷ 1 ∷ 2 ∷ []) 3 ≡ done (sets 0 15 ∷ sets 12 48 ∷ sets 0 0 ∷ [])
  pub same_step_highest : planning (job 4 6 (15 ∷ 48 ∷ 15 ∷ [])) 0 (0 ∷ 1 ∷ 2 ∷ []) 3 ≡ done (sets 0 15 ∷ sets 12 48 ∷ sets 48 12 ∷ [])
  pub one_stays : planning (job 4 7 (15 ∷ 112 ∷ 15 ∷ [])) 0 (0 ∷ 1 ∷ 2 ∷ []) 3 ≡ done (sets 0 15 ∷ sets 14 112 ∷ sets 112 14 ∷ [])
  pub furthest_then_highest : planning (job 4 6 (15 ∷ 48 ∷ 2 ∷ 5 ∷ [])) 0 (0 ∷ 1 ∷ 2 ∷ 3 ∷ []) 4 ≡ done (sets 0 15 ∷ sets 12 48 ∷ sets 0 0 ∷ sets 32 4 ∷ [])
  -- 02, wish 3: "A job with no tests now reads: empty order, no plan bytes, 0 loads, and a sheet of its first and last line."; bytes behind it are surplus, and a
  -- tests field of 0 is refused as before (`tests_0`)
  pub none_read : read_job (0x00 ∷ []) 0 ≡ done (request 0 (job 8 64 []))
  pub none_head_read : read_job (0x0b ∷ 0x02 ∷ 0x04 ∷ 0x03 ∷ []) 0 ≡ done (request 3 (job 2 4 []))
  pub none_trailing : read_job (0x00 ∷ 0xff ∷ []) 0 ≡ refused 6 1
  pub none_head_cut : read_job (0x08 ∷ []) 0 ≡ refused 1 1
  pub none_written : write_job 0 (job 8 64 []) 1 ≡ done (0x00 ∷ [])
  pub none_written_short : write_job 3 (job 2 4 []) 3 ≡ refused 9 4
  pub none_order_0 : ordering 0 (job 2 4 []) 0 ≡ done []
  pub none_order_1 : ordering 1 (job 2 4 []) 0 ≡ done []
  pub none_order_3 : ordering 3 (job 2 4 []) 0 ≡ done []
  pub none_loads : plan_answer (job 2 4 []) 0 [] (set_lists [] (7 ∷ [])) ≡ done (loads 0 0)
  pub none_lent : plan_lists (job 2 4 []) 0 [] (set_lists [] (7 ∷ [])) ≡ set_lists [] (7 ∷ [])
  pub none_checked : checking (job 2 4 []) 0 [] (plan_of [] [] 0) ≡ done 0
  pub none_plan_written : write_plan (job 2 4 []) 0 [] (plan_of [] [] 0) 0 ≡ done []
  pub none_plan_read : read_plan 4 0 [] 0 ≡ done (record { steps = []; behind = 0; end = 0 })
  pub none_call : call_answer (0x00 ∷ []) [] ≡ 0
  pub none_sheet : sheet (0x00 ∷ []) ≡ text "0 tests, 8 places, method 0\nloads 0\n"
  pub none_head_sheet : sheet (0x0b ∷ 0x02 ∷ 0x04 ∷ 0x03 ∷ []) ≡ text "0 tests, 2 places, method 3\nloads 0\n"
  -- an order or a list with an entry is surplus; an end step alone reads, is fetched at position 0, and fails the check, since nothing is held
  pub none_order_surplus : planning (job 2 4 []) 0 (0 ∷ []) 0 ≡ refused 8 0
  pub none_drops_surplus : checking (job 2 4 []) 0 [] (plan_of (0 ∷ []) [] 0) ≡ refused 12 0
  pub none_loads_surplus : checking (job 2 4 []) 0 [] (plan_of [] (0 ∷ []) 0) ≡ refused 12 0
  pub none_end_read : read_plan 4 0 (0x01 ∷ 0x01 ∷ 0x0f ∷ []) 0 ≡ done (record { steps = []; behind = 0; end = 15 })
  pub none_end_fetched : step_at 4 0 (0x01 ∷ 0x01 ∷ 0x0f ∷ []) 0 ≡ (0x01 ∷ 0x01 ∷ 0x0f ∷ [])
  pub none_fetched : step_at 4 0 [] 0 ≡ []
  pub none_end_checked : checking (job 2 4 []) 0 [] (plan_of [] [] 15) ≡ refused 12 0
  pub none_step_read : read_plan 4 0 (0x04 ∷ 0x00 ∷ []) 0 ≡ refused 11 0
  -- an empty list is examined for 10 like any other, and 10 comes before 8
  pub none_places : ordering 9 (job 0 0 []) 0 ≡ refused 10 0
  pub none_curves : checking (job 2 65 []) 0 (0 ∷ []) (plan_of [] [] 1) ≡ refused 10 1
  pub none_method : write_job 4 (job 2 4 []) 0 ≡ refused 10 3
  pub none_plan_curves : read_plan 0 0 (0x00 ∷ []) 0 ≡ refused 10 1
  -- job bytes that tell readings apart
  pub map_bits : read_job (0xf1 ∷ []) 256 ≡ refused 2 0
  pub cut_tests : read_job (0x04 ∷ 0x01 ∷ []) 256 ≡ refused 1 2
  pub tests_0 : read_job (0x04 ∷ 0x00 ∷ 0x00 ∷ []) 256 ≡ refused 2 1
  pub tests_257 : read_job (0x04 ∷ 0x01 ∷ 0x01 ∷ []) 256 ≡ refused 2 1
  pub tests_256 : read_job (0x04 ∷ 0x00 ∷ 0x01 ∷ []) 256 ≡ refused 1 3
  pub curves_absent_value : read_job (0x02 ∷ 0x40 ∷ []) 256 ≡ refused 2 1
  pub method_0 : read_job (0x08 ∷ 0x00 ∷ []) 256 ≡ refused 2 1
  pub method_4 : read_job (0x08 ∷ 0x04 ∷ []) 256 ≡ refused 2 1
  pub method_out_of_range : read_job (0x0c ∷ 0x01 ∷ 0x00 ∷ 0x04 ∷ []) 256 ≡ refused 2 3
  pub cut_method : read_job (0x0c ∷ 0x01 ∷ 0x00 ∷ []) 256 ≡ refused 1 3
  pub first_field_first : read_job (0x03 ∷ 0x00 ∷ []) 256 ≡ refused 2 1
  pub cut_second_field : read_job (0x03 ∷ 0x09 ∷ []) 256 ≡ refused 1 2
  pub cut_group : read_job (0x04 ∷ 0x01 ∷ 0x00 ∷ 0x01 ∷ []) 256 ≡ refused 1 4
  pub unknown_group : read_job (0x06 ∷ 0x04 ∷ 0x01 ∷ 0x00 ∷ 0x02 ∷ 0x01 ∷ []) 256 ≡ refused 4 5
  pub empty_unknown_group : read_job (0x06 ∷ 0x04 ∷ 0x01 ∷ 0x00 ∷ 0x02 ∷ 0x00 ∷ []) 256 ≡ refused 3 5
  pub cut_unknown_group : read_job (0x06 ∷ 0x04 ∷ 0x01 ∷ 0x00 ∷ 0x02 ∷ []) 256 ≡ refused 1 5
  pub first_fault_first : read_job (0x06 ∷ 0x04 ∷ 0x01 ∷ 0x00 ∷ 0x03 ∷ 0x10 ∷ []) 256 ≡ refused 4 5
  pub cut_record : read_job (0x04 ∷ 0x02 ∷ 0x00 ∷ 0x00 ∷ []) 256 ≡ refused 1 4
  pub trailing_before_short : read_job (0x04 ∷ 0x01 ∷ 0x00 ∷ 0x00 ∷ 0xff ∷ []) 0 ≡ refused 6 4
  pub short_list : read_job (0x04 ∷ 0x01 ∷ 0x00 ∷ 0x00 ∷ []) 0 ≡ refused 9 1
  -- handed numbers
  pub places_before_curves : ordering 0 (job 0 0 (0 ∷ [])) 1 ≡ refused 10 0
  pub curves_before_method : ordering 9 (job 2 0 (0 ∷ [])) 1 ≡ refused 10 1
  pub tests_before_method : ordering 9 (job 2 4 (replicate 257 0)) 1 ≡ refused 10 2
  pub method_before_wants : ordering 4 (job 2 4 (16 ∷ [])) 1 ≡ refused 10 3
  pub lowest_unknown_test : ordering 3 (job 2 4 (15 ∷ 16 ∷ 16 ∷ [])) 1 ≡ refused 10 5
  pub places_before_order : planning (job 65 4 (15 ∷ [])) 0 (0 ∷ []) 1 ≡ refused 10 0
  pub order_before_sizes : planning (job 2 4 (7 ∷ [])) 0 (1 ∷ []) 1 ≡ refused 8 0
  pub sizes_before_short : planning (job 2 4 (3 ∷ 7 ∷ 7 ∷ [])) 0 (2 ∷ 1 ∷ 0 ∷ []) 0 ≡ refused 7 1
  pub short_drops : plan_answer (job 2 4 (3 ∷ 3 ∷ 3 ∷ [])) 0 (2 ∷ 1 ∷ 0 ∷ []) (set_lists (0 ∷ 0 ∷ []) (0 ∷ 0 ∷ 0 ∷ [])) ≡ refused 9 3
  pub short_loads : plan_answer (job 2 4 (3 ∷ 3 ∷ 3 ∷ [])) 0 (2 ∷ 1 ∷ 0 ∷ []) (set_lists (0 ∷ 0 ∷ 0 ∷ []) (0 ∷ 0 ∷ [])) ≡ refused 9 3
  pub surplus_position : planning (job 2 4 (3 ∷ 3 ∷ 3 ∷ [])) 0 (2 ∷ 1 ∷ 0 ∷ 0 ∷ []) 3 ≡ refused 8 3
  -- the check
  pub length_faults_smaller : checking (job 2 4 (0 ∷ 0 ∷ [])) 0 (0 ∷ 1 ∷ []) (plan_of (1 ∷ 0 ∷ 0 ∷ []) (0 ∷ []) 0) ≡ refused 12 1
  pub surplus_drops : checking (job 2 4 (0 ∷ 0 ∷ [])) 0 (0 ∷ 1 ∷ []) (plan_of (0 ∷ 0 ∷ 0 ∷ []) (0 ∷ 0 ∷ []) 0) ≡ refused 12 2
  pub surplus_both : checking (job 2 4 (0 ∷ 0 ∷ [])) 0 (0 ∷ 1 ∷ []) (plan_of (0 ∷ 0 ∷ 0 ∷ []) (0 ∷ 0 ∷ 0 ∷ []) 0) ≡ refused 12 2
  pub reloaded : checking (job 2 4 (1 ∷ 1 ∷ [])) 0 (0 ∷ 1 ∷ []) (plan_of (0 ∷ 1 ∷ []) (1 ∷ 1 ∷ []) 1) ≡ done 2
  pub check_too_large : checking (job 2 4 (1 ∷ 7 ∷ [])) 0 (0 ∷ 1 ∷ []) (plan_of (0 ∷ 0 ∷ []) (1 ∷ 6 ∷ []) 7) ≡ refused 12 1
  pub early_load : checking (job 2 4 (1 ∷ 2 ∷ [])) 0 (0 ∷ 1 ∷ []) (plan_of (0 ∷ 0 ∷ []) (3 ∷ 0 ∷ []) 3) ≡ done 2
  pub unheld_drop : checking (job 2 4 (1 ∷ [])) 0 (0 ∷ []) (plan_of (16 ∷ []) (1 ∷ []) 1) ≡ refused 12 0
  pub foreign_load : checking (job 2 4 (1 ∷ [])) 0 (0 ∷ []) (plan_of (0 ∷ []) (17 ∷ []) 17) ≡ refused 12 0
  -- 02, wish 1: the end set. It forgets a held curve, names one that is not held, names a foreign one; lengths and steps come before it
  pub end_forgotten : checking (job 2 4 (1 ∷ [])) 0 (0 ∷ []) (plan_of (0 ∷ []) (1 ∷ []) 0) ≡ refused 12 1
  pub end_not_held : checking (job 2 4 (1 ∷ [])) 0 (0 ∷ []) (plan_of (0 ∷ []) (1 ∷ []) 3) ≡ refused 12 1
  pub end_foreign : checking (job 2 4 (1 ∷ [])) 0 (0 ∷ []) (plan_of (0 ∷ []) (1 ∷ []) 17) ≡ refused 12 1
  pub lengths_before_end : checking (job 2 4 (1 ∷ [])) 0 (0 ∷ []) (plan_of [] (1 ∷ []) 0) ≡ refused 12 0
  pub step_before_end : checking (job 2 4 (1 ∷ 2 ∷ [])) 0 (0 ∷ 1 ∷ []) (plan_of (0 ∷ 0 ∷ []) (1 ∷ 0 ∷ []) 0) ≡ refused 12 1
  pub end_before_short : write_plan (job 2 4 (1 ∷ [])) 0 (0 ∷ []) (plan_of (0 ∷ []) (1 ∷ []) 0) 0 ≡ refused 12 1
  -- plan bytes
  pub step_bit_3 : read_plan 4 4 (0x08 ∷ []) 4 ≡ refused 11 0
  pub step_without_test : read_plan 4 4 (0x03 ∷ []) 4 ≡ refused 11 0
  pub empty_set_map : read_plan 4 4 (0x05 ∷ 0x00 ∷ []) 4 ≡ refused 11 1
  pub plan_foreign_curve : read_plan 4 4 (0x06 ∷ 0x01 ∷ 0x10 ∷ []) 4 ≡ refused 11 2
  pub plan_foreign_test : read_plan 4 4 (0x04 ∷ 0x04 ∷ []) 4 ≡ refused 11 1
  pub plan_cut : read_plan 4 4 (0x06 ∷ 0x01 ∷ 0x03 ∷ 0x00 ∷ []) 4 ≡ refused 11 4
  pub plan_short_list : read_plan 4 1 (0x04 ∷ 0x00 ∷ []) 0 ≡ refused 9 1
  pub plan_trailing_before_short : read_plan 4 1 (0x04 ∷ 0x00 ∷ 0x04 ∷ []) 0 ≡ refused 11 2
  -- an end step: any set of the job's curves reads, another map does not, nor a zero map, a foreign curve, a cut one, a second one, one too early
  pub end_reads : read_plan 4 1 (0x04 ∷ 0x00 ∷ 0x01 ∷ 0x01 ∷ 0x0f ∷ []) 1
      ≡ done (record { steps = record { step = record { test = 0; drops = 0; loads = 0 }; from = 0; until = 2 } ∷ []; behind = 2; end = 15 })
  pub end_other_map : read_plan 4 1 (0x04 ∷ 0x00 ∷ 0x03 ∷ 0x01 ∷ 0x0f ∷ []) 1 ≡ refused 11 2
  pub end_with_test : read_plan 4 1 (0x04 ∷ 0x00 ∷ 0x05 ∷ 0x01 ∷ 0x0f ∷ 0x00 ∷ []) 1 ≡ refused 11 2
  pub end_empty_map : read_plan 4 1 (0x04 ∷ 0x00 ∷ 0x01 ∷ 0x00 ∷ []) 1 ≡ refused 11 3
  pub end_empty_group : read_plan 4 1 (0x04 ∷ 0x00 ∷ 0x01 ∷ 0x01 ∷ 0x00 ∷ []) 1 ≡ refused 11 4
  pub end_foreign_curve : read_plan 4 1 (0x04 ∷ 0x00 ∷ 0x01 ∷ 0x01 ∷ 0x10 ∷ []) 1 ≡ refused 11 4
  pub end_cut : read_plan 4 1 (0x04 ∷ 0x00 ∷ 0x01 ∷ 0x01 ∷ []) 1 ≡ refused 11 4
  pub end_twice : read_plan 4 1 (0x04 ∷ 0x00 ∷ 0x01 ∷ 0x01 ∷ 0x0f ∷ 0x01 ∷ 0x01 ∷ 0x0f ∷ []) 1 ≡ refused 11 5
  pub end_early : read_plan 4 1 (0x01 ∷ 0x01 ∷ 0x0f ∷ 0x04 ∷ 0x00 ∷ []) 1 ≡ refused 11 0
  pub plan_curves_before_tests : read_plan 0 257 [] 0 ≡ refused 10 1
  -- method 3
  pub packages_without_common : ordering 3 (job 2 64 (1 ∷ 6 ∷ 8 ∷ [])) 3 ≡ done (0 ∷ 2 ∷ 1 ∷ [])
  pub packages_ties : ordering 3 (job 2 64 (3 ∷ 6 ∷ 9 ∷ [])) 3 ≡ done (1 ∷ 0 ∷ 2 ∷ [])
  pub packages_flipped : ordering 3 (job 3 64 (7 ∷ 56 ∷ 49 ∷ [])) 3 ≡ done (0 ∷ 2 ∷ 1 ∷ [])
  pub packages_both_flipped : ordering 3 (job 3 64 (7 ∷ 14 ∷ 112 ∷ 97 ∷ [])) 4 ≡ done (1 ∷ 0 ∷ 3 ∷ 2 ∷ [])
