-- The starred examples of document 01, in one theorem on the written rules; with the end step and the ties of 02, wishes 1 and 2, and without the order that
-- wish 8 lets fall away.
use Rattle.std.specs.Prelude.{◌≡◌, List, [], ◌∷◌, ℕ}
use Rattle.job.specs.Refusal.{done, refused}
use Rattle.job.specs.Words.{Job, job_of}
use Rattle.job_bytes.specs.JobBytes.{request, read_job}
use Rattle.ordering.specs.Ordering.{ordering}
use Rattle.planning.specs.declared.CountEnd.{CountEnd}
use Rattle.planning.specs.Plan.{SetLists, set_lists}
use Rattle.planning.specs.Planning.{plan_answer, plan_lists}
use Rattle.curveplan.specs.Call.{job_to_plan}

-- a job of places, none of them booked, curves and wants
abbrev pub job : ℕ → ℕ → List ℕ → Job
job places curves wants = job_of (record { places = places; booked = 0; curves = curves }) wants

-- job A: its bytes, its wants, and its plan bytes
abbrev pub a_bytes : List ℕ
a_bytes = 0x07 ∷ 0x02 ∷ 0x04 ∷ 0x04 ∷ 0x00 ∷ 0x01 ∷ 0x03 ∷ 0x01 ∷ 0x06 ∷ 0x01 ∷ 0x03 ∷ 0x01 ∷ 0x08 ∷ []

-- "A's wants"
abbrev pub a_wants : List ℕ
a_wants = 3 ∷ 6 ∷ 3 ∷ 8 ∷ []

-- "A's plan bytes", with an end step (wish 1); wish 2: "Job A's step 3 drops 1, its end step 0 and 3"
abbrev pub a_plan : List ℕ
a_plan = 0x06 ∷ 0x01 ∷ 0x03 ∷ 0x00 ∷ 0x07 ∷ 0x01 ∷ 0x01 ∷ 0x01 ∷ 0x04 ∷ 0x01 ∷ 0x07 ∷ 0x01 ∷ 0x04 ∷ 0x01 ∷ 0x01 ∷ 0x02 ∷ 0x07
    ∷ 0x01 ∷ 0x02 ∷ 0x01 ∷ 0x08 ∷ 0x03 ∷ 0x01 ∷ 0x01 ∷ 0x09 ∷ []

-- lists of four entries lent
abbrev pub four : SetLists
four = set_lists (0 ∷ 0 ∷ 0 ∷ 0 ∷ []) (0 ∷ 0 ∷ 0 ∷ 0 ∷ [])

-- so many loads, and this end set
abbrev pub loads : ℕ → ℕ → CountEnd
loads n end = record { count = n; end = end }

-- the starred examples
pub record Starred : Type 0 where
  -- "A's plan bytes"
  pub plan_bytes_lem : job_to_plan a_bytes 25 ≡ done a_plan
  -- "A's wants, method 1: 2 0 1 3. Methods 2 and 3: 0 2 1 3. Loads 4 in each."; 02, wish 8, of method 2: "its starred order falls away"
  pub method_1 : ordering 1 (job 2 4 a_wants) 4 ≡ done (2 ∷ 0 ∷ 1 ∷ 3 ∷ [])
  pub method_3 : ordering 3 (job 2 4 a_wants) 4 ≡ done (0 ∷ 2 ∷ 1 ∷ 3 ∷ [])
  pub loads_1 : plan_answer (job 2 4 a_wants) 0 (2 ∷ 0 ∷ 1 ∷ 3 ∷ []) four ≡ done (loads 4 10)
  pub loads_method_3 : plan_answer (job 2 4 a_wants) 0 (0 ∷ 2 ∷ 1 ∷ 3 ∷ []) four ≡ done (loads 4 10)
  -- "Wants {0} {1} {2} {0}, 2 places: step 2 drops 1; 3 loads."
  pub drops_at_2 : (plan_lists (job 2 64 (1 ∷ 2 ∷ 4 ∷ 1 ∷ [])) 0 (0 ∷ 1 ∷ 2 ∷ 3 ∷ []) four).drops ≡ 0 ∷ 0 ∷ 2 ∷ 0 ∷ []
  pub loads_3 : plan_answer (job 2 64 (1 ∷ 2 ∷ 4 ∷ 1 ∷ [])) 0 (0 ∷ 1 ∷ 2 ∷ 3 ∷ []) four ≡ done (loads 3 5)
  -- "Wants {0,1} {0,2} {0,2}, 2 places: step 2 drops nothing; 3 loads."
  pub no_drops_at_2 : (plan_lists (job 2 64 (3 ∷ 5 ∷ 5 ∷ [])) 0 (0 ∷ 1 ∷ 2 ∷ []) four).drops ≡ 0 ∷ 2 ∷ 0 ∷ 0 ∷ []
  pub loads_3_again : plan_answer (job 2 64 (3 ∷ 5 ∷ 5 ∷ [])) 0 (0 ∷ 1 ∷ 2 ∷ []) four ≡ done (loads 3 5)
  -- "`04 01 00 00`: one test, no wants; plan `04 00`, 0 loads."
  pub one_test : read_job (0x04 ∷ 0x01 ∷ 0x00 ∷ 0x00 ∷ []) 1 ≡ done (request 0 (job 8 64 (0 ∷ [])))
  pub one_plan : job_to_plan (0x04 ∷ 0x01 ∷ 0x00 ∷ 0x00 ∷ []) 2 ≡ done (0x04 ∷ 0x00 ∷ [])
  pub no_loads : plan_answer (job 8 64 (0 ∷ [])) 0 (0 ∷ []) four ≡ done (loads 0 0)
  -- "One test wanting three curves: 2 places 7 at 0; 3 places, 3 loads."
  pub too_large : plan_answer (job 2 64 (7 ∷ [])) 0 (0 ∷ []) four ≡ refused 7 0
  pub just_fits : plan_answer (job 3 64 (7 ∷ [])) 0 (0 ∷ []) four ≡ done (loads 3 7)
  -- "`06 04 01 00 01 10`: 4 at 5; with `08` last it reads."
  pub unknown_curve : read_job (0x06 ∷ 0x04 ∷ 0x01 ∷ 0x00 ∷ 0x01 ∷ 0x10 ∷ []) 1 ≡ refused 4 5
  pub known_curve : read_job (0x06 ∷ 0x04 ∷ 0x01 ∷ 0x00 ∷ 0x01 ∷ 0x08 ∷ []) 1 ≡ done (request 0 (job 8 4 (8 ∷ [])))
