-- Examples of 02, wish 6, a rest that is planned from the curves now held, by computation on the written rules.
use Rattle.std.specs.Prelude.{◌≡◌, List, [], ◌∷◌, ℕ, take}
use Rattle.job.specs.Refusal.{done, refused}
use Rattle.job.specs.Words.{Job}
use Rattle.job.specs.Handed.{held_known}
use Rattle.drive.specs.Steps.{held_after}
use Rattle.planning.specs.Plan.{Plan, plan_of, set_lists}
use Rattle.planning.specs.Planning.{our_plan, planning, plan_answer, plan_lists, checking}
use Rattle.plan_bytes.specs.PlanBytes.{write_plan}
use Rattle.examples.specs.Starred.{four, loads}
use Rattle.examples.specs.Others.{sets}
use Rattle.examples.specs.Booked.{booked_job}

-- THE WORKED EXAMPLE, which is also the C program `rest.c`: a list of four tests, {0,1,2} {1,2,3} {0,5} {3,4}, for a drive of four places
abbrev pub whole : Job
whole = booked_job 4 0 6 (7 ∷ 14 ∷ 33 ∷ 24 ∷ [])

-- the order as listed, of four tests ..
abbrev pub order_4 : List ℕ
order_4 = 0 ∷ 1 ∷ 2 ∷ 3 ∷ []

-- .. and of three
abbrev pub order_3 : List ℕ
order_3 = 0 ∷ 1 ∷ 2 ∷ []

-- behind its second test the rest is changed to {3} {0,4} {3,4}, and two of the places are booked
abbrev pub rest : Job
rest = booked_job 4 2 6 (8 ∷ 17 ∷ 24 ∷ [])

-- the plan for it from {0,1,2,3}, and its bytes
abbrev pub rest_plan : Plan
rest_plan = plan_of (6 ∷ 8 ∷ 1 ∷ []) (0 ∷ 16 ∷ 8 ∷ []) 24

-- the bytes
abbrev pub rest_bytes : List ℕ
rest_bytes = 0x05 ∷ 0x01 ∷ 0x06 ∷ 0x00 ∷ 0x07 ∷ 0x01 ∷ 0x08 ∷ 0x01 ∷ 0x10 ∷ 0x01 ∷ 0x07 ∷ 0x01 ∷ 0x01 ∷ 0x01 ∷ 0x08 ∷ 0x02
    ∷ 0x01 ∷ 0x01 ∷ 0x18 ∷ []

-- the examples
pub record Halfway : Type 0 where
  -- the whole list, 6 loads; behind two of its steps {0,1,2,3} is held
  pub whole_planned : planning whole 0 order_4 4 ≡ done (sets 0 7 ∷ sets 0 8 ∷ sets 4 32 ∷ sets 32 16 ∷ [])
  pub whole_loads : plan_answer whole 0 order_4 four ≡ done (loads 6 27)
  pub held_halfway : held_after 0 (take 2 (our_plan whole 0 order_4)) ≡ 15
  -- a rest that is not changed has the steps that it had
  pub unchanged : planning (booked_job 4 0 6 (33 ∷ 24 ∷ [])) 15 (0 ∷ 1 ∷ []) 2 ≡ done (sets 4 32 ∷ sets 32 16 ∷ [])
  -- the changed rest from what is held: "the first step drops down by the usual rule", to two places; 2 loads, from an empty drive 4
  pub rest_planned : planning rest 15 order_3 3 ≡ done (sets 6 0 ∷ sets 8 16 ∷ sets 1 8 ∷ [])
  pub rest_loads : plan_answer rest 15 order_3 four ≡ done (loads 2 24)
  pub rest_from_empty : plan_answer rest 0 order_3 four ≡ done (loads 4 24)
  pub rest_lent : plan_lists rest 15 order_3 (set_lists (9 ∷ 9 ∷ 9 ∷ 9 ∷ []) (7 ∷ 7 ∷ 7 ∷ [])) ≡ set_lists (6 ∷ 8 ∷ 1 ∷ 9 ∷ []) (0 ∷ 16 ∷ 8 ∷ [])
  pub rest_checked : checking rest 15 order_3 rest_plan ≡ done 2
  pub rest_written : write_plan rest 15 order_3 rest_plan 19 ≡ done rest_bytes
  -- "The plan check takes the holding as well": from an empty drive, and from other holdings, the same plan breaks a rule
  pub checked_from_empty : checking rest 0 order_3 rest_plan ≡ refused 12 0
  pub checked_from_less : checking rest 14 order_3 rest_plan ≡ refused 12 1
  pub checked_from_more : checking rest 31 order_3 rest_plan ≡ refused 12 0
  -- a curve that is held and wanted is not loaded again; what is wanted of the holding stays
  pub loaded_again : checking rest 15 order_3 (plan_of (6 ∷ 8 ∷ 1 ∷ []) (8 ∷ 16 ∷ 8 ∷ []) 24) ≡ refused 12 0
  pub wanted_dropped : checking rest 15 order_3 (plan_of (14 ∷ 8 ∷ 1 ∷ []) (0 ∷ 16 ∷ 8 ∷ []) 24) ≡ refused 12 0
  -- more is held than fits: never used, the highest go; without a want too; just as many as fit stay
  pub excess : planning (booked_job 4 2 6 (0 ∷ [])) 15 (0 ∷ []) 1 ≡ done (sets 12 0 ∷ [])
  pub no_excess : planning (booked_job 4 2 6 (0 ∷ [])) 9 (0 ∷ []) 1 ≡ done (sets 0 0 ∷ [])
  pub excess_with_wants : planning (booked_job 4 2 6 (16 ∷ [])) 3 (0 ∷ []) 1 ≡ done (sets 2 16 ∷ [])
  pub nearest_stay : planning (booked_job 4 2 6 (0 ∷ 12 ∷ [])) 15 (0 ∷ 1 ∷ []) 2 ≡ done (sets 3 0 ∷ sets 0 0 ∷ [])
  -- the check asks for the places less booked behind the loads only; the end set has what is left of the holding
  pub excess_checked : checking (booked_job 4 2 6 (0 ∷ [])) 15 (0 ∷ []) (plan_of (12 ∷ []) (0 ∷ []) 3) ≡ done 0
  pub excess_kept : checking (booked_job 4 2 6 (0 ∷ [])) 15 (0 ∷ []) (plan_of (8 ∷ []) (0 ∷ []) 7) ≡ refused 12 0
  pub end_kept : checking (booked_job 4 2 6 (0 ∷ [])) 9 (0 ∷ []) (plan_of (0 ∷ []) (0 ∷ []) 9) ≡ done 0
  pub end_without_held : checking (booked_job 4 2 6 (0 ∷ [])) 9 (0 ∷ []) (plan_of (0 ∷ []) (0 ∷ []) 0) ≡ refused 12 1
  -- what is held makes no plan missing, and helps no test that is too large
  pub too_large : planning (booked_job 4 2 6 (8 ∷ 7 ∷ [])) 7 (0 ∷ 1 ∷ []) 2 ≡ refused 7 1
  -- "With no tests left, only the end step remains"
  pub none_planned : plan_answer (booked_job 4 2 6 []) 15 [] (set_lists [] (7 ∷ [])) ≡ done (loads 0 15)
  pub none_lent : plan_lists (booked_job 4 2 6 []) 15 [] (set_lists [] (7 ∷ [])) ≡ set_lists [] (7 ∷ [])
  pub none_checked : checking (booked_job 4 2 6 []) 15 [] (plan_of [] [] 15) ≡ done 0
  pub none_end_without_held : checking (booked_job 4 2 6 []) 15 [] (plan_of [] [] 0) ≡ refused 12 0
  pub none_written : write_plan (booked_job 4 2 6 []) 15 [] (plan_of [] [] 15) 3 ≡ done (0x01 ∷ 0x01 ∷ 0x0f ∷ [])
  -- "14, a held curve that the job doesn't have, with the lowest such curve": of 4 curves, 4 and 5 are held; 5 alone; the last; 64 curves have all
  pub two_unknown : planning (booked_job 2 0 4 (1 ∷ [])) 51 (0 ∷ []) 1 ≡ refused 14 4
  pub one_unknown : planning (booked_job 2 0 4 (1 ∷ [])) 47 (0 ∷ []) 1 ≡ refused 14 5
  pub own_held : planning (booked_job 2 0 4 (1 ∷ [])) 8 (0 ∷ []) 1 ≡ done (sets 0 1 ∷ [])
  pub last_unknown : planning (booked_job 2 0 63 (1 ∷ [])) 0x8000000000000000 (0 ∷ []) 1 ≡ refused 14 63
  pub last_own : held_known 64 0x8000000000000000 ≡ done tt
  -- "after 13", and before 8, 7, 9 and 12
  pub places_first : planning (booked_job 0 0 4 (1 ∷ [])) 16 (0 ∷ []) 1 ≡ refused 10 0
  pub wants_first : planning (booked_job 2 0 4 (16 ∷ [])) 16 (0 ∷ []) 1 ≡ refused 10 4
  pub booked_range_first : planning (booked_job 2 64 4 (1 ∷ [])) 16 (0 ∷ []) 1 ≡ refused 10 260
  pub booked_first : planning (booked_job 2 2 4 (1 ∷ [])) 16 (0 ∷ []) 1 ≡ refused 13 0
  pub before_order : planning (booked_job 2 0 4 (1 ∷ [])) 16 (1 ∷ []) 1 ≡ refused 14 4
  pub before_sizes : planning (booked_job 2 0 4 (7 ∷ [])) 16 (0 ∷ []) 1 ≡ refused 14 4
  pub before_short : planning (booked_job 2 0 4 (1 ∷ [])) 16 (0 ∷ []) 0 ≡ refused 14 4
  pub before_lengths : checking (booked_job 2 0 4 (1 ∷ [])) 16 (0 ∷ []) (plan_of [] (1 ∷ []) 17) ≡ refused 14 4
  pub check_before_order : checking (booked_job 2 0 4 (1 ∷ [])) 16 [] (plan_of (0 ∷ []) (1 ∷ []) 17) ≡ refused 14 4
  pub before_writing : write_plan (booked_job 2 0 4 (1 ∷ [])) 16 (0 ∷ []) (plan_of (0 ∷ []) (1 ∷ []) 17) 0 ≡ refused 14 4
  pub none_unknown : planning (booked_job 2 0 4 []) 16 [] 0 ≡ refused 14 4
