-- Examples of 02, wish 7, looks and commits, by computation on the written rules.
use Rattle.std.specs.Prelude.{◌≡◌, List, [], ◌∷◌, ℕ}
use Rattle.job.specs.Refusal.{done, refused}
use Rattle.job.specs.Words.{Job}
use Rattle.planning.specs.Planning.{our_plan}
use Rattle.planning.specs.Plan.{handed}
use Rattle.stepping.specs.declared.State.{State}
use Rattle.stepping.specs.declared.NextStep.TheVariants.{Step, End, Done}
use Rattle.stepping.specs.Stepping.{look, commit, after_commit, making, tests_made, state_made}
use Rattle.stepping.specs.InTurn.{shown, in_turn, tried}
use Rattle.examples.specs.Starred.{a_wants}
use Rattle.examples.specs.Others.{sets}
use Rattle.examples.specs.Booked.{booked_job}
use Rattle.examples.specs.Halfway.{order_4, order_3, rest}

-- the state that is made of a list, what is held, and an order
abbrev pub made : Job → ℕ → List ℕ → State
made j held order = state_made (making j held order)

-- of job A, from an empty drive
abbrev pub a : State
a = made (booked_job 2 0 4 a_wants) 0 order_4

-- a state of which only the first wants are not 0
abbrev pub state : (capacity held committed tests : ℕ) → List ℕ → State
state capacity held committed tests wants = record { capacity = capacity; held = held; committed = committed; tests = tests; wants = wants }

-- the examples
pub record Looks : Type 0 where
  -- job A, from the first look to done
  pub a_made : tests_made (making (booked_job 2 0 4 a_wants) 0 order_4) ≡ done 4
  pub a_look_0 : look a ≡ Step (sets 0 3)
  pub a_commit_0 : commit a 0 ≡ done (Step (sets 0 3))
  pub a_look_1 : look (in_turn a 1) ≡ Step (sets 1 4)
  pub a_commit_1 : commit (in_turn a 1) 1 ≡ done (Step (sets 1 4))
  pub a_look_2 : look (in_turn a 2) ≡ Step (sets 4 1)
  pub a_commit_2 : commit (in_turn a 2) 2 ≡ done (Step (sets 4 1))
  pub a_look_3 : look (in_turn a 3) ≡ Step (sets 2 8)
  pub a_commit_3 : commit (in_turn a 3) 3 ≡ done (Step (sets 2 8))
  -- the end step, at position 4; then all is done
  pub a_look_4 : look (in_turn a 4) ≡ End 9
  pub a_commit_4 : commit (in_turn a 4) 4 ≡ done (End 9)
  pub a_done : look (in_turn a 5) ≡ Done
  pub a_empty : (in_turn a 5).held ≡ 0
  pub a_shown : shown (handed 0 (our_plan (booked_job 2 0 4 a_wants) 0 order_4))
      ≡ Step (sets 0 3) ∷ Step (sets 1 4) ∷ Step (sets 4 1) ∷ Step (sets 2 8) ∷ End 9 ∷ []
  -- "15, a commit whose position is not the next one, or after done, with the number of steps committed"
  pub a_too_late : commit a 1 ≡ refused 15 0
  pub a_again : commit (in_turn a 2) 1 ≡ refused 15 2
  pub a_end_early : commit (in_turn a 3) 4 ≡ refused 15 3
  pub a_behind_end : commit (in_turn a 4) 5 ≡ refused 15 4
  pub a_after_done : commit (in_turn a 5) 5 ≡ refused 15 5
  pub a_after_done_end : commit (in_turn a 5) 4 ≡ refused 15 5
  pub a_after_done_first : commit (in_turn a 5) 0 ≡ refused 15 5
  -- it "leaves the state unchanged": right and wrong positions, of which 0 and 1 are carried out
  pub a_unchanged : after_commit a 1 ≡ a
  pub a_tried : tried a (1 ∷ 0 ∷ 0 ∷ 4 ∷ 1 ∷ 3 ∷ []) ≡ in_turn a 2
  -- without tests: done at once, or the end step alone, at position 0
  pub none_done : look (made (booked_job 4 2 6 []) 0 []) ≡ Done
  pub none_refused : commit (made (booked_job 4 2 6 []) 0 []) 0 ≡ refused 15 0
  pub none_held : look (made (booked_job 4 2 6 []) 15 []) ≡ End 15
  pub none_committed : commit (made (booked_job 4 2 6 []) 15 []) 0 ≡ done (End 15)
  pub none_then_done : look (in_turn (made (booked_job 4 2 6 []) 15 []) 1) ≡ Done
  pub none_after_done : commit (in_turn (made (booked_job 4 2 6 []) 15 []) 1) 0 ≡ refused 15 1
  -- a step without drops and loads is committed all the same; nothing is held behind it, so there is no end step
  pub no_sets : look (made (booked_job 2 0 4 (0 ∷ [])) 0 (0 ∷ [])) ≡ Step (sets 0 0)
  pub no_sets_committed : commit (made (booked_job 2 0 4 (0 ∷ [])) 0 (0 ∷ [])) 0 ≡ done (Step (sets 0 0))
  pub no_sets_done : look (in_turn (made (booked_job 2 0 4 (0 ∷ [])) 0 (0 ∷ [])) 1) ≡ Done
  pub no_sets_no_end : commit (in_turn (made (booked_job 2 0 4 (0 ∷ [])) 0 (0 ∷ [])) 1) 1 ≡ refused 15 1
  -- a rest from halfway, with two of four places booked and four curves held: as it is planned in `Halfway`
  pub rest_0 : look (made rest 15 order_3) ≡ Step (sets 6 0)
  pub rest_1 : look (in_turn (made rest 15 order_3) 1) ≡ Step (sets 8 16)
  pub rest_2 : look (in_turn (made rest 15 order_3) 2) ≡ Step (sets 1 8)
  pub rest_end : look (in_turn (made rest 15 order_3) 3) ≡ End 24
  -- the order gives the steps' tests
  pub reversed : look (made (booked_job 2 0 4 a_wants) 0 (3 ∷ 2 ∷ 1 ∷ 0 ∷ [])) ≡ Step (sets 0 8)
  -- "refused as in planning", and in its order
  pub places : making (booked_job 0 0 65 (1 ∷ [])) 0 (0 ∷ []) ≡ refused 10 0
  pub curves : making (booked_job 2 0 65 (1 ∷ [])) 0 (0 ∷ []) ≡ refused 10 1
  pub foreign : making (booked_job 2 64 4 (1 ∷ 16 ∷ [])) 0 (0 ∷ 1 ∷ []) ≡ refused 10 5
  pub booked_range : making (booked_job 2 64 4 (1 ∷ [])) 0 (0 ∷ []) ≡ refused 10 260
  pub all_booked : making (booked_job 2 2 4 (1 ∷ [])) 16 (0 ∷ []) ≡ refused 13 0
  pub unknown_held : making (booked_job 2 0 4 (1 ∷ [])) 16 (1 ∷ []) ≡ refused 14 4
  pub order_short : making (booked_job 2 0 4 (7 ∷ 1 ∷ [])) 0 (0 ∷ []) ≡ refused 8 1
  pub too_large : making (booked_job 2 0 4 (1 ∷ 7 ∷ [])) 0 (0 ∷ 1 ∷ []) ≡ refused 7 1
  pub not_made : look (made (booked_job 2 0 4 (1 ∷ 7 ∷ [])) 0 (0 ∷ 1 ∷ [])) ≡ Done
  -- states that were not made: behind the end step all is done, whatever is held; a number of tests beyond the entries counts as many as there are; a test that
  -- is too large drops all that it does not want
  pub beyond : look (state 2 3 2 1 (1 ∷ [])) ≡ Done
  pub beyond_committed : commit (state 2 3 2 1 (1 ∷ [])) 2 ≡ refused 15 2
  pub few_entries : look (state 2 3 1 9 (1 ∷ [])) ≡ End 3
  pub no_capacity : look (state 0 3 0 1 (5 ∷ [])) ≡ Step (sets 2 4)
