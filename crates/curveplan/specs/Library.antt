-- WHAT THE LIBRARY PROMISES, in one place. The contracts of its functions set every answer, and all that is lent, equal to the rules that are spoken of here.
use Rattle.std.specs.Prelude.{◌≡◌, ◌↔◌, ◌⊎◌, true, List, [], ℕ, ◌+◌, ◌*◌, ◌/◌, ◌%◌, ◌^◌, ◌≤◌, ◌<◌, length, get_or, take, drop, replicate}
use Rattle.bitset.specs.Set.{size, below}
use Rattle.job.specs.declared.Refusal.{Refusal}
use Rattle.job.specs.Refusal.{done, refused, ◌>>◌, number}
use Rattle.job.specs.Words.{Job, job_of, capacity, IsJob, IsHolding, IsMethod, IsOrder}
use Rattle.job.specs.Handed.{numbers_known, wants_fit, held_known, job_known_by}
use Rattle.job.specs.Order.{order_known}
use Rattle.job.specs.Calls.{planning_known, sizing_known}
use Rattle.job_bytes.specs.SetBytes.{Bytes}
use Rattle.job_bytes.specs.JobBytes.{Request, job_in, request, read_bytes, write_job}
use Rattle.job_bytes.specs.OldFiles.{old_method, upgraded}
use Rattle.packages.specs.Tests.{wants_of}
use Rattle.ordering.specs.Methods.{degree, order_by}
use Rattle.ordering.specs.Ordering.{ordering}
use Rattle.drive.specs.declared.Sets.{Sets}
use Rattle.drive.specs.Steps.{held_after, curve_count, load_count}
use Rattle.drive.specs.Plan.{furthest, furthest_lowest, plan_from}
use Rattle.planning.specs.declared.CountEnd.{CountEnd}
use Rattle.planning.specs.Plan.{Plan, SetLists, first, in_order}
use Rattle.planning.specs.Planning.{planning, plan_answer, plan_lists, plan_sets, checking}
use Rattle.planning.specs.Demand3.{Demand3}
use Rattle.stepping.specs.declared.State.{State}
use Rattle.stepping.specs.declared.NextStep.{NextStep}
use Rattle.stepping.specs.declared.NextStep.TheVariants.{Done}
use Rattle.stepping.specs.Stepping.{step_wants, look, commit, after_commit, making}
use Rattle.stepping.specs.InTurn.{shown, InTurn}
use Rattle.sizing.specs.Sizing.{sizing}
use Rattle.sizing.specs.EverySize.{in_drive, EverySize}
use Rattle.plan_bytes.specs.PlanBytes.{Contents, tests_of, plan_in, plan_steps, write_plan}
use Rattle.curveplan.specs.Call.{job_to_plan, number_of}

-- the plan bytes that the call wrote for a job's bytes read back to a plan that passes the check from an empty drive, for the order of the job's method, and no
-- plan for that order that passes has fewer loads
pub record WrittenPlan (bs plan : List ℕ) : Type 0 where
  pub request : Request
  pub read : read_bytes bs ≡ done request
  pub contents : Contents
  pub reads_back : plan_steps request.head.rig.curves (length request.wants) plan ≡ done contents
  pub in_order_lem : tests_of contents ≡ order_by request.head.method (capacity request.head.rig) request.wants
  pub count : ℕ
  pub passes : checking (job_in request) 0 (order_by request.head.method (capacity request.head.rig) request.wants) (plan_in contents) ≡ done count
  pub least : (other : Plan) (m : ℕ)
      → checking (job_in request) 0 (order_by request.head.method (capacity request.head.rig) request.wants) other ≡ done m
      → count ≤ curve_count other.loads

-- the same list for a drive that has only the places that are not booked
abbrev pub unbooked : Job → Job
unbooked j = job_of (record { places = capacity j.rig; booked = 0; curves = j.rig.curves }) j.wants

-- what the library promises
pub record Library : Type 0 where
  -- "Each refusal has exactly the condition shown": 10 and 13 are not given exactly for a job and a known method, 14 exactly for a holding of its curves, 8
  -- exactly for an order of its tests
  pub jobs : (method : ℕ) (j : Job) → job_known_by method j ≡ done tt ↔ (IsJob j × IsMethod method)
  pub holdings : (j : Job) (held : ℕ) → held_known j.rig.curves held ≡ done tt ↔ IsHolding j held
  pub orders : (n : ℕ) (order : List ℕ) → order_known n order ≡ done tt ↔ IsOrder n order
  -- each method's order names each test exactly once
  pub complete : (method capacity : ℕ) (wants : List ℕ) → IsOrder (length wants) (order_by method capacity wants)
  -- DEMAND 3, of what planning answers and leaves in the lists lent to it: for every job, whatever is held, every order and all lists
  pub demand_3 : (j : Job) (held : ℕ) (order : List ℕ) (lent : SetLists) → Demand3 j held order (plan_answer j held order lent) (plan_lists j held order lent)
  -- 02, wish 2: "Load counts are proved the same under either tie rule": with ties to the lowest curve, as in 01, our plan would have as many loads, for every
  -- list of sets of n curves, whatever of them is held at first, and every capacity
  pub ties : (n capacity held : ℕ) (ws : List ℕ) → held < 2 ^ n → ((i : ℕ) → i < length ws → get_or ws i 0 < 2 ^ n)
      → load_count (plan_from (furthest_lowest n) capacity held ws) ≡ load_count (plan_from (furthest n) capacity held ws)
  -- 02, wish 3: "Refusal 5 is withdrawn and its number not used again": no refusal that a function can answer has it
  pub withdrawn : (r : Refusal) → number r ≡ 5 → ⊥
  -- 02, wish 4: "The largest is 255 × 64 = 16,320": no test of a list of at most 256 has a greater degree, and the first of 256 that want every curve has it.
  -- A test has one set of 64 curves; this is said for any number of sets, one behind the other in one number, so with two it is 32,640
  pub degree_most : (sets : ℕ) (wants : List ℕ) (t : ℕ) → length wants ≤ 256 → t < length wants → wants_of wants t < 2 ^ (64 * sets)
      → degree wants t ≤ 255 * (64 * sets)
  pub degree_reached : (sets : ℕ) → degree (replicate 256 (below (64 * sets))) 0 ≡ 255 * (64 * sets)
  -- 02, wish 5: "Wherever 01 says places, in methods, plan, check and refusal 7, .. it now means places less booked": with fewer booked than places, of which a
  -- drive has at most 64, all is ordered, planned and checked, and refused, as for a drive that has only the others
  pub booked_ordered : (method : ℕ) (j : Job) → j.rig.booked < j.rig.places → j.rig.places ≤ 64 → (lent : ℕ)
      → ordering method j lent ≡ ordering method (unbooked j) lent
  pub booked_planned : (j : Job) → j.rig.booked < j.rig.places → j.rig.places ≤ 64 → (held : ℕ) (order : List ℕ) (lent : ℕ)
      → planning j held order lent ≡ planning (unbooked j) held order lent
  pub booked_checked : (j : Job) → j.rig.booked < j.rig.places → j.rig.places ≤ 64 → (held : ℕ) (order : List ℕ) (p : Plan)
      → checking j held order p ≡ checking (unbooked j) held order p
  -- 02, wish 6: a list may be stopped behind any of its steps. What a plan that passes the check holds then names only curves of the job, as a holding does ..
  pub rest_held : (j : Job) (held : ℕ) (order : List ℕ) (p : Plan) (m : ℕ) → checking j held order p ≡ done m
      → (k : ℕ) → IsHolding j (held_after held (take k (plan_sets j order p)))
  -- .. and a rest that is not changed, planned "from the curves now held", has the steps that it had: a list of its own, whatever the numbers of its tests,
  -- whose steps want what the steps behind the first k wanted
  pub rest_planned : (j rest : Job) (held k : ℕ) (order later : List ℕ) (lent room : ℕ) (plan again : List Sets) → planning j held order lent ≡ done plan
      → rest.rig ≡ j.rig → in_order rest.wants later ≡ drop k (in_order j.wants order)
      → planning rest (held_after held (take k plan)) later room ≡ done again → again ≡ drop k plan
  -- "without unloading": what is held costs no load, and saves at most one for each of its curves, beside the plan for the same order from an empty drive
  pub held_saves : (j : Job) (held : ℕ) (order : List ℕ) (lent : ℕ) (plan empty : List Sets) → planning j held order lent ≡ done plan
      → planning j 0 order lent ≡ done empty → (load_count plan ≤ load_count empty) × (load_count empty ≤ size held + load_count plan)
  -- 02, wish 7: "From a made state, committing in turn yields exactly the plan's steps, end step included; then a look says done": the steps that planning
  -- leaves in the lists lent to it, and the end set that it answers
  pub in_turn_lem : (j : Job) (held : ℕ) (order : List ℕ) (s : State) → making j held order ≡ done s → (lent : SetLists) (a : CountEnd)
      → plan_answer j held order lent ≡ done a → InTurn s (shown (first (length j.wants) (plan_lists j held order lent) a.end))
  -- "refused as in planning": with lists lent that are long enough, since none is lent for a state
  pub state_refused : (j : Job) (held : ℕ) (order : List ℕ) (lent : ℕ) → length j.wants ≤ lent → (k i : ℕ)
      → making j held order ≡ refused k i ↔ planning j held order lent ≡ refused k i
  -- of every state, made or not. All is done exactly behind the end step, and in its place where nothing is held
  pub all_done : (s : State) → look s ≡ Done ↔ ((length (step_wants s) < s.committed) ⊎ ((s.committed ≡ length (step_wants s)) × (s.held ≡ 0)))
  -- "A commit names a step position, carries it out and answers the same sets as the look"
  pub carried_out : (s : State) (position : ℕ) (l : NextStep) → commit s position ≡ done l ↔ ((position ≡ s.committed) × (look s ≡ l) × (l ≡ Done → ⊥))
  -- "15, a commit whose position is not the next one, or after done, with the number of steps committed; it .. leaves the state unchanged", and no other
  -- refusal
  pub not_next : (s : State) (position k i : ℕ)
      → commit s position ≡ refused k i ↔ ((k ≡ 15) × (i ≡ s.committed) × ((position ≡ s.committed → ⊥) ⊎ (look s ≡ Done)))
  pub state_kept : (s : State) (position k i : ℕ) → commit s position ≡ refused k i → after_commit s position ≡ s
  -- 02, wish 8: "A handed method 2 gets refusal 10 at place 3": given exactly where places, curves and the number of tests are known, and the method is none of
  -- 0, 1 and 3
  pub method_refused : (method : ℕ) (j : Job)
      → job_known_by method j ≡ refused 10 3 ↔ ((numbers_known j.rig (length j.wants) ≡ done tt) × (IsMethod method → ⊥))
  -- "Old job files with method 2 still read, as method 1": whatever the bytes, also such as are refused, those with 1 in the place of a method byte 2 are read,
  -- and answered by the call, the same ..
  pub old_read : (bs : List ℕ) → read_bytes bs ≡ read_bytes (upgraded bs)
  pub old_called : (bs : List ℕ) (lent : ℕ) → job_to_plan bs lent ≡ job_to_plan (upgraded bs) lent
  -- .. and the method that is read of a method byte 2 is 1
  pub old_method_lem : (bs : List ℕ) (q : Request) → Bytes bs → read_bytes bs ≡ done q → old_method bs ≡ true → q.head.method ≡ 1
  -- 02, wish 9: all that it says of the counts for 1 to 64 places, and of the fewest places for a wanted count, beside the answers of planning ..
  pub every_size : (curves : ℕ) (wants order counts : List ℕ) → sizing curves wants order ≡ done counts → EverySize curves wants order counts
  -- .. and "apart from 7, the walk refuses as planning does": for a drive with any number of places planning asks what the walk asks, and then 7
  pub sizes_refused : (p curves : ℕ) (wants order : List ℕ) → 1 ≤ p → p ≤ 64
      → planning_known (in_drive p curves wants) 0 order ≡ ◌>>◌ (sizing_known curves wants order) (wants_fit p wants)
  -- writing and reading undo each other: a job, "written back with 1" where its method byte was 2, and to the byte as it was read elsewhere ..
  pub job_back : (method : ℕ) (j : Job) (lent : ℕ) (bytes : List ℕ) → write_job method j lent ≡ done bytes → read_bytes bytes ≡ done (request method j)
  pub job_read : (bs : List ℕ) (q : Request) → Bytes bs → read_bytes bs ≡ done q → write_job q.head.method (job_in q) (length bs) ≡ done (upgraded bs)
  -- .. and a plan, with its end set
  pub plan_back : (j : Job) (held : ℕ) (order : List ℕ) (p : Plan) (lent : ℕ) (bytes : List ℕ) → write_plan j held order p lent ≡ done bytes
      → (c : Contents) × (plan_steps j.rig.curves (length j.wants) bytes ≡ done c) × (tests_of c ≡ order) × (plan_in c ≡ p)
  pub plan_read_lem : (j : Job) (bs : List ℕ) (c : Contents) → Bytes bs → plan_steps j.rig.curves (length j.wants) bs ≡ done c
      → (held n : ℕ) → checking j held (tests_of c) (plan_in c) ≡ done n → write_plan j held (tests_of c) (plan_in c) (length bs) ≡ done bs
  -- the call: an answer below 65,536 is the count of the bytes written, at most 5,121, which are a plan with the fewest loads for its order ..
  pub call_writes : (bs : List ℕ) → Bytes bs → (lent : ℕ) (plan : List ℕ) → job_to_plan bs lent ≡ done plan
      → (number_of (job_to_plan bs lent) ≡ length plan) × (length plan ≤ 5121) × WrittenPlan bs plan
  -- .. and any other tells the refusal's number and figure
  pub call_refuses : (bs : List ℕ) → Bytes bs → (lent k i : ℕ) → job_to_plan bs lent ≡ refused k i
      → (65536 ≤ number_of (job_to_plan bs lent)) × (number_of (job_to_plan bs lent) / 65536 ≡ k) × (number_of (job_to_plan bs lent) % 65536 ≡ i)
  -- 02, wish 3: "A job with no tests now reads: .. no plan bytes": the call writes no bytes exactly for such a job
  pub call_none : (bs : List ℕ) → Bytes bs → (lent : ℕ) → job_to_plan bs lent ≡ done [] ↔ ((q : Request) × (read_bytes bs ≡ done q) × (q.wants ≡ []))
