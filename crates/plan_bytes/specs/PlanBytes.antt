-- "Plan bytes, step after step, nothing behind the last: a bit map (0 drops, 1 loads, 2 test; 3 to 7 zero), then those fields."
-- With the end step of 02, wish 1.
use Rattle.std.specs.Prelude.{List, [], ◌∷◌, ◌++◌, map, ℕ, zero, suc, ◌+◌, ◌-◌, ◌*◌, min, length, take, drop, ltb, eqb}
use Rattle.bitset.specs.Set.{bit}
use Rattle.job.specs.Refusal.{Outcome, done, refused, ◌>>=◌, ◌>>◌, mapped, demand, room, fitting, leaves}
use Rattle.lists.specs.Choice.{Found, nobody, found}
use Rattle.job.specs.Words.{Job}
use Rattle.job.specs.Handed.{between, counts_known}
use Rattle.job_bytes.specs.SetBytes.{stands, set_bytes, Got, got, byte_at, read_groups}
use Rattle.job_bytes.specs.JobBytes.{at_end}
use Rattle.planning.specs.declared.CountEnd.{CountEnd}
use Rattle.planning.specs.Plan.{Plan, plan_of, SetLists, entries, leaves_plan, Step, steps}
use Rattle.planning.specs.Planning.{checking}
use Rattle.plan_bytes.specs.declared.StepPart.{StepPart}

-- ---- written

-- "A set is written as a group map and group bytes, neither zero": the empty set has no field
unfoldable pub set_field : ℕ → List ℕ
set_field zero = []
set_field (suc s) = set_bytes (suc s)

-- "Bit 2 always stands." "The test is one byte."
unfoldable pub step_bytes : Step → List ℕ
step_bytes s = (stands s.drops + 2 * stands s.loads + 4) ∷ set_field s.drops ++ set_field s.loads ++ (s.test ∷ [])

-- "step after step, nothing behind the last"
unfoldable pub steps_bytes : List Step → List ℕ
steps_bytes [] = []
steps_bytes (s ∷ ss) = step_bytes s ++ steps_bytes ss

-- wish 1: "an end step that drops all that is held: bits 1 and 2 clear, bit 0 set. If nothing is held, there is no end step. It is the only step without a
-- test"
unfoldable pub end_bytes : ℕ → List ℕ
end_bytes zero = []
end_bytes (suc s) = 1 ∷ set_bytes (suc s)

-- the bytes of a plan in an order of the tests: its steps, and "After the last test" the end step
abbrev pub plan_bytes : List ℕ → Plan → List ℕ
plan_bytes order p = steps_bytes (steps order p.drops p.loads) ++ end_bytes p.end

-- "writing a plan 8, 12, 9", after 10, 13 and 14; from what is held (02, wish 6), of which nothing is written
unfoldable pub write_plan : Job → ℕ → List ℕ → Plan → ℕ → Outcome (List ℕ)
write_plan j held order p lent = do
  _ ← checking j held order p
  fitting (plan_bytes order p) lent

module _ (j : Job) (held : ℕ) (order : List ℕ) (p : Plan) (old : List ℕ) where
  -- what writing answers: the count of bytes
  unfoldable pub write_plan_answer : Outcome ℕ
  write_plan_answer = mapped length (write_plan j held order p (length old))

  -- what the lent buffer holds afterwards
  unfoldable pub write_plan_buffer : List ℕ
  write_plan_buffer = leaves (write_plan j held order p (length old)) old

-- ---- read

-- a step that was read, with the offsets of its first byte and of the byte behind it
pub record Placed : Type 0 where
  pub step : Step
  pub from : ℕ
  pub until : ℕ

-- what plan bytes hold: the steps with a test, the offset behind them, and the end set, 0 for none
pub record Contents : Type 0 where
  pub steps : List Placed
  pub behind : ℕ
  pub end : ℕ

-- the steps' tests
abbrev pub tests_of : Contents → List ℕ
tests_of c = map (λ s. s.step.test) c.steps

-- their sets and the end set, as a plan is handed over
abbrev pub plan_in : Contents → Plan
plan_in c = plan_of (map (λ s. s.step.drops) c.steps) (map (λ s. s.step.loads) c.steps) c.end

-- "11, offset: first malformed or surplus byte; the input length if cut": a job with so many curves and tests
module _ (curves tests : ℕ) where
  -- a set, if its bit d stands
  unfoldable pub read_set : ℕ → ℕ → List ℕ → Outcome (Got ℕ)
  read_set zero i bs = done (got 0 i bs)
  read_set (suc d) i bs = do
    map ← byte_at 11 i bs
    demand (ltb 0 map.value) 11 i
    read_groups 11 11 11 curves 8 0 map.value 0 map.next map.rest

  -- map, drops, loads, test: "A test or curve that the job lacks is malformed; repeats are left to the check."
  unfoldable pub read_step : ℕ → List ℕ → Outcome (Got Placed)
  read_step i bs = do
    map ← byte_at 11 i bs
    demand (between 4 7 map.value) 11 i
    ds ← read_set (bit 0 map.value) map.next map.rest
    ls ← read_set (bit 1 map.value) ds.next ds.rest
    t ← byte_at 11 ls.next ls.rest
    demand (ltb t.value tests) 11 ls.next
    done (got (record { step = record { test = t.value; drops = ds.value; loads = ls.value }; from = i; until = t.next }) t.next t.rest)

  -- k steps behind those that were read
  unfoldable pub read_steps : ℕ → List Placed → ℕ → List ℕ → Outcome (Got (List Placed))
  read_steps zero ss i bs = done (got ss i bs)
  read_steps (suc k) ss i bs = do
    s ← read_step i bs
    read_steps k (ss ++ (s.value ∷ [])) s.next s.rest

  -- behind the last test the end step, if there is one: "bits 1 and 2 clear, bit 0 set", and nothing behind it
  unfoldable pub read_end : ℕ → List ℕ → Outcome ℕ
  read_end i [] = done 0
  read_end i (b ∷ bs) = do
    demand (eqb b 1) 11 i
    s ← read_set 1 (suc i) bs
    at_end 11 s.next s.rest
    done s.value

  -- "There are as many steps as tests.", and then the end step
  unfoldable pub read_plan_bytes : List ℕ → Outcome Contents
  read_plan_bytes bs = do
    r ← read_steps tests [] 0 bs
    end ← read_end r.next r.rest
    done (record { steps = r.value; behind = r.next; end = end })

  -- the bytes that are a plan of the counts handed over, both in range
  unfoldable pub plan_steps : List ℕ → Outcome Contents
  plan_steps bs = do
    counts_known curves tests
    read_plan_bytes bs

  -- "reading a plan 11, 9", after 10: into lists of which the shortest has so many entries
  unfoldable pub read_plan : List ℕ → ℕ → Outcome Contents
  read_plan bs lent = do
    c ← plan_steps bs
    room lent tests
    done c

  module _ (bs order : List ℕ) (lent : SetLists) where
    -- what is read, into lists of these lengths
    abbrev pub plan_read : Outcome Contents
    plan_read = read_plan bs (min (length order) (entries lent))

    -- what reading answers: the number of steps with a test, and the end set
    unfoldable pub read_plan_answer : Outcome CountEnd
    read_plan_answer = mapped (λ c. record { count = length c.steps; end = c.end }) plan_read

    -- what the lent order holds afterwards
    unfoldable pub read_plan_order : List ℕ
    read_plan_order = leaves (mapped tests_of plan_read) order

    -- what the lent drops and loads hold afterwards
    unfoldable pub read_plan_lists : SetLists
    read_plan_lists = leaves_plan plan_in plan_read lent

-- ---- "A step's bytes can be fetched by position"

-- the part of a step with a test
abbrev pub test_part : Placed → StepPart
test_part s = record { start = s.from; count = s.until - s.from }

-- the part of the end step, from behind the last test, at offset i, to the end of the bytes; none where the end set is 0
unfoldable pub end_parts : List ℕ → ℕ → ℕ → List StepPart
end_parts bs i zero = []
end_parts bs i (suc s) = record { start = i; count = length bs - i } ∷ []

-- the parts of all steps in turn, the end step's last
abbrev pub parts_of : List ℕ → Contents → List StepPart
parts_of bs c = map test_part c.steps ++ end_parts bs c.behind c.end

-- the part at a position, if there is one
unfoldable pub part_at : ℕ → List StepPart → Found StepPart
part_at p [] = nobody
part_at zero (q ∷ qs) = found q
part_at (suc p) (q ∷ qs) = part_at p qs

-- the part of the step at position p, of what was read in the plan bytes bs
unfoldable pub fetched : List ℕ → ℕ → Outcome Contents → Found StepPart
fetched bs p (done c) = part_at p (parts_of bs c)
fetched bs p (refused k i) = nobody

-- that part, or "the empty part at their end"
unfoldable pub or_empty : List ℕ → Found StepPart → StepPart
or_empty bs (found q) = q
or_empty bs nobody = record { start = length bs; count = 0 }

-- "the answer is that part of the caller's plan bytes, or the empty part at their end if the plan has no such step, its bytes would get refusal 11, or the
-- handed counts are out of range"
unfoldable pub step_part : ℕ → ℕ → List ℕ → ℕ → StepPart
step_part curves tests bs p = or_empty bs (fetched bs p (plan_steps curves tests bs))

-- the bytes of a part
abbrev pub in_part : List ℕ → StepPart → List ℕ
in_part bs q = take q.count (drop q.start bs)

-- "A step's bytes .. fetched by position": that part of the bytes
abbrev pub step_at : ℕ → ℕ → List ℕ → ℕ → List ℕ
step_at curves tests bs p = in_part bs (step_part curves tests bs p)
