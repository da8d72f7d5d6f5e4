-- Words that no promise to a caller of the library cites. "Any answer that is an enum has a definition that gives this paper's number and values for each of
-- the enum's cases": the answers of the readers of a set and of a step, in the plan bytes bs.
use Rattle.std.specs.Prelude.{List, ℕ, length, drop, Result, Ok, Err}
use Rattle.job.specs.declared.Refusal.{Refusal}
use Rattle.job.specs.Refusal.{Outcome, done, refused, number, figure, ◌>>◌, mapped, fitting, leaves}
use Rattle.job.specs.Calls.{order_alone_known}
use Rattle.job_bytes.specs.SetBytes.{Got, got}
use Rattle.planning.specs.Plan.{Plan}
use Rattle.planning.specs.Planning.{sets_known}
use Rattle.plan_bytes.specs.declared.SetRead.{SetRead}
use Rattle.plan_bytes.specs.declared.StepRead.{StepRead}
use Rattle.plan_bytes.specs.PlanBytes.{Placed, plan_bytes}

-- what reading a set came to, as an outcome
unfoldable pub set_outcome : List ℕ → Result SetRead Refusal → Outcome (Got ℕ)
set_outcome bs (Ok s) = done (got s.set s.next (drop s.next bs))
set_outcome bs (Err r) = refused (number r) (figure r)

-- a step whose first byte stands at offset `from`
unfoldable pub step_outcome : List ℕ → ℕ → Result StepRead Refusal → Outcome (Got Placed)
step_outcome bs from (Ok s) =
    done (got (record { step = record { test = s.test; drops = s.drops; loads = s.loads }; from = from; until = s.next }) s.next (drop s.next bs))
step_outcome bs from (Err r) = refused (number r) (figure r)

-- the steps of lists that were made here: they are written as they are, without a look at what they do to the drive. 10, 8, 12 and 9 of the lists alone
unfoldable pub write_steps : List ℕ → Plan → ℕ → Outcome (List ℕ)
write_steps order p lent = do
  order_alone_known order
  sets_known (length order) (length p.drops) (length p.loads)
  fitting (plan_bytes order p) lent

module _ (order : List ℕ) (p : Plan) (old : List ℕ) where
  -- what that answers
  unfoldable pub write_steps_answer : Outcome ℕ
  write_steps_answer = mapped length (write_steps order p (length old))

  -- what the lent buffer holds afterwards
  unfoldable pub write_steps_buffer : List ℕ
  write_steps_buffer = leaves (write_steps order p (length old)) old
