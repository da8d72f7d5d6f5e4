-- DEMAND 3, the statement, with the end sets of 02, wish 1, the booked places of wish 5: "The plans compared for fewest loads all fit the reduced figure, and
-- a job in demand 3 has fewer booked than places" (`checking` and `IsJob`), and the holdings of wish 6: "Plans from an empty drive are the case of nothing
-- held; in demand 3 a holding names only curves of its job" (`IsHolding`).
use Rattle.std.specs.Prelude.{◌≡◌, ◌↔◌, List, ℕ, ◌+◌, ◌≤◌, ◌<◌, length, get_or}
use Rattle.bitset.specs.Set.{size}
use Rattle.job.specs.Refusal.{Outcome, done, refused}
use Rattle.job.specs.Words.{Job, capacity, IsJob, IsHolding, IsOrder}
use Rattle.drive.specs.Steps.{curve_count}
use Rattle.planning.specs.declared.CountEnd.{CountEnd}
use Rattle.planning.specs.Plan.{Plan, handed, SetLists, first, entries}
use Rattle.planning.specs.Planning.{our_plan, checking}

-- Of what planning answered, and of what the drops and loads lent to it hold afterwards, for one job, one holding and one order.
-- "Our plan is what planning leaves in the first entries of the drops and loads lent to it, one for each test. It is missing if planning answers a refusal."
-- Wish 1: "a plan in demand 3 has it too": our plan's end set is the one that planning answered.
pub record Demand3 (j : Job) (held : ℕ) (order : List ℕ) (answer : Outcome CountEnd) (lists : SetLists) : Type 0 where
  -- the plan that was given is the one of "Our plan" from that holding, with what it leaves in the drive as its end set
  pub ours : (a : CountEnd) → answer ≡ done a → first (length j.wants) lists a.end ≡ handed held (our_plan j held order)
  -- it passes the plan check from that holding
  pub passes : (a : CountEnd) → answer ≡ done a → checking j held order (first (length j.wants) lists a.end) ≡ done a.count
  -- the load count answered is the number of curves in all its load sets together
  pub counted : (a : CountEnd) → answer ≡ done a → a.count ≡ curve_count (first (length j.wants) lists a.end).loads
  -- "Among plans from that same holding, none loads fewer": no plan for the same job, holding and order that the same check passes, whatever its sets, has
  -- fewer loads. Wish 1: "compares plans that end empty" (the check passes only plans whose end set is what is held at the end)
  pub least : (a : CountEnd) → answer ≡ done a → (other : Plan) (m : ℕ) → checking j held order other ≡ done m → a.count ≤ curve_count other.loads
  -- "held at the start plus loads equals drops": in every plan that the check passes, ours among them, the holding and the loads together have as many curves
  -- as the drops and the end set
  pub balanced : (other : Plan) (m : ℕ) → checking j held order other ≡ done m
      → size held + curve_count other.loads ≡ curve_count other.drops + size other.end
  -- for every job, every holding of its curves and every order of it, with lists long enough, a plan is missing exactly where some test wants more curves than
  -- there are places less booked; what is held makes none missing
  pub missing : IsJob j → IsHolding j held → IsOrder (length j.wants) order → length j.wants ≤ entries lists
      → ((number : ℕ) × (figure : ℕ) × (answer ≡ refused number figure)) ↔
      ((t : ℕ) × (t < length j.wants) × (capacity j.rig < size (get_or j.wants t 0)))
