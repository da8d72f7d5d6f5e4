-- Planning without its examinations: of wants, a holding and an order that were examined before. Words that no promise to a caller of the library cites.
use Rattle.std.specs.Prelude.{List, ℕ, length}
use Rattle.job.specs.Refusal.{Outcome, done, ◌>>=◌, ◌>>◌, mapped, room}
use Rattle.job.specs.Handed.{tests_known}
use Rattle.drive.specs.declared.Sets.{Sets}
use Rattle.drive.specs.Plan.{furthest, plan_from}
use Rattle.planning.specs.declared.CountEnd.{CountEnd}
use Rattle.planning.specs.Plan.{handed, SetLists, entries, leaves_plan, count_end, in_order}

module _ (capacity : ℕ) (wants : List ℕ) (held : ℕ) (order : List ℕ) (lent : SetLists) where
  -- 10 and 9, of the lists alone
  unfoldable pub plan_tests : Outcome (List Sets)
  plan_tests = do
    tests_known (length order)
    _ ← room (entries lent) (length order)
    done (plan_from (furthest 64) capacity held (in_order wants order))

  -- what it answers
  unfoldable pub tests_answer : Outcome CountEnd
  tests_answer = mapped (count_end held) plan_tests

  -- what the lent drops and loads hold afterwards
  unfoldable pub tests_lists : SetLists
  tests_lists = leaves_plan (handed held) plan_tests lent
