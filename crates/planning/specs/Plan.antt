-- "Plans": a plan as it is handed over, its steps with their tests, and the wants of the steps. 02 is the document of changes, and "wish" its word for one.
use Rattle.std.specs.Prelude.{List, [], ◌∷◌, ℕ, min, length, get_or, take}
use Rattle.job.specs.Refusal.{Outcome, mapped, leaves}
use Rattle.drive.specs.declared.Sets.{Sets}
use Rattle.planning.specs.declared.CountEnd.{CountEnd}
use Rattle.drive.specs.Steps.{drops_of, loads_of, held_after, load_count}

-- "a plan is a drop set and a load set for each step, the order giving the steps' tests"; and 02, wish 1, of the end step: "Handed over, it is one set beside
-- the drops, 0 for none", "a plan in demand 3 has it too". In the rules the steps are a list of `Sets`; handed over, two lists.
pub record Plan : Type 0 where
  pub drops : List ℕ
  pub loads : List ℕ
  pub end : ℕ

-- the plan of two lists and an end set
abbrev pub plan_of : List ℕ → List ℕ → ℕ → Plan
plan_of drops loads end = record { drops = drops; loads = loads; end = end }

-- steps as a plan that is handed over, from what is held before the first; wish 1: "After the last test the plan now gets an end step that drops all that is
-- held"
abbrev pub handed : ℕ → List Sets → Plan
handed held ss = plan_of (drops_of ss) (loads_of ss) (held_after held ss)

-- the lists of drops and loads that are lent to a call
pub record SetLists : Type 0 where
  pub drops : List ℕ
  pub loads : List ℕ

-- two lists that are lent
abbrev pub set_lists : List ℕ → List ℕ → SetLists
set_lists drops loads = record { drops = drops; loads = loads }

-- the plan in the first n entries of two lists, with an end set
abbrev pub first : ℕ → SetLists → ℕ → Plan
first n l end = plan_of (take n l.drops) (take n l.loads) end

-- for how many steps two lists have room
abbrev pub entries : SetLists → ℕ
entries l = min (length l.drops) (length l.loads)

-- what the lists lent for the drops and loads hold after a call that comes to o, in whose answer there is a plan
abbrev pub leaves_plan : {A : Type 0} → (A → Plan) → Outcome A → SetLists → SetLists
leaves_plan plan o old = set_lists (leaves (mapped (λ a. (plan a).drops) o) old.drops) (leaves (mapped (λ a. (plan a).loads) o) old.loads)

-- the load count and the end set of some steps, from what is held before the first
abbrev pub count_end : ℕ → List Sets → CountEnd
count_end held ss = record { count = load_count ss; end = held_after held ss }

-- "A step names one test, a drop set and a load set."
pub record Step : Type 0 where
  pub test : ℕ
  pub drops : ℕ
  pub loads : ℕ

-- the steps of three lists, as far as each has an entry (what passes the check has one for each test: `CheckExact`)
unfoldable pub steps : List ℕ → List ℕ → List ℕ → List Step
steps [] ds ls = []
steps (t ∷ ts) [] ls = []
steps (t ∷ ts) (d ∷ ds) [] = []
steps (t ∷ ts) (d ∷ ds) (l ∷ ls) = record { test = t; drops = d; loads = l } ∷ steps ts ds ls

-- "the order giving the steps' tests": the wants of each step (an order that passed names only tests of the job: `own_tests`)
unfoldable pub in_order : List ℕ → List ℕ → List ℕ
in_order wants [] = []
in_order wants (t ∷ ts) = get_or wants t 0 ∷ in_order wants ts
