-- WISH 9, the statement.
use Rattle.std.specs.Prelude.{◌≡◌, ◌↔◌, ◌⊎◌, List, ℕ, ◌-◌, ◌≤◌, ◌<◌, length, get_or}
use Rattle.bitset.specs.Set.{size}
use Rattle.lists.specs.Choice.{nobody, found}
use Rattle.job.specs.Refusal.{done}
use Rattle.job.specs.Words.{Job, job_of}
use Rattle.drive.specs.Steps.{together}
use Rattle.every_size.specs.Sizes.{mark, fewest_places}
use Rattle.planning.specs.declared.CountEnd.{CountEnd}
use Rattle.planning.specs.Plan.{SetLists, entries}
use Rattle.planning.specs.Planning.{plan_answer}

-- the list for a drive with so many places, "none booked"
abbrev pub in_drive : ℕ → ℕ → List ℕ → Job
in_drive places curves wants = job_of (record { places = places; booked = 0; curves = curves }) wants

-- the entry for so many places
abbrev pub entry_for : List ℕ → ℕ → ℕ
entry_for counts places = get_or counts (places - 1) 0

-- of the counts that were given for one list and one order of its tests; the list may be empty
pub record EverySize (curves : ℕ) (wants order counts : List ℕ) : Type 0 where
  -- "the load counts for 1 to 64 places"
  pub sizes : length counts ≡ 64
  -- "Each other entry equals the single plan's count": the count that planning answers for a drive with so many places, from an empty drive, whatever lists are
  -- lent to it
  pub single : (p : ℕ) → 1 ≤ p → p ≤ 64 → (lent : SetLists) (a : CountEnd) → plan_answer (in_drive p curves wants) 0 order lent ≡ done a
      → entry_for counts p ≡ a.count
  -- and there is one: for every size that is not marked planning answers a plan, where the lists lent have an entry for each test
  pub planned : (p : ℕ) → 1 ≤ p → p ≤ 64 → (entry_for counts p ≡ mark → ⊥) → (lent : SetLists) → length wants ≤ entries lent
      → (a : CountEnd) × (plan_answer (in_drive p curves wants) 0 order lent ≡ done a) × (a.count ≡ entry_for counts p)
  -- "A size too small for some test has the mark 65535", and no other size has it ..
  pub marked : (p : ℕ) → 1 ≤ p → p ≤ 64 → entry_for counts p ≡ mark ↔ ((t : ℕ) × (t < length wants) × (p < size (get_or wants t 0)))
  -- .. ", which no count reaches"
  pub unreached : (p : ℕ) → 1 ≤ p → p ≤ 64 → (lent : SetLists) (a : CountEnd) → plan_answer (in_drive p curves wants) 0 order lent ≡ done a → a.count < mark
  -- "more places never mean more loads"; a marked size has the greatest entry
  pub falling : (p q : ℕ) → 1 ≤ p → p ≤ q → q ≤ 64 → entry_for counts q ≤ entry_for counts p
  -- every size needs at least a load for each different curve that the list wants, and 64 places need no more
  pub at_least : (p : ℕ) → 1 ≤ p → p ≤ 64 → size (together wants) ≤ entry_for counts p
  pub reached : entry_for counts 64 ≡ size (together wants)
  -- "for a wanted count, give the fewest places that need no more loads, a marked size never serving": it serves ..
  pub serving : (loads p : ℕ) → fewest_places loads counts ≡ found p → (1 ≤ p) × (p ≤ 64) × (entry_for counts p ≤ loads) × (entry_for counts p ≡ mark → ⊥)
  -- .. and no smaller size does
  pub fewest : (loads p : ℕ) → fewest_places loads counts ≡ found p → (q : ℕ) → 1 ≤ q → q < p → (loads < entry_for counts q) ⊎ (entry_for counts q ≡ mark)
  -- "or none; none comes exactly when the list wants more different curves than that count"
  pub none : (loads : ℕ) → fewest_places loads counts ≡ nobody ↔ loads < size (together wants)
