-- Text that is put into a buffer. Only the contracts of private functions cite these; no promise to a caller does.
use Rattle.std.specs.Borrow.{MutBor}
use Rattle.std.specs.Prelude.{◌≡◌, List, [], ℕ, ◌+◌, ◌^◌, ◌≤◌, ◌<◌, length}
use Rattle.std.proofs.lemmas.List.Edits.{sets}
use Rattle.job.specs.declared.Head.{Head}
use Rattle.job.specs.Refusal.{Outcome, mapped, fitting, leaves, overwritten}
use Rattle.planning.specs.Plan.{plan_of}
use Rattle.planned.specs.Planned.{Planned}
use Rattle.report.specs.declared.Text.{Text}

-- a text was put into a buffer: the count of its bytes is answered, and the buffer begins with it where there is room
pub record Wrote (old text new : List ℕ) (count : ℕ) : Type 0 where
  pub counted : count ≡ length text
  pub written : length text ≤ length old → new ≡ overwritten text old

-- a text was put behind what was there, in the same buffer: while a word holds the count of bytes, it is right, and the text stands there where there is room
pub record Appended (old : Text) (text : List ℕ) (new : Text) : Type 0 where
  pub same_reference : new.out.ghost_name ≡ old.out.ghost_name
  pub counted : old.len + length text < 2 ^ 64 → new.len ≡ old.len + length text
  pub written : old.len + length text < 2 ^ 64 → old.len + length text ≤ length old.out.now → new.out.now ≡ sets old.out.now old.len text

-- whatever a call of a closure does, it appends the text
abbrev pub Puts : (MutBor Text → Unit {0} → MutBor Text → Type 0) → List ℕ → Type 0
Puts call text = (before after : MutBor Text) → call before tt after → Appended before.now text after.now

-- a plan of which the sheet is printed: it shows no wants
abbrev pub shown : Head → List ℕ → List ℕ → List ℕ → ℕ → Planned
shown head order drops loads end = record { request = record { head = head; wants = [] }; order = order; plan = plan_of drops loads end }

-- a lent buffer is filled with a text: the count of its bytes is answered and the buffer holds them, or 9 where it is too short
pub record Filled (text old : List ℕ) (answer : Outcome ℕ) (new : List ℕ) : Type 0 where
  pub answers : answer ≡ mapped length (fitting text (length old))
  pub holds : new ≡ leaves (fitting text (length old)) old
