-- What a call comes to, in the numbers of document 01: "When the rig says no".
-- A call ends in a value, or in a refusal with its number and its figure.
use Rattle.std.specs.Prelude.{Bool, true, false, List, ℕ, leb, length, Result, Ok, Err}
unfoldable pub use Rattle.lists.specs.Lent.{overwritten}
use Rattle.job.specs.declared.Refusal.{Refusal}
use Rattle.job.specs.declared.Refusal.TheVariants.{Truncated, BadHeader, EmptyGroup, UnknownCurve, TrailingBytes, TestTooLarge, BadOrder}
use Rattle.job.specs.declared.Refusal.TheVariants.{BufferTooSmall, BadArgument, BadPlanBytes, PlanRejected, TooManyBooked, UnknownHeld, NotNext}

pub data Outcome (A : Type 0) : Type 0 where
  done : A → Outcome A
  refused : (number figure : ℕ) → Outcome A

-- ---- the table: "returned"

-- the refusal's number; 02, wish 3: "Refusal 5 is withdrawn and its number not used again" ..
abbrev pub number : Refusal → ℕ
number (Truncated i) = 1
number (BadHeader i) = 2
number (EmptyGroup i) = 3
number (UnknownCurve i) = 4
number (TrailingBytes i) = 6
number (TestTooLarge i) = 7
number (BadOrder i) = 8
number (BufferTooSmall i) = 9
number (BadArgument i) = 10
number (BadPlanBytes i) = 11
number (PlanRejected i) = 12
number (TooManyBooked i) = 13
number (UnknownHeld i) = 14
number (NotNext i) = 15

-- .. and its figure
abbrev pub figure : Refusal → ℕ
figure (Truncated i) = i
figure (BadHeader i) = i
figure (EmptyGroup i) = i
figure (UnknownCurve i) = i
figure (TrailingBytes i) = i
figure (TestTooLarge i) = i
figure (BadOrder i) = i
figure (BufferTooSmall i) = i
figure (BadArgument i) = i
figure (BadPlanBytes i) = i
figure (PlanRejected i) = i
figure (TooManyBooked i) = i
figure (UnknownHeld i) = i
figure (NotNext i) = i

-- ---- "Any answer that is an enum has a definition that gives this paper's number and values for each of the enum's cases."

-- of every function that answers a value or a refusal
unfoldable pub outcome : {A : Type 0} → Result A Refusal → Outcome A
outcome (Ok a) = done a
outcome (Err r) = refused (number r) (figure r)

-- ---- "Sequence": what comes later is asked only where nothing before it refused

module _ {A B : Type 0} where
  -- the value is handed on ..
  unfoldable pub ◌>>=◌ : Outcome A → (A → Outcome B) → Outcome B
  ◌>>=◌ (done a) f = f a
  ◌>>=◌ (refused k i) f = refused k i

  -- .. or has served its purpose
  unfoldable pub ◌>>◌ : Outcome A → Outcome B → Outcome B
  ◌>>◌ (done a) b = b
  ◌>>◌ (refused k i) b = refused k i

  -- a value computed from an outcome's value
  unfoldable pub mapped : (A → B) → Outcome A → Outcome B
  mapped f (done a) = done (f a)
  mapped f (refused k i) = refused k i

-- "Each refusal has exactly the condition shown": a refusal where the test fails
unfoldable pub demand : Bool → ℕ → ℕ → Outcome (Unit {0})
demand true k i = done tt
demand false k i = refused k i

-- 9: "a lent list or buffer can't take the result", with the entries needed
unfoldable pub room : ℕ → ℕ → Outcome (Unit {0})
room lent needed = demand (leb needed lent) 9 needed

-- bytes that are written to a lent buffer of so many
abbrev pub fitting : List ℕ → ℕ → Outcome (List ℕ)
fitting bytes lent = do
  room lent (length bytes)
  done bytes

-- ---- "Nothing lent changes under a refusal; on success entries beyond the result keep their contents."

-- what a lent list holds afterwards, of which the call makes the outcome
unfoldable pub leaves : Outcome (List ℕ) → List ℕ → List ℕ
leaves (done new) old = overwritten new old
leaves (refused k i) old = old
