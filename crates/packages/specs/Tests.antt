-- What every order speaks of: the wants of a test, common curves, the tests in list order, and a list to which they are written. A test is named by its
-- number, its place in the list of wants.
use Rattle.std.specs.Prelude.{List, [], ◌∷◌, ◌++◌, ℕ, zero, suc, length, get_or}
use Rattle.bitset.specs.Set.{◌∩◌, size}
use Rattle.job.specs.Refusal.{◌>>◌, mapped, room, leaves}
use Rattle.job.specs.Handed.{tests_known}

-- the wants of test t
abbrev pub wants_of : List ℕ → ℕ → ℕ
wants_of wants t = get_or wants t 0

-- how many curves two sets have in common
abbrev pub common : ℕ → ℕ → ℕ
common a b = size (a ∩ b)

-- 0, 1, .., n - 1
unfoldable pub up_to : ℕ → List ℕ
up_to zero = []
up_to (suc n) = up_to n ++ (n ∷ [])

-- what a list holds afterwards to which numbers are written: tests, or one number for each of them, if they are at most 256 and the list takes them; else
-- nothing new
unfoldable pub entered : List ℕ → List ℕ → List ℕ
entered new old = leaves (mapped (λ _. new) (◌>>◌ (tests_known (length new)) (room (length old) (length new)))) old
