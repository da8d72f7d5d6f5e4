-- "Handed lists and counts: .. 10 in its own order", 13, 14, and 7: numbers that are handed over directly are examined the same way as bytes.
use Rattle.std.specs.Prelude.{Bool, false, not, ◌&&◌, ◌||◌, List, [], ◌∷◌, ℕ, suc, length, leb, ltb, eqb}
use Rattle.std.specs.Int.Count.{count_trailing_zeros}
use Rattle.bitset.specs.Set.{◌∖◌, size, inside, below}
use Rattle.job.specs.declared.Rig.{Rig}
use Rattle.job.specs.Refusal.{Outcome, done, ◌>>◌, demand}
use Rattle.job.specs.Words.{Job}

-- whether x is one of low..high
unfoldable pub between : ℕ → ℕ → ℕ → Bool
between low high x = leb low x && leb x high

-- the curves of a job with n of them: "numbered from 0"
abbrev pub all_curves : ℕ → ℕ
all_curves n = below n

-- whether t is one of the list
unfoldable pub listed : List ℕ → ℕ → Bool
listed [] t = false
listed (s ∷ ss) t = eqb s t || listed ss t

-- every entry passes the test, or refusal k with the place of the first that fails; the entries' places begin at i
unfoldable pub each : (ℕ → Bool) → ℕ → ℕ → List ℕ → Outcome (Unit {0})
each ok k i [] = done tt
each ok k i (x ∷ xs) = do
  demand (ok x) k i
  each ok k (suc i) xs

-- 10: "0 places, 1 curves, 2 more than 256 tests, 3 method, 4 + t: wants of test t name a foreign curve", with the bounds "Places in the drive 1 to 64.
-- Curves 1 to 64"
unfoldable pub places_known : ℕ → Outcome (Unit {0})
places_known places = demand (between 1 64 places) 10 0

-- "1 curves"
unfoldable pub curves_known : ℕ → Outcome (Unit {0})
curves_known curves = demand (between 1 64 curves) 10 1

-- "2 more than 256 tests"
unfoldable pub tests_known : ℕ → Outcome (Unit {0})
tests_known tests = demand (leb tests 256) 10 2

-- the methods are 0 to 3, but for 2: 02, wish 8, "Method 2 goes."
unfoldable pub is_method : ℕ → Bool
is_method method = not (eqb method 2) && leb method 3

-- "3 method"; wish 8: "A handed method 2 gets refusal 10 at place 3"
unfoldable pub method_known : ℕ → Outcome (Unit {0})
method_known method = demand (is_method method) 10 3

-- "4 + t: wants of test t name a foreign curve"
unfoldable pub wants_known : ℕ → List ℕ → Outcome (Unit {0})
wants_known curves wants = each (λ w. inside w (all_curves curves)) 10 4 wants

-- 02, wish 5: "13, booked not below places"; its figure is "the byte's offset ..
unfoldable pub booked_below : Rig → ℕ → Outcome (Unit {0})
booked_below rig figure = demand (ltb rig.booked rig.places) 13 figure

-- .. or 0 for handed numbers after 10; a handed count above 63 is 10 with place 259 + 1 = 260": behind the last place that wants can have, 4 + 255
unfoldable pub booked_known : Rig → Outcome (Unit {0})
booked_known rig = do
  demand (leb rig.booked 63) 10 260
  booked_below rig 0

-- 02, wish 6: "14, a held curve that the job doesn't have, with the lowest such curve"; "its lowest curve [is] its count of trailing zeros", of 64 bits
unfoldable pub held_known : ℕ → ℕ → Outcome (Unit {0})
held_known curves held = demand (inside held (all_curves curves)) 14 (count_trailing_zeros 64 (held ∖ all_curves curves))

-- 7: "a test wants more curves than places", with the lowest such test; `most` is what the drive can hold
unfoldable pub wants_fit : ℕ → List ℕ → Outcome (Unit {0})
wants_fit most wants = each (λ w. leb (size w) most) 7 0 wants

-- "10 in its own order": as far as the number of tests
unfoldable pub numbers_known : Rig → ℕ → Outcome (Unit {0})
numbers_known rig tests = do
  places_known rig.places
  curves_known rig.curves
  tests_known tests

-- of a job and a method, as ordering and writing a job are handed them; the booked places are asked last
unfoldable pub job_known_by : ℕ → Job → Outcome (Unit {0})
job_known_by method j = do
  numbers_known j.rig (length j.wants)
  method_known method
  wants_known j.rig.curves j.wants
  booked_known j.rig

-- of a job alone: what is refused of a job is refused whatever the known method, so 0 stands for it
abbrev pub job_known : Job → Outcome (Unit {0})
job_known j = job_known_by 0 j

-- of curves and a number of tests, as reading and fetching from plan bytes are handed them; no tests are in range (02, wish 3)
unfoldable pub counts_known : ℕ → ℕ → Outcome (Unit {0})
counts_known curves tests = do
  curves_known curves
  tests_known tests
