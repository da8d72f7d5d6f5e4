-- "The sheet program prints test count, places and method; for each step its position, test, drops and loads in rising order; the load count."
-- With the end step of 02, wish 1.
use Rattle.std.specs.Prelude.{List, [], ◌∷◌, ◌++◌, ℕ, zero, suc, ◌+◌, ◌/◌, ◌%◌, length}
use Prim.Native.Char.{code}
use Prim.Native.String.{String}
use Rattle.bitset.specs.Set.{bit}
use Rattle.job.specs.Refusal.{Outcome, done, refused, mapped, fitting, leaves}
use Rattle.job.specs.Words.{capacity}
use Rattle.drive.specs.Steps.{curve_count}
use Rattle.planning.specs.Plan.{Step, steps}
use Rattle.planned.specs.Planned.{Planned, plan_job}

-- the bytes of a text
unfoldable pub text : String → List ℕ
text String.[] = []
text (String.◌∷◌ c s) = code c ∷ text s

-- "all other figures decimal": n in decimal digits, its last digit behind those of n / 10, of which there are at most h (`Decimal`: n are enough)
unfoldable pub high_digits : ℕ → ℕ → List ℕ
high_digits zero n = []
high_digits (suc h) zero = []
high_digits (suc h) (suc n) = high_digits h (suc n / 10) ++ ((48 + suc n % 10) ∷ [])

-- a number in decimal digits, without leading zeros
unfoldable pub decimal : ℕ → List ℕ
decimal n = high_digits n (n / 10) ++ ((48 + n % 10) ∷ [])

-- curve c, behind a space, where its bit is 1
unfoldable pub curve_text : ℕ → ℕ → List ℕ
curve_text zero c = []
curve_text (suc d) c = text " " ++ decimal c

-- "in rising order": of k curves from curve c on, those of the set s
unfoldable pub curves_text : ℕ → ℕ → ℕ → List ℕ
curves_text zero c s = []
curves_text (suc k) c s = curve_text (bit c s) c ++ curves_text k (suc c) s

-- a set of at most 64 curves
unfoldable pub set_text : ℕ → List ℕ
set_text zero = text " none"
set_text (suc s) = curves_text 64 0 (suc s)

-- the line of step i: "1: test 1 drop 0 load 2"
unfoldable pub step_text : ℕ → Step → List ℕ
step_text i s = decimal i ++ text ": test " ++ decimal s.test ++ text " drop" ++ set_text s.drops ++ text " load" ++ set_text s.loads ++ text "\n"

-- a line for each step, from position i on
unfoldable pub steps_text : ℕ → List Step → List ℕ
steps_text i [] = []
steps_text i (s ∷ ss) = step_text i s ++ steps_text (suc i) ss

-- wish 1: the end step, behind n tests, "prints as `4: end drop 1 3`". "If nothing is held, there is no end step."
unfoldable pub end_text : ℕ → ℕ → List ℕ
end_text n zero = []
end_text n (suc s) = decimal n ++ text ": end drop" ++ set_text (suc s) ++ text "\n"

-- the first line: "4 tests, 2 places, method 0", where 02, wish 5, shows the places less booked
unfoldable pub head_text : Planned → List ℕ
head_text p =
    let h = p.request.head in
    decimal h.tests ++ text " tests, " ++ decimal (capacity h.rig) ++ text " places, method " ++ decimal h.method ++ text "\n"

-- the sheet of a planned job: its head, a line for each step, the load count
unfoldable pub plan_text : Planned → List ℕ
plan_text p =
    head_text p ++ steps_text 0 (steps p.order p.plan.drops p.plan.loads) ++ end_text p.request.head.tests p.plan.end ++ text "loads "
    ++ decimal (curve_count p.plan.loads) ++ text "\n"

-- "A refusal prints only `refused 7 at 0` with its own figures."
unfoldable pub printed : Outcome Planned → List ℕ
printed (done p) = plan_text p
printed (refused number figure) = text "refused " ++ decimal number ++ text " at " ++ decimal figure ++ text "\n"

-- what the program prints for the bytes on its standard input
unfoldable pub sheet : List ℕ → List ℕ
sheet bs = printed (plan_job bs)

-- the same text in a lent buffer: 9 where it is too short
unfoldable pub write_sheet : List ℕ → ℕ → Outcome (List ℕ)
write_sheet bs lent = fitting (sheet bs) lent

-- what writing answers: the count of bytes
unfoldable pub sheet_answer : List ℕ → List ℕ → Outcome ℕ
sheet_answer bs old = mapped length (write_sheet bs (length old))

-- what the lent buffer holds afterwards
unfoldable pub sheet_buffer : List ℕ → List ℕ → List ℕ
sheet_buffer bs old = leaves (write_sheet bs (length old)) old
