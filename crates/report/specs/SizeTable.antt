-- The table of drive sizes: 02, wish 9, "Purchasing compares drives." For the list of a job, in the order of its method, it shows the loads that a drive of
-- each size needs, and for a wanted count the fewest places.
use Rattle.std.specs.Prelude.{Option, Some, None, Bool, true, false, ◌&&◌, List, [], ◌∷◌, ◌++◌, ℕ, suc, ◌+◌, ◌*◌, ◌-◌, eqb, leb, length, get_or}
use Rattle.lists.specs.Choice.{Found, nobody, found}
use Rattle.job.specs.Refusal.{Outcome, done, refused, ◌>>=◌, mapped, fitting, leaves}
use Rattle.job_bytes.specs.JobBytes.{Request, read_bytes}
use Rattle.every_size.specs.Sizes.{mark, fewest_places}
use Rattle.planned.specs.Planned.{order_request}
use Rattle.sizing.specs.Sizing.{sizing}
use Rattle.report.specs.declared.sizes.JobSizes.{JobSizes}
use Rattle.report.specs.Report.{text, decimal, printed}

-- ---- what is shown

-- `JobSizes`, a job's head and the load counts for 1 to 64 places, is declared in the code.

-- the counts of a list in the order of its job's method; that order is asked for as by the sheet, so 7 is of the job's own places less booked
unfoldable pub size_request : Request → Outcome JobSizes
size_request q = do
  order ← order_request q
  counts ← sizing q.head.rig.curves q.wants order
  done (record { head = q.head; counts = counts })

-- of a job's bytes
unfoldable pub size_job : List ℕ → Outcome JobSizes
size_job bs = do
  q ← read_bytes bs
  size_request q

-- ---- the text

-- the entry of a size: "5 loads", or "too few" where it is the mark
unfoldable pub entry_text : Bool → ℕ → List ℕ
entry_text true entry = text "too few"
entry_text false entry = decimal entry ++ text " loads"

-- its line: "2 places: 5 loads"
unfoldable pub size_text : ℕ → ℕ → List ℕ
size_text places entry = decimal places ++ text " places: " ++ entry_text (eqb entry mark) entry ++ text "\n"

-- the lines behind one, unless it is the last
unfoldable pub unless_last : Bool → List ℕ → List ℕ
unless_last true lines = []
unless_last false lines = lines

-- a line for each size, of entries of which the first is that of so many places; the last line is that of the first entry that is the least
unfoldable pub sizes_text : ℕ → ℕ → List ℕ → List ℕ
sizes_text least places [] = []
sizes_text least places (entry ∷ entries) = size_text places entry ++ unless_last (eqb entry least) (sizes_text least (suc places) entries)

-- "the fewest places .., or none"
unfoldable pub places_text : Found ℕ → List ℕ
places_text nobody = text "none"
places_text (found places) = decimal places ++ text " places"

-- for a wanted count, where one is asked for: "at most 5 loads: 2 places"
unfoldable pub wanted_text : Found ℕ → List ℕ → List ℕ
wanted_text nobody counts = []
wanted_text (found loads) counts = text "at most " ++ decimal loads ++ text " loads: " ++ places_text (fewest_places loads counts) ++ text "\n"

-- the table: where more places stop paying, it ends
unfoldable pub table_text : Found ℕ → JobSizes → List ℕ
table_text wanted s =
    decimal s.head.tests ++ text " tests, method " ++ decimal s.head.method ++ text "\n" ++ sizes_text (get_or s.counts 63 0) 1 s.counts
    ++ text "more places: no fewer loads\n" ++ wanted_text wanted s.counts

-- a refusal prints as on the sheet
unfoldable pub sized_text : Found ℕ → Outcome JobSizes → List ℕ
sized_text wanted (done s) = table_text wanted s
sized_text wanted (refused number figure) = printed (refused number figure)

-- what the program prints for the bytes on its standard input
unfoldable pub size_table : List ℕ → Found ℕ → List ℕ
size_table bs wanted = sized_text wanted (size_job bs)

-- the same text in a lent buffer: 9 where it is too short
unfoldable pub write_table : List ℕ → Found ℕ → ℕ → Outcome (List ℕ)
write_table bs wanted lent = fitting (size_table bs wanted) lent

-- what writing answers: the count of bytes
unfoldable pub table_answer : List ℕ → Found ℕ → List ℕ → Outcome ℕ
table_answer bs wanted old = mapped length (write_table bs wanted (length old))

-- what the lent buffer holds afterwards
unfoldable pub table_buffer : List ℕ → Found ℕ → List ℕ → List ℕ
table_buffer bs wanted old = leaves (write_table bs wanted (length old)) old

-- ---- the wanted count

-- the count that is asked for, or that none is
unfoldable pub wanted_found : Option ℕ → Found ℕ
wanted_found (Some loads) = found loads
wanted_found None = nobody

-- whether a byte is a decimal digit
unfoldable pub is_digit : ℕ → Bool
is_digit b = leb 48 b && leb b 57

-- the number of some digits behind those of n, or none where a byte is no digit
unfoldable pub digit_by : Bool → Found ℕ → Found ℕ
digit_by true n = n
digit_by false n = nobody

unfoldable pub number_in : ℕ → List ℕ → Found ℕ
number_in n [] = found n
number_in n (b ∷ bs) = digit_by (is_digit b) (number_in (10 * n + (b - 48)) bs)

-- a word that the program is handed, as a count: one to five decimal digits, and nothing else
unfoldable pub count_in : List ℕ → Found ℕ
count_in bs = digit_by (leb 1 (length bs) && leb (length bs) 5) (number_in 0 bs)
