-- "Job bytes": the first byte is a bit map; then only the fields whose bit stands, in bit order; then one record for each test.
use Rattle.std.specs.Prelude.{cond, not, ◌&&◌, ℕ, zero, suc, ◌+◌, ◌-◌, ◌*◌, ◌/◌, ◌%◌, ◌^◌, length, get_or, ltb, eqb}
use mathlib.Core.List.{List, [], ◌∷◌, ◌++◌, foldr, zip_with, flatten}
use Rattle.job.specs.declared.Head.{Head}
use Rattle.job.specs.Refusal.{Outcome, done, refused, ◌>>=◌, ◌>>◌, mapped, demand, room, fitting, leaves}
use Rattle.job.specs.Words.{Job, job_of}
use Rattle.job.specs.Handed.{between, booked_below, job_known_by}
use Rattle.job_bytes.specs.declared.fields.Field.{Field}
use Rattle.job_bytes.specs.SetBytes.{set_bytes, Got, got, byte_at, read_groups}

-- what job bytes hold: the numbers of the head, and the wants of each test
pub record Request : Type 0 where
  pub head : Head
  pub wants : List ℕ

-- the job in it, and the request for the job to be ordered by a method
abbrev pub job_in : Request → Job
job_in q = job_of q.head.rig q.wants

-- a job and a method, as they stand in job bytes
abbrev pub request : ℕ → Job → Request
request method j = record { head = record { rig = j.rig; tests = length j.wants; method = method }; wants = j.wants }

-- a field of the head: its bytes, its range, and its value when absent
abbrev field : (width low high absent : ℕ) → Field
field w l h a = record { width = w; low = l; high = h; absent = a }

-- "0 | places, 1 byte | 1..64 | 8", "1 | curves, 1 byte | 1..64 | 64", "2 | tests, 2 bytes | 1..256 | 0", "3 | method, 1 byte | 1..3 | 0"; 02, wish 5: "Head bit
-- 4 is a byte of booked places, 1..63, absent 0"
unfoldable pub fields : List Field
fields = field 1 1 64 8 ∷ field 1 1 64 64 ∷ field 2 1 256 0 ∷ field 1 1 3 0 ∷ field 1 1 63 0 ∷ []

-- ---- read

-- "Two-byte numbers have the low byte first": a number of w bytes
unfoldable pub read_number : ℕ → ℕ → List ℕ → Outcome (Got ℕ)
read_number zero i bs = done (got 0 i bs)
read_number (suc w) i bs = do
  b ← byte_at 1 i bs
  r ← read_number w b.next b.rest
  done (got (b.value + 256 * r.value) r.next r.rest)

-- a field, if its bit d stands: "cut before value"; "A field never holds its absent value"
unfoldable pub read_field : Field → ℕ → ℕ → List ℕ → Outcome (Got ℕ)
read_field f zero i bs = done (got f.absent i bs)
read_field f (suc d) i bs = do
  v ← read_number f.width i bs
  demand (between f.low f.high v.value && not (eqb v.value f.absent)) 2 i
  done v

-- "only the fields whose bit stands, in bit order": the fields that have the bits of the map, lowest first, behind those that gave the values vs
unfoldable pub read_fields : List Field → ℕ → List ℕ → ℕ → List ℕ → Outcome (Got (List ℕ))
read_fields [] map vs i bs = done (got vs i bs)
read_fields (f ∷ fs) map vs i bs = do
  v ← read_field f (map % 2) i bs
  read_fields fs (map / 2) (vs ++ (v.value ∷ [])) v.next v.rest

-- 02, wish 8: "Old job files with method 2 still read, as method 1": the method that the value of its field stands for
unfoldable pub method_read : ℕ → ℕ
method_read v = cond (eqb v 2) 1 v

-- the head of its fields' values, in bit order
abbrev pub head_of : List ℕ → Head
head_of vs = record { rig = record { places = get_or vs 0 0; booked = get_or vs 4 0; curves = get_or vs 1 0 }; tests = get_or vs 2 0; method = method_read (get_or vs 3 0) }

-- .. and the values with which a head is written
abbrev pub values_of : Head → List ℕ
values_of h = h.rig.places ∷ h.rig.curves ∷ h.tests ∷ h.method ∷ h.rig.booked ∷ []

-- "The first byte is a bit map"; those bits are zero that are of no field: 5 to 7
unfoldable pub head_fields : List ℕ → Outcome (Got Head)
head_fields bs = do
  map ← byte_at 1 0 bs
  demand (ltb map.value (2 ^ length fields)) 2 0
  r ← read_fields fields map.value [] map.next map.rest
  done (got (head_of r.value) r.next r.rest)

-- wish 5: "13, booked not below places, with the byte's offset after its range check": it is the last byte of the head. (Where it is absent none are booked,
-- and there is at least one place.)
unfoldable pub read_head : List ℕ → Outcome (Got Head)
read_head bs = do
  h ← head_fields bs
  booked_below h.value.rig (h.next - 1)
  done h

-- "a group map, ..; No group byte is zero.": 1 where a byte is owed, 3 for a zero byte, 4 for a curve that the job lacks
unfoldable pub read_record : ℕ → ℕ → List ℕ → Outcome (Got ℕ)
read_record curves i bs = do
  map ← byte_at 1 i bs
  read_groups 1 3 4 curves 8 0 map.value 0 map.next map.rest

-- "Each record is read from the rest of the bytes, starting where the last one ended": k records, behind those that gave the wants
unfoldable pub read_records : ℕ → ℕ → List ℕ → ℕ → List ℕ → Outcome (Got (List ℕ))
read_records curves zero wants i bs = done (got wants i bs)
read_records curves (suc k) wants i bs = do
  r ← read_record curves i bs
  read_records curves k (wants ++ (r.value ∷ [])) r.next r.rest

-- "bytes behind the last record"
unfoldable pub at_end : ℕ → ℕ → List ℕ → Outcome (Unit {0})
at_end k i [] = done tt
at_end k i (b ∷ bs) = refused k i

-- "Job bytes: head map, each field, .. records in byte order, 6", with 13 behind the fields; 02, wish 3: "A job with no tests now reads"
unfoldable pub read_bytes : List ℕ → Outcome Request
read_bytes bs = do
  h ← read_head bs
  r ← read_records h.value.rig.curves h.value.tests [] h.next h.rest
  at_end 6 r.next r.rest
  done (record { head = h.value; wants = r.value })

-- "then 9"
unfoldable pub read_job : List ℕ → ℕ → Outcome Request
read_job bs lent = do
  j ← read_bytes bs
  room lent j.head.tests
  done j

-- what reading answers, and what the lent list of wants holds afterwards
unfoldable pub read_job_answer : List ℕ → List ℕ → Outcome Head
read_job_answer bs old = mapped (λ j. j.head) (read_job bs (length old))

-- what the lent wants hold afterwards
unfoldable pub read_job_wants : List ℕ → List ℕ → List ℕ
read_job_wants bs old = leaves (mapped (λ j. j.wants) (read_job bs (length old))) old

-- ---- written

-- so many bytes of a number: "Two-byte numbers have the low byte first"
unfoldable pub number_bytes : ℕ → ℕ → List ℕ
number_bytes zero v = []
number_bytes (suc w) v = v % 256 ∷ number_bytes w (v / 256)

-- of the fields' values: a field's bit and its bytes stand unless it holds its absent value
unfoldable pub head_bytes : List ℕ → List ℕ
head_bytes vs =
    foldr (λ b map. b + 2 * map) 0 (zip_with (λ f v. cond (eqb v f.absent) 0 1) fields vs)
    ∷ flatten (zip_with (λ f v. cond (eqb v f.absent) [] (number_bytes f.width v)) fields vs)

-- one record for each test
unfoldable pub record_bytes : List ℕ → List ℕ
record_bytes [] = []
record_bytes (w ∷ ws) = set_bytes w ++ record_bytes ws

-- the head's bytes, then the records
unfoldable pub job_bytes : Request → List ℕ
job_bytes q = head_bytes (values_of q.head) ++ record_bytes q.wants

-- "writing a job 9", after 10 and 13
unfoldable pub write_job : ℕ → Job → ℕ → Outcome (List ℕ)
write_job method j lent = do
  job_known_by method j
  fitting (job_bytes (request method j)) lent

-- what writing answers: the count of bytes
unfoldable pub write_job_answer : ℕ → Job → List ℕ → Outcome ℕ
write_job_answer method j old = mapped length (write_job method j (length old))

-- what the lent buffer holds afterwards
unfoldable pub write_job_buffer : ℕ → Job → List ℕ → List ℕ
write_job_buffer method j old = leaves (write_job method j (length old)) old
