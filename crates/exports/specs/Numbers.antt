-- How the functions for C answer: outcomes as numbers.
use Rattle.std.specs.Prelude.{List, ℕ, zero, suc, ◌+◌, ◌*◌, ◌%◌, ◌^◌, min, drop}
use Rattle.lists.specs.Choice.{Found, nobody, found}
use Rattle.job.specs.declared.Head.{Head}
use Rattle.job.specs.declared.Rig.{Rig}
use Rattle.job.specs.Refusal.{Outcome, done, refused, mapped}
use Rattle.job.specs.Words.{Job, job_of}
use Rattle.job_bytes.specs.SetBytes.{read_group}
use Rattle.planning.specs.declared.CountEnd.{CountEnd}
use Rattle.exports.specs.declared.JobHead.{JobHead}

-- the rig of numbers that are handed over one by one ..
abbrev pub rig_of : ℕ → ℕ → ℕ → Rig
rig_of places booked curves = record { places = places; booked = booked; curves = curves }

-- .. and their job
abbrev pub job : ℕ → ℕ → ℕ → List ℕ → Job
job places booked curves wants = job_of (rig_of places booked curves) wants

-- an outcome as one number: a count is itself, a refusal its number × 2^48 plus its figure (modulo 2^48, which none of `curveplan.h` reaches: `Told`).
-- Document 01's own rule, × 65,536, is that of the one call (`curveplan`, `number_of`); a sheet can have more bytes than that.
unfoldable pub numbered : Outcome ℕ → ℕ
numbered (done n) = n
numbered (refused number figure) = number * 2 ^ 48 + figure % 2 ^ 48

-- 0 where nothing is refused, else the refusal
abbrev pub passing : {A : Type 0} → Outcome A → ℕ
passing o = numbered (mapped (λ _. 0) o)

-- of a count and an end set that were answered, the count ..
abbrev pub count_of : Outcome CountEnd → Outcome ℕ
count_of o = mapped (λ a. a.count) o

-- .. and the end set
abbrev pub end_of : Outcome CountEnd → Outcome ℕ
end_of o = mapped (λ a. a.end) o

-- a job's head, answered with its number of tests; under a refusal its five numbers are 0
unfoldable pub head_of : Outcome Head → JobHead
head_of (done h) =
    record {
      answer = numbered (done h.tests);
      places = h.rig.places;
      booked = h.rig.booked;
      curves = h.rig.curves;
      tests = h.tests;
      method = h.method;
    }
head_of (refused k i) = record { answer = numbered (refused k i); places = 0; booked = 0; curves = 0; tests = 0; method = 0 }

-- one group byte of a set, at an offset of some bytes: 1 where it is owed, 2 where it is zero, 3 where it names a curve that the job lacks
unfoldable pub group_at : List ℕ → ℕ → ℕ → ℕ → Outcome ℕ
group_at bs at group curves = mapped (λ g. g.value) (read_group 1 2 3 (min curves 64) 1 group 0 (drop at bs))

-- what a lent number holds afterwards: "Nothing lent changes under a refusal"
unfoldable pub leaves_one : Outcome ℕ → ℕ → ℕ
leaves_one (done new) old = new
leaves_one (refused k i) old = old

-- 02, wish 9: what the lent counts are when all sizes were asked for; they are as many as the sizes
unfoldable pub leaves_counts : Outcome (List ℕ) → List ℕ → List ℕ
leaves_counts (done new) old = new
leaves_counts (refused k i) old = old

-- the fewest places, "or none", for which 0 stands
unfoldable pub places_number : Found ℕ → ℕ
places_number nobody = 0
places_number (found places) = places

-- what is asked of a table of drive sizes: 0 for no wanted count
unfoldable pub asks : ℕ → ℕ → Found ℕ
asks zero loads = nobody
asks (suc n) loads = found loads
