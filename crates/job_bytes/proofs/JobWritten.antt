-- Writing a job, step by step: the bytes of a field, a head and the records, and what the rule comes to.
use mathlib.Core.Path.{◌≡◌, refl, sym, ap, ◌∙◌}
use mathlib.Core.List.{List, [], ◌∷◌, ◌++◌, append_assoc, zip_with, flatten}
use Prim.Native.Nat.{ℕ, zero, suc, ◌+◌, ◌*◌, ◌/◌, ◌≤◌, ◌<◌}
use native.Mathlib.Omega.{arith}
use native.Mathlib.Numerals.{add-one}
use lib.Pow.{pow_mono}
use lib.ListN.{length, get_or, drop, length-append, length-drop, drop_of_length-le}
use lib.Seq.{sets, sets-eq, drop-cons}
use borrow.Author.Tests.{eq-eqb, ne_eqb, le-leb, lt-leb}
use Rattle.job.specs.Refusal.{Outcome, done, refused, ◌>>◌, mapped, demand, room, overwritten, leaves}
use Rattle.job.specs.Handed.{job_known_by}
use Rattle.job_bytes.specs.declared.fields.Field.{Field}
use Rattle.job_bytes.specs.SetBytes.{set_bytes}
use Rattle.job_bytes.specs.JobBytes.{Request, request, fields, values_of, number_bytes, head_bytes, record_bytes, job_bytes, write_job, write_job_answer}
use Rattle.job_bytes.specs.JobBytes.{write_job_buffer}
use Rattle.job.specs.Words.{Job}
use Rattle.job_bytes.proofs.HeadRoundTrip.{fields_map, fields_bytes, head_bytes_lem, map_lt}
use Rattle.job_bytes.proofs.Heads.{rows}
use Rattle.job_bytes.proofs.Encoding.{set_le, sets_append}

-- ---- the head: what the fields from the j-th on come to, of which f is the first
pub number_length : (w v : ℕ) → length (number_bytes w v) ≡ w
unfolding number_bytes
number_length zero v = refl
number_length (suc w) v = ap suc (number_length w (v / 256))

abbrev pub map_from : List ℕ → ℕ → ℕ
map_from vs j = fields_map (drop j fields) (drop j vs)

abbrev pub bytes_from : List ℕ → ℕ → List ℕ
bytes_from vs j = fields_bytes (drop j fields) (drop j vs)

module _ (vs : List ℕ) (j : ℕ) (f : Field) (row : drop j fields ≡ f ∷ drop (j + 1) fields) (more : j < length vs) where
  pub absent_map : get_or vs j 0 ≡ f.absent → map_from vs j ≡ 2 * map_from vs (j + 1)
  unfolding fields_map zip_with
  absent_map e = rw (row, drop-cons vs j 0 more, add-one j, eq-eqb (get_or vs j 0) f.absent e) (omega arith)

  pub absent_bytes : get_or vs j 0 ≡ f.absent → bytes_from vs j ≡ bytes_from vs (j + 1)
  unfolding fields_bytes zip_with flatten
  absent_bytes e = rw (row, drop-cons vs j 0 more, add-one j, eq-eqb (get_or vs j 0) f.absent e) refl

  module _ (stands : get_or vs j 0 ≡ f.absent → ⊥) where
    pub stands_map : map_from vs j ≡ 1 + 2 * map_from vs (j + 1)
    unfolding fields_map zip_with
    stands_map = rw (row, drop-cons vs j 0 more, add-one j, ne_eqb (get_or vs j 0) f.absent stands) refl

    pub stands_bytes : bytes_from vs j ≡ number_bytes f.width (get_or vs j 0) ++ bytes_from vs (j + 1)
    unfolding fields_bytes zip_with flatten
    stands_bytes = rw (row, drop-cons vs j 0 more, add-one j, ne_eqb (get_or vs j 0) f.absent stands) refl

    pub stands_long : length (bytes_from vs j) ≡ f.width + length (bytes_from vs (j + 1))
    stands_long =
        ap length stands_bytes ∙ length-append (number_bytes f.width (get_or vs j 0)) (bytes_from vs (j + 1)) ∙ rw (number_length f.width (get_or vs j 0)) refl

pub map_small : (vs : List ℕ) (j : ℕ) → map_from vs j < 128
map_small vs j = omega (arith, map_lt (drop j fields) (drop j vs), pow_mono less)
  where
    less : length (drop j fields) ≤ 7
    less = omega (arith, length-drop j fields, rows)

pub none : (vs : List ℕ) (j : ℕ) → length fields ≤ j → (map_from vs j ≡ 0) × (bytes_from vs j ≡ [])
unfolding fields_map fields_bytes zip_with flatten
none vs j h = let e : drop j fields ≡ [] = drop_of_length-le fields h in (rw e refl, rw e refl)

pub head_length : (vs : List ℕ) → length (head_bytes vs) ≡ 1 + length (bytes_from vs 0)
head_length vs = omega (arith, ap length (head_bytes_lem vs))

-- ---- the records
module _ (ws : List ℕ) (t : ℕ) where
  pub records_more : t < length ws → record_bytes (drop t ws) ≡ set_bytes (get_or ws t 0) ++ record_bytes (drop (t + 1) ws)
  unfolding record_bytes
  records_more h = rw (drop-cons ws t 0 h, add-one t) refl

  pub records_none : length ws ≤ t → record_bytes (drop t ws) ≡ []
  unfolding record_bytes
  records_none h = rw (drop_of_length-le ws h) refl

  pub records_long : t < length ws → length (record_bytes (drop t ws)) ≡ length (set_bytes (get_or ws t 0)) + length (record_bytes (drop (t + 1) ws))
  records_long h = ap length (records_more h) ∙ length-append (set_bytes (get_or ws t 0)) (record_bytes (drop (t + 1) ws))

pub records_le : (ws : List ℕ) → length (record_bytes ws) ≤ 9 * length ws
unfolding record_bytes
records_le [] = omega arith
records_le (w ∷ ws) = omega (arith, records_le ws, set_le w, length-append (set_bytes w) (record_bytes ws))

-- ---- the answer, and what the lent buffer holds
module _ (method : ℕ) (j : Job) (old : List ℕ) where
  abbrev pub Wrote : Outcome ℕ → List ℕ → Type 0
  Wrote o new = (o ≡ write_job_answer method j old) × (new ≡ write_job_buffer method j old)

  abbrev bytes : List ℕ
  bytes = job_bytes (request method j)

  pub job_unknown : (k f : ℕ) → job_known_by method j ≡ refused k f → Wrote (refused k f) old
  unfolding write_job_answer write_job_buffer write_job ◌>>◌ mapped leaves
  job_unknown k f e = (rw e refl, rw e refl)

  module _ (known : job_known_by method j ≡ done tt) where
    pub job_large : length old < length bytes → Wrote (refused 9 (length bytes)) old
    unfolding write_job_answer write_job_buffer write_job room demand ◌>>◌ mapped leaves
    job_large h = (rw (known, lt-leb (length bytes) (length old) h) refl, rw (known, lt-leb (length bytes) (length old) h) refl)

    pub job_wrote : length bytes ≤ length old → Wrote (done (length bytes)) (sets old 0 bytes)
    unfolding write_job_answer write_job_buffer write_job room demand ◌>>◌ mapped leaves overwritten
    job_wrote h =
        let z : 0 + length bytes ≡ length bytes = omega arith in
        (rw (known, le-leb (length bytes) (length old) h) refl, rw (known, le-leb (length bytes) (length old) h) (rw z at (sets-eq bytes old 0 (omega arith))))

-- head and records, stored one after the other, and a zero byte behind them
pub job_sets : (q : Request) (out l₁ l₂ : List ℕ) (n : ℕ) → n ≡ length (head_bytes (values_of q.head))
    → l₁ ≡ sets out 0 (head_bytes (values_of q.head)) → l₂ ≡ sets l₁ n (record_bytes q.wants ++ (0 ∷ [])) → l₂ ≡ sets out 0 (job_bytes q ++ (0 ∷ []))
unfolding job_bytes
job_sets q out l₁ l₂ n e f g =
    let hb = head_bytes (values_of q.head) in
    let rb = record_bytes q.wants in
    let z : n ≡ 0 + length hb = omega arith in
    g ∙ rw (f, z, append_assoc hb rb (0 ∷ [])) (sym (sets_append hb out (rb ++ (0 ∷ [])) 0))

pub job_length : (q : Request) → length (job_bytes q) ≡ length (head_bytes (values_of q.head)) + length (record_bytes q.wants)
unfolding job_bytes
job_length q = length-append (head_bytes (values_of q.head)) (record_bytes q.wants)
