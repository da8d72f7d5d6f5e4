-- Reading into a list of at least 256 entries: 9 never comes, and the wants are the first entries.
use mathlib.Core.Path.{◌≡◌, refl, sym, ap, ◌∙◌}
use mathlib.Core.List.{List, [], ◌∷◌}
use Prim.Native.Nat.{ℕ, suc, ◌≤◌}
use native.Mathlib.Omega.{arith}
use lib.ListN.{length, get_or, take}
use Rattle.std.specs.Prelude.{Ok, Err}
use Rattle.std.proofs.Common.{Fits, w8}
use Rattle.job.specs.declared.Head.{Head}
use Rattle.job.specs.declared.Refusal.{Refusal}
use Rattle.job.specs.Refusal.{Outcome, done, refused, ◌>>=◌, ◌>>◌, mapped, room, overwritten, leaves, outcome, number, figure}
use Rattle.job_bytes.specs.JobBytes.{Request, read_bytes, read_job, read_job_answer, read_job_wants}
use Rattle.job.proofs.Laws.{mapped_done, mapped_refused, leaves_done, done_room}
use Rattle.lists.proofs.Overwritten.{front}
use Rattle.job_bytes.proofs.SetRoundTrip.{Bytes}
use Rattle.job_bytes.proofs.ReadExact.{ReadJob, read_exact}

-- the entries of a list lent as bytes are bytes
pub bytes_of : (bs : List ℕ) → ((k : ℕ) → Fits w8 (get_or bs k 0)) → Bytes bs
bytes_of [] h = tt
bytes_of (b ∷ bs) h = (omega (arith, h 0), bytes_of bs (λ k. h (suc k)))

-- a request that was read, with its wants in the first entries
pub record ReadFirst (bs : List ℕ) (h : Head) (W' : List ℕ) : Type 0 where
  pub read : read_bytes bs ≡ done (record { head = h; wants = take h.tests W' })
  pub tests : length (take h.tests W') ≡ h.tests
  pub few : h.tests ≤ 256

module _ (bs W : List ℕ) (all : Bytes bs) (long : 256 ≤ length W) where
  -- with 256 entries lent, reading is the reading of the bytes
  whole : read_job bs (length W) ≡ read_bytes bs
  unfolding read_job ◌>>=◌
  whole = go (read_bytes bs) refl
    where
      go : (o : Outcome Request) → read_bytes bs ≡ o → ◌>>=◌ o (λ q. ◌>>◌ (room (length W) q.head.tests) (done q)) ≡ o
      go (refused k i) e = refl
      go (done q) e =
          let r : ReadJob q = read_exact bs q all e in
          rw (done_room (length W) q.head.tests (omega (arith, r.tests, r.is_job.tests_bound))) (unfold ◌>>◌ in refl)

  pub wants_left : read_job_wants bs W ≡ leaves (mapped (λ q. q.wants) (read_bytes bs)) W
  unfolding read_job_wants
  wants_left = rw whole refl

  answer_refused : (k i : ℕ) → read_job_answer bs W ≡ refused k i → read_bytes bs ≡ refused k i
  unfolding read_job_answer
  answer_refused k i e = sym whole ∙ mapped_refused (λ q. q.head) (read_job bs (length W)) k i e

  answer_done : (h : Head) (W' : List ℕ) → read_job_answer bs W ≡ done h → W' ≡ read_job_wants bs W → ReadFirst bs h W'
  unfolding read_job_answer read_job_wants
  answer_done h W' e w =
      let x = mapped_done (λ q. q.head) (read_job bs (length W)) h e in
      let q = x.0 in
      let f : read_bytes bs ≡ done q = sym whole ∙ x.1 in
      let r : ReadJob q = read_exact bs q all f in
      let v : W' ≡ overwritten q.wants W = w ∙ leaves_done (λ q. q.wants) (read_job bs (length W)) q W x.1 in
      let t : length q.wants ≡ h.tests = r.tests ∙ ap (λ (y : Head). y.tests) x.2 in
      let k : take h.tests W' ≡ q.wants = ap (take h.tests) v ∙ front q.wants W h.tests t in
      record {
        read = f ∙ same x.2 (sym k);
        tests = ap length k ∙ t;
        few = omega (arith, r.is_job.tests_bound);
      }
    where
      same : {q : Request} {h : Head} {ws : List ℕ} → q.head ≡ h → q.wants ≡ ws → ◌≡◌ {A = Outcome Request} (done q) (done (record { head = h; wants = ws }))
      same p q i = done (record { head = p i; wants = q i })

-- of what `read_job` answered and left in the list
module _ (bs W : List ℕ) (all : (k : ℕ) → Fits w8 (get_or bs k 0)) (long : 256 ≤ length W) where
  pub read_refused : (r : Refusal) → outcome (Err r) ≡ read_job_answer bs W → read_bytes bs ≡ refused (number r) (figure r)
  unfolding outcome
  read_refused r e = answer_refused bs W (bytes_of bs all) long _ _ (sym e)

  pub read_first : {h : Head} {W' : List ℕ} → outcome (Ok h) ≡ read_job_answer bs W → W' ≡ read_job_wants bs W → ReadFirst bs h W'
  unfolding outcome
  read_first e w = answer_done bs W (bytes_of bs all) long _ _ (sym e) w
