-- A text that was measured by a first pass, and is then refused or written.
use mathlib.Core.Path.{◌≡◌, refl, sym, ap, ◌∙◌}
use mathlib.Core.List.{List}
use Prim.Native.Nat.{ℕ, ◌≤◌, ◌<◌}
use native.Mathlib.Omega.{arith}
use lib.ListN.{length, take, drop, length-append}
use lib.Seq.{length-take-le}
use Rattle.std.specs.Prelude.{Result, Ok, Err, IsOk}
use Rattle.job.specs.declared.Refusal.{Refusal}
use Rattle.job.specs.Refusal.{Outcome, done, outcome, mapped, overwritten, leaves}
use Rattle.job.proofs.Laws.{fitting_short, fitting_whole, done_same, refused≢done, done_mapped}
use Rattle.report.specs.ContractWords.{Wrote, Filled}

module _ (text old : List ℕ) where
  module _ {dummy measured : List ℕ} {n : ℕ} (first : Wrote dummy text measured n) where
    pub fill_short : length old < n → Filled text old (outcome (Err (Refusal.BufferTooSmall n))) old
    unfolding outcome mapped leaves
    fill_short h =
        let e : n ≡ length text = omega (arith, first.counted) in
        let f = fitting_short text (length old) (omega arith) in
        record { answers = rw (f, e) refl; holds = rw f refl }

    pub fill_whole : {new : List ℕ} {m : ℕ} → n ≤ length old → Wrote old text new m → Filled text old (outcome (Ok m)) new
    unfolding outcome mapped leaves
    fill_whole {new} {m} h second =
        let l : length text ≤ length old = omega (arith, first.counted) in
        let e : m ≡ length text = omega (arith, second.counted) in
        let f = fitting_whole text (length old) l in
        record { answers = rw (f, e) refl; holds = second.written l ∙ rw f refl }

-- a text for which there is always room: its length is answered, and the buffer begins with it
module _ {text : List ℕ} {o : Outcome (List ℕ)} (fits : o ≡ done text) (r : Result ℕ Refusal) (answer : outcome r ≡ mapped length o) where
  answered : outcome r ≡ done (length text)
  answered = answer ∙ sym (done_mapped length o text fits)

  pub never_refused : IsOk r
  unfolding outcome
  never_refused = go r answered
    where
      go : (r : Result ℕ Refusal) → outcome r ≡ done (length text) → IsOk r
      go (Ok n) e = refl
      go (Err x) e = absurd (refused≢done e)

  pub whole_text : (old : List ℕ) {new : List ℕ} {n : ℕ} → r ≡ Ok n → new ≡ leaves o old
      → record { count : n ≡ length text; bytes : new ≡ overwritten text old }
  unfolding outcome leaves
  whole_text old e f = record { count = done_same (sym (ap outcome e) ∙ answered); bytes = f ∙ rw fits refl }

-- .. so as many bytes of the buffer can be lent
pub whole_lent : (text old new : List ℕ) (n : ℕ) → n ≡ length text → new ≡ overwritten text old → (n ≤ length new) × (n ≡ length (take n new))
unfolding overwritten
whole_lent text old new n e f =
    let l : n ≤ length new = omega (arith, ap length f, length-append text (drop (length text) old)) in
    (l, sym (length-take-le n new l))
