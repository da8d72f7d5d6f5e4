-- Texts that are put one behind the other.
use mathlib.Core.Path.{◌≡◌, refl, sym, ap, ◌∙◌}
use mathlib.Core.List.{List, [], ◌++◌}
use Prim.Native.Nat.{ℕ, ◌+◌, ◌≤◌, ◌<◌, ◌^◌}
use native.Mathlib.Omega.{arith}
use borrow.Rule.Slice.PartMut.{put_mid}
use lib.ListN.{length, length-append}
use Rattle.std.proofs.lemmas.Slice.{put_mid-paste}
use lib.Seq.{sets, sets-eq, length-sets, take-length}
use Rattle.job.specs.Refusal.{overwritten}
use Rattle.job_bytes.proofs.Encoding.{sets_append}
use Rattle.report.specs.declared.Text.{Text}
use Rattle.report.specs.ContractWords.{Appended}

pub appended_nil : (to : Text) → Appended to [] to
appended_nil to = record { same_reference = refl; counted = λ l. omega arith; written = λ l f. refl }

infixl 20 ◌then◌
pub ◌then◌ : {start mid end : Text} {a b : List ℕ} → Appended start a mid → Appended mid b end → Appended start (a ++ b) end
◌then◌ {start} {mid} {end} {a} {b} x y =
    record {
      same_reference = y.same_reference ∙ x.same_reference;
      counted = λ l. omega (arith, length-append a b, x.counted (first l), y.counted (second l));
      written = λ l f.
          let w = x.written (first l) (omega (arith, length-append a b)) in
          let m = ap length w ∙ length-sets start.out.now start.len a in
          y.written (second l) (omega (arith, length-append a b, x.counted (first l), m))
          ∙ rw (x.counted (first l), w) (sym (sets_append a start.out.now b start.len));
    }
  where
    first : start.len + length (a ++ b) < 2 ^ 64 → start.len + length a < 2 ^ 64
    first l = omega (arith, length-append a b)

    second : start.len + length (a ++ b) < 2 ^ 64 → mid.len + length b < 2 ^ 64
    second l = omega (arith, length-append a b, x.counted (first l))

-- from the beginning of a buffer on
pub sets_front : (text old : List ℕ) → length text ≤ length old → sets old 0 text ≡ overwritten text old
unfolding overwritten
sets_front text old l = let z : 0 + length text ≡ length text = omega arith in rw z at (sets-eq text old 0 (omega arith))

-- the part of a buffer into which a text was copied
pub copied : (text old : List ℕ) (at : ℕ) → at + length text ≤ length old → put_mid at (length text) old text ≡ sets old at text
copied text old at l = put_mid-paste at (length text) old text text _ refl refl refl ∙ rw (take-length text) (sym (sets-eq text old at l))

-- what a loop leaves: once the texts that are left stand behind it, the whole text was put
abbrev pub Rest : Text → List ℕ → Text → List ℕ → Type 0
Rest start text to left = (end : Text) → Appended to left end → Appended start text end

pub rest_put : {start mid to : Text} {text a b : List ℕ} → Rest start text mid (a ++ b) → Appended mid a to → Rest start text to b
rest_put r x end y = r end (x then y)

pub rest_none : {start to : Text} {text : List ℕ} → Rest start text to [] → Appended start text to
rest_none {start} {to} r = r to (appended_nil to)
