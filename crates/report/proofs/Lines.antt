-- The lines of the sheet, grouped as they are put.
use mathlib.Core.Path.{◌≡◌, refl, ap}
use mathlib.Core.List.{List, [], ◌∷◌, ◌++◌, append_assoc}
use Prim.Native.Nat.{ℕ, zero, suc, ◌+◌, ◌*◌, ◌^◌, ◌≤◌, ◌<◌, zero-le}
use native.Mathlib.Nat.{mul-suc}
use native.Mathlib.Numerals.{add-one}
use native.Mathlib.Omega.{arith}
use lib.ListN.{length, get_or, drop, length-append}
use lib.Seq.{drop-cons}
use Rattle.job.specs.Refusal.{refused}
use Rattle.job.specs.declared.Head.{Head}
use Rattle.job.specs.Words.{capacity}
use Rattle.drive.specs.Steps.{curve_count}
use Rattle.planning.specs.Plan.{steps}
use Rattle.report.specs.Report.{text, decimal, set_text, step_text, steps_text, end_text, head_text, plan_text, printed}
use Rattle.report.specs.ContractWords.{shown}
use Rattle.report.proofs.Digits.{decimal_length, decimal_word}
use Rattle.report.proofs.Curves.{set_length}

pub head_line : (h : Head) (order drops loads : List ℕ) (end : ℕ) →
    head_text (shown h order drops loads end)
    ≡ (decimal h.tests ++ text " tests, ") ++ (decimal (capacity h.rig) ++ text " places, method ") ++ (decimal h.method ++ text "\n")
unfolding head_text
head_line h order drops loads end = simp append_assoc

pub step_line : (i t d l : ℕ) →
    step_text i (record { test = t; drops = d; loads = l })
    ≡ (decimal i ++ text ": test ") ++ (decimal t ++ text " drop") ++ set_text d ++ text " load" ++ set_text l ++ text "\n"
unfolding step_text
step_line i t d l = simp append_assoc

pub loads_line : (n : ℕ) → text "loads " ++ decimal n ++ text "\n" ≡ text "loads " ++ (decimal n ++ text "\n")
loads_line n = append_assoc (text "loads ") (decimal n) (text "\n")

-- no line, or the end step's
pub no_end_line : (n s : ℕ) → s ≡ 0 → end_text n s ≡ []
unfolding end_text
no_end_line n s e = rw e refl

pub end_line : (n s : ℕ) → (s ≡ 0 → ⊥) → end_text n s ≡ (decimal n ++ text ": end drop") ++ set_text s ++ text "\n"
unfolding end_text
end_line n zero h = absurd (h refl)
end_line n (suc s) h = simp append_assoc

pub plan_lines : (h : Head) (order drops loads : List ℕ) (end : ℕ) →
    plan_text (shown h order drops loads end)
    ≡ head_text (shown h [] [] [] 0) ++ steps_text 0 (steps order drops loads) ++ end_text h.tests end
    ++ (text "loads " ++ decimal (curve_count loads) ++ text "\n")
unfolding plan_text head_text
plan_lines h order drops loads end = simp append_assoc

pub refusal_line : (k i : ℕ) → printed (refused k i) ≡ text "refused " ++ (decimal k ++ text " at ") ++ (decimal i ++ text "\n")
unfolding printed
refusal_line k i = simp append_assoc

-- ---- the steps from i on

pub steps_next : (i : ℕ) (order drops loads : List ℕ) → i < length order → i < length drops → i < length loads →
    steps_text i (steps (drop i order) (drop i drops) (drop i loads))
    ≡ step_text i (record { test = get_or order i 0; drops = get_or drops i 0; loads = get_or loads i 0 })
    ++ steps_text (i + 1) (steps (drop (i + 1) order) (drop (i + 1) drops) (drop (i + 1) loads))
unfolding steps steps_text
steps_next i order drops loads a b c = rw (drop-cons order i 0 a, drop-cons drops i 0 b, drop-cons loads i 0 c, add-one i) refl

pub steps_end : (i : ℕ) (drops loads : List ℕ) → steps_text i (steps [] drops loads) ≡ []
unfolding steps steps_text
steps_end i drops loads = refl

-- ---- their lengths

pub lengths₃ : (a b c : List ℕ) → length (a ++ b ++ c) ≡ length a + length b + length c
lengths₃ a b c = simp length-append

lengths₄ : (a b c d : List ℕ) → length (a ++ b ++ c ++ d) ≡ length a + length b + length c + length d
lengths₄ a b c d = simp length-append

lengths₆ : (a b c d e f : List ℕ) → length (a ++ b ++ c ++ d ++ e ++ f) ≡ length a + length b + length c + length d + length e + length f
lengths₆ a b c d e f = simp length-append

pub head_length : (h : Head) (order drops loads : List ℕ) (end : ℕ) →
    length (head_text (shown h order drops loads end))
    ≡ length (decimal h.tests ++ text " tests, ") + length (decimal (capacity h.rig) ++ text " places, method ")
    + length (decimal h.method ++ text "\n")
head_length h order drops loads end =
    rw (head_line h order drops loads end) (lengths₃ (decimal h.tests ++ text " tests, ") (decimal (capacity h.rig) ++ text " places, method ")
    (decimal h.method ++ text "\n"))

pub step_length : (i t d l : ℕ) →
    length (step_text i (record { test = t; drops = d; loads = l }))
    ≡ length (decimal i ++ text ": test ") + length (decimal t ++ text " drop") + length (set_text d) + length (text " load") + length (set_text l) + length
    (text "\n")
step_length i t d l =
    rw (step_line i t d l) (lengths₆ (decimal i ++ text ": test ") (decimal t ++ text " drop") (set_text d) (text " load") (set_text l) (text "\n"))

pub loads_length : (n : ℕ) → length (text "loads " ++ decimal n ++ text "\n") ≡ length (text "loads ") + length (decimal n ++ text "\n")
loads_length n = rw (loads_line n) (length-append (text "loads ") (decimal n ++ text "\n"))

pub end_length : (n s : ℕ) → (s ≡ 0 → ⊥) → length (end_text n s) ≡ length (decimal n ++ text ": end drop") + length (set_text s) + length (text "\n")
end_length n s h = rw (end_line n s h) (lengths₃ (decimal n ++ text ": end drop") (set_text s) (text "\n"))

pub plan_length : (h : Head) (order drops loads : List ℕ) (end : ℕ) →
    length (plan_text (shown h order drops loads end))
    ≡ length (head_text (shown h [] [] [] 0)) + length (steps_text 0 (steps order drops loads)) + length (end_text h.tests end) + length
    (text "loads " ++ decimal (curve_count loads) ++ text "\n")
plan_length h order drops loads end =
    rw (plan_lines h order drops loads end) (lengths₄ (head_text (shown h [] [] [] 0)) (steps_text 0 (steps order drops loads)) (end_text h.tests end)
    (text "loads " ++ decimal (curve_count loads) ++ text "\n"))

pub refusal_length : (k i : ℕ) → length (printed (refused k i)) ≡ length (text "refused ") + length (decimal k ++ text " at ") + length (decimal i ++ text "\n")
refusal_length k i = rw (refusal_line k i) (lengths₃ (text "refused ") (decimal k ++ text " at ") (decimal i ++ text "\n"))

-- ---- bounds

-- each step's line has at most so many bytes
pub record Short (bound most : ℕ) : Type 0 where
  pub step : (i t d l : ℕ) → i < bound → t < bound → length (step_text i (record { test = t; drops = d; loads = l })) ≤ most

pub steps_short : (bound most i : ℕ) (order drops loads : List ℕ) → Short bound most → ((j : ℕ) → j < length order → get_or order j 0 < bound)
    → i + length order ≤ bound
    → length (steps_text i (steps order drops loads)) ≤ most * length order
unfolding steps steps_text
steps_short bound most i [] drops loads s h l = zero-le
steps_short bound most i (t ∷ order) [] loads s h l = zero-le
steps_short bound most i (t ∷ order) (d ∷ drops) [] s h l = zero-le
steps_short bound most i (t ∷ order) (d ∷ drops) (e ∷ loads) s h l =
    omega (
      arith,
      mul-suc most (length order),
      length-append (step_text i (record { test = t; drops = d; loads = e })) (steps_text (suc i) (steps order drops loads)),
      s.step i t d e (omega arith) (h 0 (omega arith)),
      steps_short bound most (suc i) order drops loads s (λ j g. h (suc j) (omega arith)) (omega arith),
    )

-- a step's line, of positions and tests with at most k + 1 digits
pub step_short : (k : ℕ) → Short (10 ^ suc k) (2 * k + 404)
unfolding text
step_short k =
    record {
      step = λ i t d l p q.
          omega (
            arith,
            step_length i t d l,
            length-append (decimal i) (text ": test "),
            length-append (decimal t) (text " drop"),
            decimal_length k i p,
            decimal_length k t q,
            set_length d,
            set_length l,
          );
    }

-- the end step's line, behind a number of tests with at most k + 1 digits
pub end_short : (k n s : ℕ) → n < 10 ^ suc k → length (end_text n s) ≤ k + 204
unfolding text
end_short k n zero h = omega (arith, ap length (no_end_line n 0 refl))
end_short k n (suc s) h =
    omega (
      arith,
      end_length n (suc s) (λ e. omega arith),
      length-append (decimal n) (text ": end drop"),
      decimal_length k n h,
      set_length (suc s),
    )

-- the line of a refusal, of a number and a figure with at most m + 1 and n + 1 digits
pub refusal_digits : (m n k i : ℕ) → k < 10 ^ suc m → i < 10 ^ suc n → length (printed (refused k i)) ≤ m + n + 15
unfolding text
refusal_digits m n k i p q =
    omega (
      arith,
      refusal_length k i,
      length-append (decimal k) (text " at "),
      length-append (decimal i) (text "\n"),
      decimal_length m k p,
      decimal_length n i q,
    )

pub refusal_short : (k i : ℕ) → k < 100 → i < 10000 → length (printed (refused k i)) ≤ 20
refusal_short k i p q = omega (arith, refusal_digits 1 3 k i (omega arith) (omega arith))

-- the whole: of at most 256 steps, all of whose numbers a word holds
pub plan_word : (h : Head) (order drops loads : List ℕ) (end : ℕ) → h.tests < 2 ^ 64 → capacity h.rig < 2 ^ 64 → h.method < 2 ^ 64 → length order ≤ 256
    → ((j : ℕ) → j < length order → get_or order j 0 < 2 ^ 64) → curve_count loads < 2 ^ 64
    → length (plan_text (shown h order drops loads end)) < 2 ^ 64
unfolding text
plan_word h order drops loads end t p m n o c =
    omega (
      arith,
      plan_length h order drops loads end,
      head_length h [] [] [] 0,
      end_short 19 h.tests end (omega arith),
      length-append (decimal h.tests) (text " tests, "),
      length-append (decimal (capacity h.rig)) (text " places, method "),
      length-append (decimal h.method) (text "\n"),
      decimal_word h.tests t,
      decimal_word (capacity h.rig) p,
      decimal_word h.method m,
      loads_length (curve_count loads),
      length-append (decimal (curve_count loads)) (text "\n"),
      decimal_word (curve_count loads) c,
      steps_short (10 ^ 20) 442 0 order drops loads (step_short 19) (λ j l. omega (arith, o j l)) (omega arith),
    )
