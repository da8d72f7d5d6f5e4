-- The lines of the table of drive sizes, grouped as they are put, and how long they are.
use mathlib.Core.Path.{◌≡◌, refl, sym, ap, ◌∙◌}
use mathlib.Core.Bool.{Bool, true, false}
use mathlib.Core.List.{List, [], ◌∷◌, ◌++◌, append_assoc}
use Prim.Native.Nat.{ℕ, suc, ◌+◌, ◌*◌, ◌^◌, ◌≤◌, ◌<◌, zero-le}
use native.Mathlib.Decide.{ℕ_discrete}
use native.Mathlib.Nat.{mul-suc}
use native.Mathlib.Numerals.{add-one}
use native.Mathlib.Omega.{arith}
use borrow.Author.Tests.{eq-eqb, ne_eqb}
use lib.Dec.{eqb}
use lib.ListN.{length, get_or, drop, length-append, drop_of_length-le}
use lib.Seq.{drop-cons}
use Rattle.lists.specs.Choice.{Found, nobody, found, keep}
use Rattle.job.specs.declared.Head.{Head}
use Rattle.std.specs.Prelude.{Option, Some, None}
use Rattle.every_size.specs.Sizes.{mark, serves, fewest_from, fewest_places, size_found}
use Rattle.report.specs.Report.{text, decimal}
use Rattle.report.specs.SizeTable.{entry_text, size_text, unless_last, sizes_text, places_text, wanted_text, table_text}
use Rattle.report.proofs.Digits.{decimal_length, decimal_word}
use Rattle.report.proofs.Lines.{lengths₃}

-- ---- the line of a size

pub size_line : (p e : ℕ) → (e ≡ mark → ⊥) → size_text p e ≡ (decimal p ++ text " places: ") ++ (decimal e ++ text " loads\n")
unfolding size_text entry_text text
size_line p e h = rw (ne_eqb e mark h) (simp append_assoc)

pub mark_line : (p e : ℕ) → e ≡ mark → size_text p e ≡ (decimal p ++ text " places: ") ++ text "too few\n"
unfolding size_text entry_text text
mark_line p e h = rw (eq-eqb e mark h) (simp append_assoc)

-- ---- the lines of the sizes from entry i on

module _ (least : ℕ) (counts : List ℕ) (i : ℕ) where
  pub sizes_next : i < length counts
      → sizes_text least (i + 1) (drop i counts)
      ≡ size_text (i + 1) (get_or counts i 0) ++ unless_last (eqb (get_or counts i 0) least) (sizes_text least (i + 1 + 1) (drop (i + 1) counts))
  unfolding sizes_text
  sizes_next h = rw (drop-cons counts i 0 h, add-one i, add-one (suc i)) refl

  pub sizes_last : i < length counts → get_or counts i 0 ≡ least → sizes_text least (i + 1) (drop i counts) ≡ size_text (i + 1) (get_or counts i 0) ++ []
  unfolding unless_last
  sizes_last h e = sizes_next h ∙ rw (eq-eqb (get_or counts i 0) least e) refl

  pub sizes_more : i < length counts → (get_or counts i 0 ≡ least → ⊥)
      → sizes_text least (i + 1) (drop i counts) ≡ size_text (i + 1) (get_or counts i 0) ++ sizes_text least (i + 1 + 1) (drop (i + 1) counts)
  unfolding unless_last
  sizes_more h n = sizes_next h ∙ rw (ne_eqb (get_or counts i 0) least n) refl

  pub sizes_end : length counts ≤ i → sizes_text least (i + 1) (drop i counts) ≡ []
  unfolding sizes_text
  sizes_end h = rw (drop_of_length-le counts h) refl

-- ---- the line of a wanted count

regroup : (a b c d e f : List ℕ) → a ++ b ++ c ++ (d ++ e) ++ f ≡ a ++ (b ++ c) ++ (d ++ (e ++ f))
regroup a b c d e f = simp append_assoc

pub fewest_line : (l p : ℕ) (counts : List ℕ) → fewest_places l counts ≡ found p
    → wanted_text (found l) counts ≡ text "at most " ++ (decimal l ++ text " loads: ") ++ (decimal p ++ text " places\n")
unfolding wanted_text places_text text
fewest_line l p counts e = rw e (regroup (text "at most ") (decimal l) (text " loads: ") (decimal p) (text " places") (text "\n"))

pub none_line : (l : ℕ) (counts : List ℕ) → fewest_places l counts ≡ nobody
    → wanted_text (found l) counts ≡ text "at most " ++ (decimal l ++ text " loads: ") ++ text "none\n"
unfolding wanted_text places_text text
none_line l counts e = rw e (regroup (text "at most ") (decimal l) (text " loads: ") [] (text "none") (text "\n"))

pub no_line : (counts : List ℕ) → wanted_text nobody counts ≡ []
unfolding wanted_text
no_line counts = refl

-- what the fewest places were answered to be
pub places_found : (x : Option ℕ) (f : Found ℕ) (p : ℕ) → size_found x ≡ f → x ≡ Some p → f ≡ found p
unfolding size_found
places_found x f p e g = sym e ∙ rw g refl

pub none_found : (x : Option ℕ) (f : Found ℕ) → size_found x ≡ f → x ≡ None → f ≡ nobody
unfolding size_found
none_found x f e g = sym e ∙ rw g refl

-- ---- the table

pub table_lines : (w : Found ℕ) (h : Head) (counts : List ℕ) →
    table_text w (record { head = h; counts = counts })
    ≡ (decimal h.tests ++ text " tests, method ") ++ (decimal h.method ++ text "\n") ++ sizes_text (get_or counts 63 0) 1 counts
    ++ text "more places: no fewer loads\n" ++ wanted_text w counts
unfolding table_text
table_lines w h counts = simp append_assoc

-- ---- their lengths

lengths₅ : (a b c d e : List ℕ) → length (a ++ b ++ c ++ d ++ e) ≡ length a + length b + length c + length d + length e
lengths₅ a b c d e = simp length-append

pub size_length : (p e : ℕ) → (e ≡ mark → ⊥) → length (size_text p e) ≡ length (decimal p ++ text " places: ") + length (decimal e ++ text " loads\n")
size_length p e h = rw (size_line p e h) (length-append (decimal p ++ text " places: ") (decimal e ++ text " loads\n"))

pub mark_length : (p e : ℕ) → e ≡ mark → length (size_text p e) ≡ length (decimal p ++ text " places: ") + length (text "too few\n")
mark_length p e h = rw (mark_line p e h) (length-append (decimal p ++ text " places: ") (text "too few\n"))

pub fewest_length : (l p : ℕ) (counts : List ℕ) → fewest_places l counts ≡ found p
    → length (wanted_text (found l) counts) ≡ length (text "at most ") + length (decimal l ++ text " loads: ") + length (decimal p ++ text " places\n")
fewest_length l p counts e = rw (fewest_line l p counts e) (lengths₃ (text "at most ") (decimal l ++ text " loads: ") (decimal p ++ text " places\n"))

pub none_length : (l : ℕ) (counts : List ℕ) → fewest_places l counts ≡ nobody
    → length (wanted_text (found l) counts) ≡ length (text "at most ") + length (decimal l ++ text " loads: ") + length (text "none\n")
none_length l counts e = rw (none_line l counts e) (lengths₃ (text "at most ") (decimal l ++ text " loads: ") (text "none\n"))

pub table_length : (w : Found ℕ) (h : Head) (counts : List ℕ) →
    length (table_text w (record { head = h; counts = counts }))
    ≡ length (decimal h.tests ++ text " tests, method ") + length (decimal h.method ++ text "\n") + length (sizes_text (get_or counts 63 0) 1 counts)
    + length (text "more places: no fewer loads\n") + length (wanted_text w counts)
table_length w h counts =
    rw (table_lines w h counts) (lengths₅ (decimal h.tests ++ text " tests, method ") (decimal h.method ++ text "\n")
    (sizes_text (get_or counts 63 0) 1 counts) (text "more places: no fewer loads\n") (wanted_text w counts))

-- ---- bounds

size_short : (p e : ℕ) → p < 100 → e < 100000 → length (size_text p e) ≤ 23
unfolding text
size_short p e l m = go (ℕ_discrete e mark)
  where
    go : Dec (e ≡ mark) → length (size_text p e) ≤ 23
    go (yes h) = omega (arith, mark_length p e h, length-append (decimal p) (text " places: "), decimal_length 1 p (omega arith))
    go (no h) =
        omega (
          arith,
          size_length p e h,
          length-append (decimal p) (text " places: "),
          length-append (decimal e) (text " loads\n"),
          decimal_length 1 p (omega arith),
          decimal_length 4 e (omega arith),
        )

rest_short : (b : Bool) (lines : List ℕ) → length (unless_last b lines) ≤ length lines
unfolding unless_last
rest_short true lines = omega arith
rest_short false lines = omega arith

sizes_short : (least p : ℕ) (counts : List ℕ) → p + length counts ≤ 100 → ((j : ℕ) → j < length counts → get_or counts j 0 < 100000)
    → length (sizes_text least p counts) ≤ 23 * length counts
unfolding sizes_text
sizes_short least p [] l h = zero-le
sizes_short least p (e ∷ counts) l h =
    omega (
      arith,
      mul-suc 23 (length counts),
      length-append (size_text p e) (unless_last (eqb e least) (sizes_text least (suc p) counts)),
      size_short p e (omega arith) (h 0 (omega arith)),
      rest_short (eqb e least) (sizes_text least (suc p) counts),
      sizes_short least (suc p) counts (omega arith) (λ j g. h (suc j) (omega arith)),
    )

-- the fewest places are one of the sizes
fewest_within : (l p q : ℕ) (counts : List ℕ) → fewest_from l p counts ≡ found q → (p ≤ q) × (q < p + length counts)
unfolding fewest_from
fewest_within l p q [] e = let z : ◌≡◌ {A = ℕ} 0 1 = cc in absurd (omega arith)
fewest_within l p q (c ∷ counts) e = go (serves l c) e (fewest_within l (suc p) q counts)
  where
    go : (b : Bool) → keep b p (fewest_from l (suc p) counts) ≡ found q
        → (fewest_from l (suc p) counts ≡ found q → (suc p ≤ q) × (q < suc p + length counts)) → (p ≤ q) × (q < p + suc (length counts))
    go true e ih = unfold keep in let f : p ≡ q = cc in (omega arith, omega arith)
    go false e ih = unfold keep in let x = ih e in (omega (arith, x.0), omega (arith, x.1))

-- a count that a word holds, or none
abbrev pub Word : Found ℕ → Type 0
Word nobody = Unit {0}
Word (found l) = l < 2 ^ 64

wanted_short : (w : Found ℕ) (counts : List ℕ) → Word w → length counts ≤ 64 → length (wanted_text w counts) ≤ 46
unfolding text
wanted_short nobody counts h m = omega (arith, ap length (no_line counts))
wanted_short (found l) counts h m = go (fewest_places l counts) refl
  where
    go : (f : Found ℕ) → fewest_places l counts ≡ f → length (wanted_text (found l) counts) ≤ 46
    go nobody e = omega (arith, none_length l counts e, length-append (decimal l) (text " loads: "), decimal_word l h)
    go (found p) e =
        omega (
          arith,
          fewest_length l p counts e,
          length-append (decimal l) (text " loads: "),
          length-append (decimal p) (text " places\n"),
          decimal_word l h,
          decimal_length 1 p (omega (arith, (fewest_within l 1 p counts e).1)),
        )

-- entries of two bytes, for 64 sizes
pub record Entries (counts : List ℕ) : Type 0 where
  pub sizes : length counts ≡ 64
  pub small : (j : ℕ) → j < length counts → get_or counts j 0 < 65536

-- NO TABLE has more than 2,048 bytes: at most 56 for the head, 23 for each size, 28 behind them and 46 for the wanted count
pub table_short : (w : Found ℕ) (h : Head) (counts : List ℕ) → Word w → h.tests < 2 ^ 64 → h.method < 2 ^ 64 → Entries counts
    → length (table_text w (record { head = h; counts = counts })) ≤ 2048
unfolding text
table_short w h counts v t m e =
    omega (
      arith,
      e.sizes,
      table_length w h counts,
      length-append (decimal h.tests) (text " tests, method "),
      length-append (decimal h.method) (text "\n"),
      decimal_word h.tests t,
      decimal_word h.method m,
      sizes_short (get_or counts 63 0) 1 counts (omega (arith, e.sizes)) (λ j l. omega (arith, e.small j l)),
      wanted_short w counts v (omega (arith, e.sizes)),
    )
