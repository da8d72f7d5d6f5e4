-- What the table of drive sizes says: the count of a word is that of its digits, and the lines go on for as long as more places pay.
use mathlib.Core.Path.{◌≡◌, refl, sym, ap, ◌∙◌}
use mathlib.Core.Bool.{Bool, true, false, not, ◌&&◌}
use mathlib.Core.List.{List, [], ◌∷◌, ◌++◌}
use Prim.Native.Nat.{ℕ, zero, suc, ◌+◌, ◌-◌, ◌*◌, ◌/◌, ◌%◌, ◌^◌, ◌≤◌, ◌<◌}
use native.Mathlib.Numerals.{add-one}
use native.Mathlib.Decide.{ℕ_discrete}
use native.Mathlib.Omega.{arith}
use borrow.Author.Tests.{le-leb, lt-leb, eq-eqb, ne_eqb}
use lib.Dec.{eqb}
use lib.ListN.{length, get_or, take, drop, length-append, drop_of_length-le}
use lib.Seq.{drop-cons}
use Rattle.lists.specs.Choice.{Found, nobody, found, keep}
use Rattle.job.specs.Refusal.{done}
use Rattle.every_size.specs.Sizes.{mark, serves, fewest_from, fewest_places}
use Rattle.sizing.specs.EverySize.{entry_for, EverySize}
use Rattle.sizing.proofs.EverySize.{sizes_exact}
use Rattle.report.specs.Report.{high_digits, decimal}
use Rattle.report.specs.declared.sizes.JobSizes.{JobSizes}
use Rattle.report.specs.SizeTable.{size_job, size_text, unless_last, sizes_text, is_digit, digit_by, number_in, count_in}
use Rattle.report.proofs.Decimal.{value_from, decimal_value}
use Rattle.report.proofs.Digits.{decimal_length}
use Rattle.report.proofs.Sizing.{sized_by}

-- ---- the wanted count

abbrev Digits : List ℕ → Type 0
Digits [] = Unit {0}
Digits (d ∷ ds) = (48 ≤ d) × (d ≤ 57) × Digits ds

digits_append : (a b : List ℕ) → Digits a → Digits b → Digits (a ++ b)
digits_append [] b p q = q
digits_append (d ∷ a) b p q = (p.0, p.1, digits_append a b p.2 q)

high_digits_lem : (h n : ℕ) → Digits (high_digits h n)
unfolding high_digits
high_digits_lem zero n = tt
high_digits_lem (suc h) zero = tt
high_digits_lem (suc h) (suc n) = digits_append (high_digits h (suc n / 10)) _ (high_digits_lem h (suc n / 10)) (omega arith, omega arith, tt)

decimal_digits : (n : ℕ) → Digits (decimal n)
unfolding decimal
decimal_digits n = digits_append (high_digits n (n / 10)) _ (high_digits_lem n (n / 10)) (omega arith, omega arith, tt)

some_digit : (n : ℕ) → 1 ≤ length (decimal n)
unfolding decimal
some_digit n = omega (arith, length-append (high_digits n (n / 10)) ((48 + n % 10) ∷ []))

number_value : (v : ℕ) (ds : List ℕ) → Digits ds → number_in v ds ≡ found (value_from v ds)
unfolding number_in is_digit digit_by value_from
number_value v [] p = refl
number_value v (d ∷ ds) p = rw (le-leb 48 d p.0, le-leb d 57 p.1) (number_value (10 * v + (d - 48)) ds p.2)

-- A COUNT OF AT MOST FIVE DIGITS, as it prints, is read back
pub count_back : (n : ℕ) → n ≤ 99999 → count_in (decimal n) ≡ found n
unfolding count_in digit_by
count_back n h =
    rw (le-leb 1 (length (decimal n)) (some_digit n), le-leb (length (decimal n)) 5 (decimal_length 4 n (omega arith)))
    (number_value 0 (decimal n) (decimal_digits n) ∙ ap found (decimal_value n))

-- a word that is empty, or too long
pub count_none : (word : List ℕ) → length word < 1 → count_in word ≡ nobody
unfolding count_in digit_by
count_none word h = rw (lt-leb 1 (length word) h) refl

pub count_long : (word : List ℕ) → 5 < length word → count_in word ≡ nobody
unfolding count_in digit_by
count_long word h = rw (le-leb 1 (length word) (omega arith), lt-leb (length word) 5 h) refl

pub count_number : (word : List ℕ) → 1 ≤ length word → length word ≤ 5 → count_in word ≡ number_in 0 word
unfolding count_in digit_by
count_number word l m = rw (le-leb 1 (length word) l, le-leb (length word) 5 m) refl

-- its bytes from i on
module _ (n : ℕ) (word : List ℕ) (i : ℕ) where
  next : i < length word
      → number_in n (drop i word) ≡ digit_by (is_digit (get_or word i 0)) (number_in (10 * n + (get_or word i 0 - 48)) (drop (i + 1) word))
  unfolding number_in
  next h = rw (add-one i, drop-cons word i 0 h) refl

  pub number_more : i < length word → 48 ≤ get_or word i 0 → get_or word i 0 ≤ 57
      → number_in n (drop i word) ≡ number_in (10 * n + (get_or word i 0 - 48)) (drop (i + 1) word)
  unfolding is_digit digit_by
  number_more h a b = next h ∙ rw (le-leb 48 (get_or word i 0) a, le-leb (get_or word i 0) 57 b) refl

  pub number_low : i < length word → get_or word i 0 < 48 → number_in n (drop i word) ≡ nobody
  unfolding is_digit digit_by
  number_low h a = next h ∙ rw (lt-leb 48 (get_or word i 0) a) refl

  pub number_high : i < length word → 57 < get_or word i 0 → number_in n (drop i word) ≡ nobody
  unfolding is_digit digit_by
  number_high h a = next h ∙ rw (le-leb 48 (get_or word i 0) (omega arith), lt-leb (get_or word i 0) 57 a) refl

  pub number_end : length word ≤ i → number_in n (drop i word) ≡ found n
  unfolding number_in
  number_end h = rw (drop_of_length-le word h) refl

-- numbers of so many digits, and one digit more
pub digit_more : (n d i : ℕ) → n < 10 ^ i → d ≤ 9 → 10 * n + d < 10 ^ (i + 1)
digit_more n d i l m = rw (add-one i) (omega arith)

-- ---- where the lines stop

-- a line for each of some entries, of which the first is that of so many places
unfoldable pub lines_for : ℕ → List ℕ → List ℕ
lines_for p [] = []
lines_for p (e ∷ es) = size_text p e ++ lines_for (suc p) es

-- the size that serves for the least count is the last that has a line
record Stops (least p : ℕ) (counts : List ℕ) (q : ℕ) : Type 0 where
  within : q < length counts
  gives : fewest_from least p counts ≡ found (p + q)
  lines : sizes_text least p counts ≡ lines_for p (take (suc q) counts)

serves_least : (e least : ℕ) → (least ≡ mark → ⊥) → e ≡ least → serves least e ≡ true
unfolding serves
serves_least e least n h = rw (ne_eqb e mark (λ m. n (sym h ∙ m))) (le-leb e least (omega arith))

not_serves : (e least : ℕ) → least < e → serves least e ≡ false
unfolding serves
not_serves e least h = rw (lt-leb e least h) (go (eqb e mark))
  where
    go : (b : Bool) → not b && false ≡ false
    go true = refl
    go false = refl

module _ (least p c : ℕ) (counts : List ℕ) (n : least ≡ mark → ⊥) where
  stops_here : c ≡ least → Stops least p (c ∷ counts) 0
  unfolding fewest_from keep sizes_text unless_last lines_for
  stops_here e =
      let z : p + 0 ≡ p = omega arith in
      record {
        within = omega arith;
        gives = rw (serves_least c least n e, z) refl;
        lines = rw (eq-eqb c least e) refl;
      }

  stops_later : (q : ℕ) → (c ≡ least → ⊥) → least ≤ c → Stops least (suc p) counts q → Stops least p (c ∷ counts) (suc q)
  unfolding fewest_from keep sizes_text unless_last lines_for
  stops_later q m l s =
      let z : p + suc q ≡ suc p + q = omega arith in
      record {
        within = omega (arith, s.within);
        gives = rw (not_serves c least (omega arith), z) s.gives;
        lines = rw (ne_eqb c least m) (ap (λ (t : List ℕ). size_text p c ++ t) s.lines);
      }

stops : (least p : ℕ) (counts : List ℕ) → (least ≡ mark → ⊥) → ((j : ℕ) → j < length counts → least ≤ get_or counts j 0) → (i : ℕ) → i < length counts
    → get_or counts i 0 ≡ least
    → (q : ℕ) × Stops least p counts q
stops least p [] n l i h e = absurd (omega arith)
stops least p (c ∷ counts) n l i h e = go (ℕ_discrete c least) i h e (stops least (suc p) counts n (λ j g. l (suc j) (omega arith)))
  where
    go : Dec (c ≡ least) → (i : ℕ) → i < suc (length counts) → get_or (c ∷ counts) i 0 ≡ least
        → ((i : ℕ) → i < length counts → get_or counts i 0 ≡ least → (q : ℕ) × Stops least (suc p) counts q)
        → (q : ℕ) × Stops least p (c ∷ counts) q
    go (yes m) i h e ih = (0, stops_here least p c counts n m)
    go (no m) zero h e ih = absurd (m e)
    go (no m) (suc i) h e ih = let x = ih i (omega arith) e in (suc x.0, stops_later least p c counts n x.0 m (l 0 (omega arith)) x.1)

-- of the counts of a sized job, the size up to which there are lines
pub record Rows (counts : List ℕ) (p : ℕ) : Type 0 where
  -- it is the smallest that needs as few loads as 64 places do ..
  pub fewest : fewest_places (entry_for counts 64) counts ≡ found p
  -- .. each size up to it has a line ..
  pub lines : sizes_text (get_or counts 63 0) 1 counts ≡ lines_for 1 (take p counts)
  -- .. and "more places: no fewer loads"
  pub no_fewer : (q : ℕ) → p ≤ q → q ≤ 64 → entry_for counts q ≡ entry_for counts p

module _ (curves : ℕ) (wants order counts : List ℕ) (every : EverySize curves wants order counts) where
  abbrev least : ℕ
  least = entry_for counts 64

  lower : (p : ℕ) → 1 ≤ p → p ≤ 64 → least ≤ entry_for counts p
  lower p some most = omega (arith, every.at_least p some most, every.reached)

  -- what serves for the least count needs just that
  served : (p : ℕ) → fewest_places least counts ≡ found p → (1 ≤ p) × (p ≤ 64) × (entry_for counts p ≡ least) × (least ≡ mark → ⊥)
  served p e =
      let s = every.serving least p e in
      let is : entry_for counts p ≡ least = omega (arith, s.2, lower p s.0 s.1) in
      (s.0, s.1, is, λ m. s.3 (is ∙ m))

  -- some size does
  least_served : least ≡ mark → ⊥
  least_served = go (fewest_places least counts) refl
    where
      go : (f : Found ℕ) → fewest_places least counts ≡ f → least ≡ mark → ⊥
      go nobody e = absurd (omega (arith, (every.none least).0 e, every.reached))
      go (found p) e = (served p e).3

  rows : (p : ℕ) × Rows counts p
  rows =
      let x = stops least 1 counts least_served (λ j l. let z : j + 1 - 1 ≡ j = omega arith in
      rw z at (lower (j + 1) (omega arith) (omega (arith, every.sizes)))) 63 (omega (arith, every.sizes)) refl in
      go x.0 x.1
    where
      go : (q : ℕ) → Stops least 1 counts q → (p : ℕ) × Rows counts p
      go q s =
          let z : 1 + q ≡ suc q = omega arith in
          let e : fewest_places least counts ≡ found (suc q) = rw z at s.gives in
          let r = served (suc q) e in (
            suc q,
            record {
              fewest = e;
              lines = s.lines;
              no_fewer = λ p l m. omega (arith, every.falling (suc q) p r.0 l m, lower p (omega arith) m, r.2);
            },
          )

-- THE LINES OF A SIZED JOB go up to the fewest places for the least count, behind which more places save nothing
pub table_rows : (bs : List ℕ) (s : JobSizes) → size_job bs ≡ done s → (p : ℕ) × Rows s.counts p
table_rows bs s e =
    let b = sized_by bs s e in
    rows b.request.head.rig.curves b.request.wants b.order s.counts (sizes_exact _ _ _ s.counts b.made)
