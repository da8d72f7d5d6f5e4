-- 02, wish 9, on the rules: the load counts of every drive size, and the fewest places for a wanted count. Each count is the least of all plans (`Least`), so
-- "more places never mean more loads" as what is held with fewer places can be held with more, and the different curves are a bound that is reached where all
-- of them are held from the first step on.
use mathlib.Core.Path.{◌≡◌, refl, ap, ◌∙◌}
use mathlib.Core.Logic.{◌↔◌, ◌⊎◌, inl, inr, ⊎_elim}
use mathlib.Core.Bool.{Bool, true, false, not, ◌&&◌}
use mathlib.Core.List.{List, [], ◌∷◌, map}
use Prim.Native.Nat.{ℕ, zero, suc, ◌+◌, ◌-◌, ◌*◌, ◌^◌, ◌≤◌, ◌<◌, zero-le}
use native.Mathlib.Nat.{mul-suc}
use native.Mathlib.Omega.{arith}
use native.Mathlib.Decide.{dec_le}
use lib.Dec.{leb, eqb}
use lib.Pow.{pow_pos, pow_mono}
use lib.ListN.{length, get_or}
use borrow.Author.Tests.{leb-true, leb-false, le-leb, eqb-true, eqb-false, ne_eqb, not-true}
use Rattle.bitset.specs.Set.{◌∪◌, ◌∖◌, size, below}
use Rattle.bitset.proofs.Bits.{bitwise, bit_empty, le_by_bits, sizes_le}
use Rattle.bitset.proofs.Laws.{size_le}
use Rattle.bitset.proofs.Parts.{◌≼◌, in_range, empty-≼}
use Rattle.lists.specs.Choice.{Found, nobody, found, keep}
use Rattle.lists.proofs.Tests.{both}
use Rattle.drive.specs.Steps.{moved, curve_count, load_count, together}
use Rattle.drive.specs.Plan.{furthest, next, plan_from}
use Rattle.every_size.specs.Sizes.{largest, mark, or_mark, count_for, counts_from, all_sizes, serves, fewest_from, fewest_places}
use Rattle.drive.proofs.Groups.{without_none}
use Rattle.drive.proofs.Holdings.{Holds, between, loads_for, wider}
use Rattle.drive.proofs.Fewest.{room_for, Least}
use Rattle.drive.proofs.Best.{furthest_least}
use Rattle.drive.proofs.Width.{plan_width}

-- ---- what steps want together: the least set that has the wants of each

pub has_together : (ws : List ℕ) (i : ℕ) → i < length ws → get_or ws i 0 ≼ together ws
unfolding together
has_together [] i h = absurd (omega arith)
has_together (w ∷ ws) zero h = λ c. simp bitwise (omega arith)
has_together (w ∷ ws) (suc i) h = let r = has_together ws i (omega arith) in λ c. simp bitwise (omega (arith, r c))

pub together_within : (ws : List ℕ) (u : ℕ) → ((i : ℕ) → i < length ws → get_or ws i 0 ≼ u) → together ws ≼ u
unfolding together
together_within [] u h = empty-≼ u
together_within (w ∷ ws) u h =
    let r = together_within ws u (λ i l. h (suc i) (omega arith)) in λ c. simp bitwise (omega (arith, h 0 (omega arith) c, r c))

-- ---- the largest test

pub le_largest : (ws : List ℕ) (i : ℕ) → i < length ws → size (get_or ws i 0) ≤ largest ws
unfolding largest
le_largest [] i h = absurd (omega arith)
le_largest (w ∷ ws) zero h = omega arith
le_largest (w ∷ ws) (suc i) h = omega (arith, le_largest ws i (omega arith))

-- a size is too small exactly where it is too small for some test ..
pub too_small : (ws : List ℕ) (p : ℕ) → p < largest ws ↔ ((t : ℕ) × (t < length ws) × (p < size (get_or ws t 0)))
unfolding largest
too_small ws p = (some ws, λ x. omega (arith, x.2, le_largest ws x.0 x.1))
  where
    some : (ws : List ℕ) → p < largest ws → (t : ℕ) × (t < length ws) × (p < size (get_or ws t 0))
    some [] h = absurd (omega arith)
    some (w ∷ ws) h = go (dec_le (size w) p) (some ws)
      where
        go : Dec (size w ≤ p) → (p < largest ws → (t : ℕ) × (t < length ws) × (p < size (get_or ws t 0)))
            → (t : ℕ) × (t < suc (length ws)) × (p < size (get_or (w ∷ ws) t 0))
        go (yes l) ih = let r = ih (omega arith) in (suc r.0, omega (arith, r.1), r.2)
        go (no l) ih = (0, omega arith, omega arith)

-- .. and large enough exactly where it is for each
pub large_enough : (ws : List ℕ) (p : ℕ) → largest ws ≤ p ↔ ((t : ℕ) → t < length ws → size (get_or ws t 0) ≤ p)
large_enough ws p = ((λ h t l. omega (arith, le_largest ws t l)), λ h. go h (dec_le (largest ws) p))
  where
    go : ((t : ℕ) → t < length ws → size (get_or ws t 0) ≤ p) → Dec (largest ws ≤ p) → largest ws ≤ p
    go h (yes l) = l
    go h (no l) = let x = (too_small ws p).0 (omega arith) in absurd (omega (arith, x.2, h x.0 x.1))

-- ---- no more loads than the tests want one by one

pub loads_few : (pick : ℕ → List ℕ → Found ℕ) (capacity h : ℕ) (ws : List ℕ) → load_count (plan_from pick capacity h ws) ≤ curve_count ws
unfolding plan_from curve_count
loads_few pick capacity h [] = zero-le
loads_few pick capacity h (w ∷ ws) =
    omega (
      arith,
      loads_few pick capacity (moved h (next pick capacity h w ws)) ws,
      sizes_le (w ∖ h ∷ []) (w ∷ []) (λ c. simp bitwise (omega arith)),
    )

pub wants_few : (n : ℕ) (ws : List ℕ) → ((i : ℕ) → i < length ws → get_or ws i 0 < 2 ^ n) → curve_count ws ≤ n * length ws
unfolding curve_count
wants_few n [] own = zero-le
wants_few n (w ∷ ws) own =
    omega (arith, mul-suc n (length ws), size_le n w (own 0 (omega arith)), wants_few n ws (λ i l. own (suc i) (omega arith)))

-- ---- holdings and the different curves

-- whatever is wanted and not held at first is loaded
all_loaded : {room : ℕ → ℕ} {all : ℕ} {ws ks : List ℕ} (h : ℕ) → Holds room all ws ks → size (together ws ∖ h) ≤ loads_for h ks
unfolding together between curve_count
all_loaded h Holds.none = omega (arith, sizes_le (0 ∖ h ∷ []) [] (λ c. simp (bitwise, bit_empty) (omega arith)))
all_loaded h (Holds.step {w = w} {k = k} {ws = ws} i j s r) =
    omega (arith, all_loaded k r, sizes_le ((w ∪ together ws) ∖ h ∷ []) (k ∖ h ∷ together ws ∖ k ∷ []) (λ c. simp bitwise (omega (arith, i c))))

-- all can be held from the first step on, where they have room together ..
at_once : (room : ℕ → ℕ) (all u : ℕ) → u ≼ all → ((w : ℕ) → size u ≤ room w) → (ws : List ℕ) → together ws ≼ u → Holds room all ws (map (λ w. u) ws)
unfolding together
at_once room all u own l [] i = Holds.none
at_once room all u own l (w ∷ ws) i =
    Holds.step {w = w} {k = u} (λ c. omega (arith, simp bitwise at (i c))) own (l w)
    (at_once room all u own l ws (λ c. omega (arith, simp bitwise at (i c))))

-- .. and then nothing is loaded twice
loaded_once : (u h : ℕ) (ws : List ℕ) → loads_for h (map (λ w. u) ws) ≤ size (u ∖ h)
unfolding between curve_count
loaded_once u h [] = zero-le
loaded_once u h (w ∷ ws) = omega (arith, loaded_once u u ws, sizes_le (u ∖ u ∷ []) [] (λ c. simp bitwise (omega arith)))

-- ---- the counts of our plan, from an empty drive, for steps that want sets of n curves
module _ (n : ℕ) (ws : List ℕ) (own : (i : ℕ) → i < length ws → get_or ws i 0 < 2 ^ n) where
  abbrev loads : ℕ → ℕ
  loads p = load_count (plan_from (furthest n) p 0 ws)

  own-≼ : (i : ℕ) → i < length ws → get_or ws i 0 ≼ below n
  own-≼ i l = in_range n (get_or ws i 0) (own i l)

  least : (p : ℕ) → Least p (below n) 0 ws (loads p)
  least p = furthest_least n p 0 (empty-≼ (below n)) ws own-≼

  -- MORE PLACES NEVER MEAN MORE LOADS, also where a test is too large
  pub more_places : (p q : ℕ) → p ≤ q → loads q ≤ loads p
  more_places p q l = let r = (least p).reached in omega (arith, r.2, (least q).least r.0 (wider (λ w. omega arith) r.1))

  -- A LOAD FOR EACH DIFFERENT CURVE, at least ..
  pub at_least : (p : ℕ) → size (together ws) ≤ loads p
  at_least p = let r = (least p).reached in omega (arith, r.2, all_loaded 0 r.1, ap size (without_none (together ws)))

  -- .. and no more where all have room together
  pub reached : (p : ℕ) → size (together ws) ≤ p → loads p ≡ size (together ws)
  reached p l =
      let u = together ws in
      let k = at_once (room_for p) (below n) u (together_within ws (below n) own-≼) (λ w. omega arith) ws (λ c. omega arith) in
      omega (arith, at_least p, (least p).least _ k, loaded_once u 0 ws, ap size (without_none (together ws)))

  -- the different curves are no more than there are
  pub together_few : size (together ws) ≤ n
  together_few = size_le n (together ws) (omega (arith, le_by_bits (together ws) (below n) (together_within ws (below n) own-≼), pow_pos n))

  -- no test is larger than all together
  pub largest_together : largest ws ≤ size (together ws)
  largest_together =
      (large_enough ws (size (together ws))).1
      (λ t l. omega (arith, sizes_le (get_or ws t 0 ∷ []) (together ws ∷ []) (λ c. omega (arith, has_together ws t l c))))

  -- AN ENTRY IS THE PLAN'S COUNT, OR THE MARK WHERE THE SIZE IS TOO SMALL
  pub entry_is : (p : ℕ) → ((largest ws ≤ p) × (count_for n ws p ≡ loads p)) ⊎ ((p < largest ws) × (count_for n ws p ≡ mark))
  unfolding count_for or_mark
  entry_is p = go (leb (largest ws) p) refl
    where
      go : (t : Bool) → leb (largest ws) p ≡ t → ((largest ws ≤ p) × (or_mark t (loads p) ≡ loads p)) ⊎ ((p < largest ws) × (or_mark t (loads p) ≡ mark))
      go true e = inl (leb-true (largest ws) p e, refl)
      go false e = inr (leb-false (largest ws) p e, refl)

  pub counted : (p : ℕ) → largest ws ≤ p → count_for n ws p ≡ loads p
  counted p l = ⊎_elim (λ a. a.1) (λ a. absurd (omega (arith, a.0))) (entry_is p)

  -- ---- at most 64 curves and 256 steps
  module _ (few : n ≤ 64) (short : length ws ≤ 256) where
    -- NO COUNT REACHES THE MARK
    pub unreached : (p : ℕ) → loads p < mark
    unreached p = omega (arith, loads_few (furthest n) p 0 ws, wants_few 64 ws (λ i l. omega (arith, own i l, pow_mono few)))

    most : (p : ℕ) → count_for n ws p ≤ mark
    most p = ⊎_elim (λ a. omega (arith, a.1, unreached p)) (λ a. omega (arith, a.1)) (entry_is p)

    pub marked : (p : ℕ) → count_for n ws p ≡ mark ↔ p < largest ws
    marked p = go (entry_is p)
      where
        go : ((largest ws ≤ p) × (count_for n ws p ≡ loads p)) ⊎ ((p < largest ws) × (count_for n ws p ≡ mark)) → count_for n ws p ≡ mark ↔ p < largest ws
        go (inl a) = ((λ e. absurd (omega (arith, a.1, unreached p))), λ h. absurd (omega (arith, a.0)))
        go (inr a) = ((λ e. a.0), λ h. a.1)

    pub falling : (p q : ℕ) → p ≤ q → count_for n ws q ≤ count_for n ws p
    falling p q l = ⊎_elim (λ a. omega (arith, a.1, counted q (omega (arith, a.0)), more_places p q l)) (λ a. omega (arith, a.1, most q)) (entry_is p)

    pub entry_at_least : (p : ℕ) → size (together ws) ≤ count_for n ws p
    entry_at_least p = ⊎_elim (λ a. omega (arith, a.1, at_least p)) (λ a. omega (arith, a.1, together_few)) (entry_is p)

    pub entry_reached : (p : ℕ) → size (together ws) ≤ p → count_for n ws p ≡ size (together ws)
    entry_reached p l = counted p (omega (arith, largest_together)) ∙ reached p l

-- ---- the entries

module _ (n : ℕ) (ws : List ℕ) where
  length_counts : (p k : ℕ) → length (counts_from n ws p k) ≡ k
  unfolding counts_from
  length_counts p zero = refl
  length_counts p (suc k) = ap suc (length_counts (suc p) k)

  counts_at : (p k i : ℕ) → i < k → get_or (counts_from n ws p k) i 0 ≡ count_for n ws (p + i)
  unfolding counts_from
  counts_at p zero i h = absurd (omega arith)
  counts_at p (suc k) zero h = let e : p + 0 ≡ p = omega arith in rw e refl
  counts_at p (suc k) (suc i) h = let e : suc p + i ≡ p + suc i = omega arith in counts_at (suc p) k i (omega arith) ∙ rw e refl

  pub length_sizes : length (all_sizes n ws) ≡ 64
  unfolding all_sizes
  length_sizes = length_counts 1 64

  -- THE ENTRY FOR p PLACES
  pub size_at : (p : ℕ) → 1 ≤ p → p ≤ 64 → get_or (all_sizes n ws) (p - 1) 0 ≡ count_for n ws p
  unfolding all_sizes
  size_at p l h = let e : 1 + (p - 1) ≡ p = omega arith in counts_at 1 64 (p - 1) (omega arith) ∙ ap (count_for n ws) e

-- the victim may be looked for among more curves
module _ (n m : ℕ) (wider : n ≤ m) (ws : List ℕ) (own : (i : ℕ) → i < length ws → get_or ws i 0 < 2 ^ n) where
  counts_width : (p k : ℕ) → counts_from m ws p k ≡ counts_from n ws p k
  unfolding counts_from count_for
  counts_width p zero = refl
  counts_width p (suc k) = rw (plan_width n m wider p 0 ws (pow_pos n) own, counts_width (suc p) k) refl

  pub sizes_width : all_sizes m ws ≡ all_sizes n ws
  unfolding all_sizes
  sizes_width = counts_width 1 64

-- ---- the fewest places

-- an entry serves where it is no mark and needs no more loads
pub serves_exact : (loads entry : ℕ) → serves loads entry ≡ true ↔ ((entry ≤ loads) × (entry ≡ mark → ⊥))
unfolding serves
serves_exact loads entry = (
  λ e.
      let b = both (not (eqb entry mark)) (leb entry loads) e in
      (leb-true entry loads b.1, eqb-false entry mark (not-true (eqb entry mark) b.0)),
  λ x. rw (ne_eqb entry mark x.1) (le-leb entry loads x.0),
)

pub serves_not : (loads entry : ℕ) → serves loads entry ≡ false → (loads < entry) ⊎ (entry ≡ mark)
unfolding serves
serves_not loads entry = go (eqb entry mark) refl
  where
    go : (t : Bool) → eqb entry mark ≡ t → not t && leb entry loads ≡ false → (loads < entry) ⊎ (entry ≡ mark)
    go true e f = inr (eqb-true entry mark e)
    go false e f = inl (leb-false entry loads f)

-- entry i is the first that serves
pub record First (loads : ℕ) (entries : List ℕ) (i : ℕ) : Type 0 where
  pub within : i < length entries
  pub it : serves loads (get_or entries i 0) ≡ true
  pub before : (j : ℕ) → j < i → serves loads (get_or entries j 0) ≡ false

-- of entries of which the first is that of p places: the size of the first that serves, or that none does
abbrev FirstOf : ℕ → ℕ → List ℕ → Found ℕ → Type 0
FirstOf loads p entries nobody = (i : ℕ) → i < length entries → serves loads (get_or entries i 0) ≡ false
FirstOf loads p entries (found q) = (i : ℕ) × (q ≡ p + i) × First loads entries i

first_of : (loads p : ℕ) (entries : List ℕ) → FirstOf loads p entries (fewest_from loads p entries)
unfolding fewest_from keep
first_of loads p [] = λ i h. absurd (omega arith)
first_of loads p (e ∷ es) = go (serves loads e) refl (fewest_from loads (suc p) es) (first_of loads (suc p) es)
  where
    both_not : serves loads e ≡ false → (m : ℕ) → ((i : ℕ) → i < m → serves loads (get_or es i 0) ≡ false)
        → (i : ℕ) → i < suc m → serves loads (get_or (e ∷ es) i 0) ≡ false
    both_not t m r zero h = t
    both_not t m r (suc i) h = r i (omega arith)

    go : (t : Bool) → serves loads e ≡ t → (f : Found ℕ) → FirstOf loads (suc p) es f → FirstOf loads p (e ∷ es) (keep t p f)
    go true t f r = (0, omega arith, record { within = omega arith; it = t; before = λ j l. absurd (omega arith) })
    go false t nobody r = both_not t (length es) r
    go false t (found q) r = (
      suc r.0,
      omega (arith, r.1),
      record { within = omega (arith, r.2.within); it = r.2.it; before = both_not t r.0 r.2.before },
    )

module _ (loads : ℕ) (entries : List ℕ) where
  -- THE SIZE GIVEN IS THE FIRST THAT SERVES ..
  pub fewest_found : (p : ℕ) → fewest_places loads entries ≡ found p → (1 ≤ p) × First loads entries (p - 1)
  fewest_found p e =
      let r : FirstOf loads 1 entries (found p) = rw e at (first_of loads 1 entries) in
      let i : p - 1 ≡ r.0 = omega (arith, r.1) in
      (omega (arith, r.1), rw i r.2)

  -- .. and none is given where none serves
  pub fewest_nobody : fewest_places loads entries ≡ nobody → (i : ℕ) → i < length entries → serves loads (get_or entries i 0) ≡ false
  fewest_nobody e = rw e at (first_of loads 1 entries)

-- NONE EXACTLY WHERE MORE DIFFERENT CURVES ARE WANTED than that count
module _ (n : ℕ) (ws : List ℕ) (own : (i : ℕ) → i < length ws → get_or ws i 0 < 2 ^ n) (few : n ≤ 64) (short : length ws ≤ 256) (loads : ℕ) where
  pub fewest_none : fewest_places loads (all_sizes n ws) ≡ nobody ↔ loads < size (together ws)
  fewest_none = (
    λ e. ⊎_elim (λ h. omega (arith, h, last)) (λ h. absurd (omega (arith, h, last, together_few n ws own)))
        (serves_not loads _ (fewest_nobody loads (all_sizes n ws) e 63 (omega (arith, length_sizes n ws)))),
    λ h. go h (fewest_places loads (all_sizes n ws)) refl,
  )
    where
      last : get_or (all_sizes n ws) 63 0 ≡ size (together ws)
      last = size_at n ws 64 (omega arith) (omega arith) ∙ entry_reached n ws own few short 64 (omega (arith, together_few n ws own))

      go : loads < size (together ws) → (f : Found ℕ) → fewest_places loads (all_sizes n ws) ≡ f → f ≡ nobody
      go h nobody e = refl
      go h (found p) e =
          let r = fewest_found loads (all_sizes n ws) p e in
          let s = (serves_exact loads (get_or (all_sizes n ws) (p - 1) 0)).0 r.1.it in
          absurd (omega (
            arith,
            s.0,
            size_at n ws p r.0 (omega (arith, r.1.within, length_sizes n ws)),
            entry_at_least n ws own few short p,
          ))
