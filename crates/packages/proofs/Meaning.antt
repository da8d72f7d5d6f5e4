-- What method 3's rules choose, said by comparison with all that could have been chosen: the pair that is joined, a package's head and tail, and the way in
-- which two packages are flipped. In each case the rule chooses exactly the one that is described.
use mathlib.Core.Path.{◌≡◌, refl, sym, ap, ◌∙◌, subst}
use mathlib.Core.Logic.{◌↔◌}
use mathlib.Core.Bool.{Bool, true}
use mathlib.Core.List.{List, [], ◌∷◌, ◌++◌, map, reverse, reverse-append}
use Prim.Native.Nat.{ℕ, zero, suc, ◌+◌, ◌-◌, ◌≤◌, ◌<◌}
use native.Mathlib.Omega.{arith}
use native.Mathlib.Decide.{ℕ_discrete, dec_le, dec_lt}
use lib.ListN.{length, get_or, take, drop, length-drop, length-map, length-reverse, take-append-drop}
use lib.Seq.{take_at}
use lib.Bits.{or_comm}
use lib.Dec.{ltb}
use borrow.Author.Tests.{lt-ltb, le-ltb}
use Rattle.bitset.specs.Set.{◌∪◌, size}
use Rattle.bitset.proofs.Bits.{size_empty}
use Rattle.bitset.proofs.Laws.{∪-assoc, ⊆-∪, size_mono}
use Rattle.lists.specs.Choice.{Found, nobody, found}
use Rattle.packages.specs.Tests.{wants_of, common}
use Rattle.packages.specs.ContractWords.{at}
use Rattle.packages.specs.Packages.{Pair, shared, best_pair, closest, curves_of, Try, try, pick_try, ◌or_more◌, run_from, head, tail, flipped}
use Rattle.packages.proofs.Rows.{chosen, chosen_none, chosen_some, score, score_none, score_some, row_to, pair_start, pair_take, pair_stay}
use Rattle.packages.proofs.Renew.{Best, row_found, row_best}
use Rattle.packages.proofs.Runs.{run_more, run_stop, run_none}
use Rattle.packages.proofs.State.{∪-none, curves_reverse}

-- ---- the pair that is joined

-- with the curves cs of the packages: q is one of the pairs among which is chosen
pub record Candidate (fits : ℕ → Bool) (cs : List ℕ) (q : Pair) : Type 0 where
  pub in_order : q.first < q.second
  pub within : q.second < length cs
  pub union_fits : fits (get_or cs q.first 0 ∪ get_or cs q.second 0) ≡ true

-- "of all pairs .. the pair with most common curves; ties to the earlier first, then the earlier second package"
pub record BestPair (fits : ℕ → Bool) (cs : List ℕ) (q : Pair) : Type 0 where
  pub candidate : Candidate fits cs q
  pub most : (r : Pair) → Candidate fits cs r → shared cs r ≤ shared cs q
  pub earlier_first : (r : Pair) → Candidate fits cs r → r.first < q.first → shared cs r < shared cs q
  pub earlier_second : (r : Pair) → Candidate fits cs r → r.first ≡ q.first → r.second < q.second → shared cs r < shared cs q

module _ (fits : ℕ → Bool) (cs : List ℕ) where
  -- there is no second such pair
  first_le : (q r : Pair) → BestPair fits cs q → BestPair fits cs r → q.first ≤ r.first
  first_le q r b c = go (dec_lt r.first q.first)
    where
      go : Dec (r.first < q.first) → q.first ≤ r.first
      go (yes h) = absurd (omega (arith, b.earlier_first r c.candidate h, c.most q b.candidate))
      go (no h) = omega arith

  second_le : (q r : Pair) → r.first ≡ q.first → BestPair fits cs q → BestPair fits cs r → q.second ≤ r.second
  second_le q r e b c = go (dec_lt r.second q.second)
    where
      go : Dec (r.second < q.second) → q.second ≤ r.second
      go (yes h) = absurd (omega (arith, b.earlier_second r c.candidate e h, c.most q b.candidate))
      go (no h) = omega arith

  only_pair : (q r : Pair) → BestPair fits cs q → BestPair fits cs r → q ≡ r
  only_pair q r b c =
      let e : q.first ≡ r.first = omega (arith, first_le q r b c, first_le r q c b) in
      let f : q.second ≡ r.second = omega (arith, second_le q r (sym e) b c, second_le r q e c b) in
      ap (λ (i : ℕ). at i q.second) e ∙ ap (at r.first) f

  -- row i, whose best second is k, and a candidate r of it
  module _ (i k : ℕ) (best : Best fits cs i (length cs) k) (r : Pair) (c : Candidate fits cs r) (row : r.first ≡ i) where
    best_here : Best fits cs r.first (length cs) k
    best_here = subst (λ (n : ℕ). Best fits cs n (length cs) k) (sym row) best

    score_here : (score cs r.first r.second ≡ 1 + shared cs r) × (score cs r.first k ≡ score cs i k)
    score_here = (score_some cs r.first r.second (omega (arith, c.in_order)), ap (λ (n : ℕ). score cs n k) row)

    row_most : 1 + shared cs r ≤ score cs i k
    row_most = omega (arith, best_here.most r.second c.in_order c.within c.union_fits, score_here)

    row_earlier : r.second < k → 1 + shared cs r < score cs i k
    row_earlier h = omega (arith, best_here.first r.second c.in_order h c.union_fits, score_here)

  -- the best pair i, j of the first n rows; a second of 0 stands for none
  record BestTo (n i j : ℕ) : Type 0 where
    result : best_pair fits cs n ≡ chosen i j
    own : 0 < j → Candidate fits cs (at i j)
    most : (r : Pair) → Candidate fits cs r → r.first < n → 1 + shared cs r ≤ score cs i j
    earlier_first : (r : Pair) → Candidate fits cs r → r.first < i → 1 + shared cs r < score cs i j
    earlier_second : (r : Pair) → Candidate fits cs r → r.first ≡ i → r.second < j → 1 + shared cs r < score cs i j

  abbrev Top : ℕ → Type 0
  Top n = (i : ℕ) × (j : ℕ) × BestTo n i j

  -- row n more, whose best second is k
  module _ (n i j k : ℕ) (t : BestTo n i j) (row : row_to fits cs n (length cs) ≡ chosen n k) (b : Best fits cs n (length cs) k) where
    at_most : (s : ℕ) → score cs i j ≤ s → score cs n k ≤ s → (r : Pair) → Candidate fits cs r → r.first < suc n → 1 + shared cs r ≤ s
    at_most s x y r c l = go (ℕ_discrete r.first n)
      where
        go : Dec (r.first ≡ n) → 1 + shared cs r ≤ s
        go (yes e) = omega (arith, row_most n k b r c e)
        go (no e) = omega (arith, t.most r c (omega arith))

    next_row : Dec (score cs i j < score cs n k) → Top (suc n)
    next_row (yes d) = (
      n,
      k,
      record {
        result = pair_take fits cs n k i j t.result row d;
        own = λ z. let o = b.own z in record { in_order = o.0; within = o.1; union_fits = o.2 };
        most = at_most (score cs n k) (omega arith) (omega arith);
        earlier_first = λ r c l. omega (arith, t.most r c l);
        earlier_second = row_earlier n k b;
      },
    )
    next_row (no d) = (
      i,
      j,
      record {
        result = pair_stay fits cs n k i j t.result row (omega arith);
        own = t.own;
        most = at_most (score cs i j) (omega arith) (omega arith);
        earlier_first = t.earlier_first;
        earlier_second = t.earlier_second;
      },
    )

  top : (n : ℕ) → n ≤ length cs → Top n
  top zero h = (
    0,
    0,
    record {
      result = pair_start fits cs;
      own = λ z. absurd (omega arith);
      most = λ r c l. absurd (omega arith);
      earlier_first = λ r c l. absurd (omega arith);
      earlier_second = λ r c e l. absurd (omega arith);
    },
  )
  top (suc n) h =
      let t = top n (omega arith) in
      let row = row_found fits cs n (omega arith) in
      next_row n t.0 t.1 row.0 t.2 row.1 (row_best fits cs n row.0 (omega arith) row.1)
      (dec_lt (score cs t.0 t.1) (score cs n row.0))

  abbrev Verdict : Found Pair → Type 0
  Verdict nobody = (r : Pair) → ¬ Candidate fits cs r
  Verdict (found q) = BestPair fits cs q

  verdict : Verdict (best_pair fits cs (length cs))
  verdict = let t = top (length cs) (omega arith) in subst Verdict (sym t.2.result) (go t.0 t.1 t.2)
    where
      go : (i j : ℕ) → BestTo (length cs) i j → Verdict (chosen i j)
      go i zero t = subst Verdict (sym (chosen_none i)) (λ r c. omega (arith, t.most r c (omega (arith, c)), score_none cs i))
      go i (suc j) t =
          let s = score_some cs i (suc j) (omega arith) in
          subst Verdict (sym (chosen_some i (suc j) (omega arith)))
          (record {
            candidate = t.own (omega arith);
            most = λ r c. omega (arith, t.most r c (omega (arith, c)), s);
            earlier_first = λ r c l. omega (arith, t.earlier_first r c l, s);
            earlier_second = λ r c e l. omega (arith, t.earlier_second r c e l, s);
          })

  -- THE PAIR IS THE ONE DESCRIBED, and none is found exactly where there is no candidate
  pub pair_exact : (q : Pair) → best_pair fits cs (length cs) ≡ found q ↔ BestPair fits cs q
  pair_exact q = ((λ e. subst Verdict e verdict), back (best_pair fits cs (length cs)) verdict)
    where
      back : (b : Found Pair) → Verdict b → BestPair fits cs q → b ≡ found q
      back nobody v b = absurd (v q b.candidate)
      back (found r) v b = ap found (only_pair r q v b)

  pub no_pair_exact : best_pair fits cs (length cs) ≡ nobody ↔ ((q : Pair) → ¬ Candidate fits cs q)
  no_pair_exact = ((λ e. subst Verdict e verdict), back (best_pair fits cs (length cs)) verdict)
    where
      back : (b : Found Pair) → Verdict b → ((q : Pair) → ¬ Candidate fits cs q) → b ≡ nobody
      back nobody v n = refl
      back (found r) v n = absurd (n r v.candidate)

-- the same of packages
module _ (wants : List ℕ) (fits : ℕ → Bool) (join : List ℕ → List ℕ → List ℕ) (ps : List (List ℕ)) where
  whole : best_pair fits (map (curves_of wants) ps) (length (map (curves_of wants) ps)) ≡ closest wants fits join ps
  whole = ap (best_pair fits (map (curves_of wants) ps)) (length-map ps (curves_of wants))

  pub closest_exact : (q : Pair) → closest wants fits join ps ≡ found q ↔ BestPair fits (map (curves_of wants) ps) q
  closest_exact q = rw whole at (pair_exact fits (map (curves_of wants) ps) q)

  pub none_closest_exact : closest wants fits join ps ≡ nobody ↔ ((q : Pair) → ¬ Candidate fits (map (curves_of wants) ps) q)
  none_closest_exact = rw whole at (no_pair_exact fits (map (curves_of wants) ps))

-- ---- the head and the tail of a package

-- the first k tests of ts are its "longest opening run of tests whose union is at most the places"
pub record LongestOpening (wants : List ℕ) (places : ℕ) (ts : List ℕ) (k : ℕ) : Type 0 where
  pub within : k ≤ length ts
  pub fits : size (curves_of wants (take k ts)) ≤ places
  pub longest : (m : ℕ) → m ≤ length ts → size (curves_of wants (take m ts)) ≤ places → m ≤ k

-- "likewise from the end": the tests of ts from place k on are its longest closing run; none that fits begins earlier
pub record LongestClosing (wants : List ℕ) (places : ℕ) (ts : List ℕ) (k : ℕ) : Type 0 where
  pub fits : size (curves_of wants (drop k ts)) ≤ places
  pub longest : (m : ℕ) → size (curves_of wants (drop m ts)) ≤ places → k ≤ m

module _ (wants : List ℕ) (places : ℕ) where
  -- behind a run with the curves u the longest goes on for k tests of ts
  record Run (u : ℕ) (ts : List ℕ) (k : ℕ) : Type 0 where
    within : k ≤ length ts
    fits : size (u ∪ curves_of wants (take k ts)) ≤ places
    longest : (m : ℕ) → m ≤ length ts → size (u ∪ curves_of wants (take m ts)) ≤ places → m ≤ k
    curves : run_from wants places u ts ≡ u ∪ curves_of wants (take k ts)

  none_more : (u : ℕ) (ts : List ℕ) → u ≡ u ∪ curves_of wants (take 0 ts)
  unfolding curves_of
  none_more u ts = sym (or_comm u 0 ∙ ∪-none u)

  -- the next test t, and those behind it
  module _ (u t : ℕ) (ts : List ℕ) where
    abbrev next : ℕ
    next = u ∪ wants_of wants t

    with_next : (m : ℕ) → next ∪ curves_of wants (take m ts) ≡ u ∪ curves_of wants (take (suc m) (t ∷ ts))
    unfolding curves_of
    with_next m = ∪-assoc u (wants_of wants t) (curves_of wants (take m ts))

    run_on : (k : ℕ) → size next ≤ places → Run next ts k → Run u (t ∷ ts) (suc k)
    run_on k h r =
        record {
          within = omega (arith, r.within);
          fits = omega (arith, r.fits, ap size (with_next k));
          longest = longest;
          curves = run_more wants places u next (wants_of wants t) t (t ∷ ts) ts refl refl refl h ∙ r.curves ∙ with_next k;
        }
      where
        longest : (m : ℕ) → m ≤ length (t ∷ ts) → size (u ∪ curves_of wants (take m (t ∷ ts))) ≤ places → m ≤ suc k
        longest zero l f = omega arith
        longest (suc m) l f = omega (arith, r.longest m (omega arith) (omega (arith, ap size (with_next m))))

    run_off : size u ≤ places → places < size next → Run u (t ∷ ts) 0
    run_off h o =
        record {
          within = omega arith;
          fits = omega (arith, ap size (none_more u (t ∷ ts)));
          longest = longest;
          curves = run_stop wants places u next (wants_of wants t) t (t ∷ ts) ts refl refl refl o ∙ none_more u (t ∷ ts);
        }
      where
        longest : (m : ℕ) → m ≤ length (t ∷ ts) → size (u ∪ curves_of wants (take m (t ∷ ts))) ≤ places → m ≤ 0
        longest zero l f = omega arith
        longest (suc m) l f =
            let c = curves_of wants (take m ts) in
            absurd (omega (arith, size_mono next (next ∪ c) (⊆-∪ next c), ap size (with_next m)))

  run : (u : ℕ) (ts : List ℕ) → size u ≤ places → (k : ℕ) × Run u ts k
  run u [] h = (
    0,
    record {
      within = omega arith;
      fits = omega (arith, ap size (none_more u []));
      longest = λ m l f. l;
      curves = run_none wants places u [] refl
          ∙ none_more u [];
    },
  )
  run u (t ∷ ts) h = go (dec_le (size (next u t ts)) places) (run (next u t ts) ts)
    where
      go : Dec (size (next u t ts) ≤ places) → (size (next u t ts) ≤ places → (k : ℕ) × Run (next u t ts) ts k) → (k : ℕ) × Run u (t ∷ ts) k
      go (yes l) more = let r = more l in (suc r.0, run_on u t ts r.0 l r.1)
      go (no l) more = (0, run_off u t ts h (omega arith))

  -- THE HEAD IS THE LONGEST OPENING RUN: there is one, and the head has its curves
  pub head_exact : (ts : List ℕ) → (k : ℕ) × LongestOpening wants places ts k × (head wants places ts ≡ curves_of wants (take k ts))
  head_exact ts =
      let r = run 0 ts (omega (arith, size_empty)) in
      let same : (m : ℕ) → 0 ∪ curves_of wants (take m ts) ≡ curves_of wants (take m ts) = λ m. ∪-none (curves_of wants (take m ts)) in (
        r.0,
        record {
          within = r.1.within;
          fits = omega (arith, r.1.fits, ap size (same r.0));
          longest = λ m l f. r.1.longest m l (omega (arith, ap size (same m)));
        },
        r.1.curves ∙ same r.0,
      )

  pub head_is : (ts : List ℕ) (k : ℕ) → LongestOpening wants places ts k → head wants places ts ≡ curves_of wants (take k ts)
  head_is ts k o =
      let h = head_exact ts in
      let e : h.0 ≡ k = omega (arith, o.longest h.0 h.1.within h.1.fits, h.1.longest k o.within o.fits) in
      h.2 ∙ ap (λ (n : ℕ). curves_of wants (take n ts)) e

  -- an opening run of the reversed tests is a closing run
  from_end : (ts : List ℕ) (k : ℕ) → curves_of wants (take (length ts - k) (reverse ts)) ≡ curves_of wants (drop k ts)
  from_end ts k =
      let n : length (reverse (drop k ts)) ≡ length ts - k = length-reverse (drop k ts) ∙ length-drop k ts in
      let e : reverse ts ≡ reverse (drop k ts) ++ reverse (take k ts) = ap reverse (sym (take-append-drop k ts)) ∙ reverse-append (take k ts) (drop k ts) in
      ap (curves_of wants) (ap (take (length ts - k)) e ∙ take_at (reverse (drop k ts)) (reverse (take k ts)) (length ts - k) n)
      ∙ curves_reverse wants (drop k ts)

  -- THE TAIL IS THE LONGEST CLOSING RUN
  pub tail_exact : (ts : List ℕ) → (k : ℕ) × LongestClosing wants places ts k × (tail wants places ts ≡ curves_of wants (drop k ts))
  tail_exact ts =
      let h = head_exact (reverse ts) in
      let n = length-reverse ts in
      let k = length ts - h.0 in
      let e : h.0 ≡ length ts - k = omega (arith, h.1.within, n) in
      let same : curves_of wants (take h.0 (reverse ts)) ≡ curves_of wants (drop k ts) =
      ap (λ (m : ℕ). curves_of wants (take m (reverse ts))) e ∙ from_end ts k in (
        k,
        record {
          fits = omega (arith, h.1.fits, ap size same);
          longest = λ m f. omega (arith, h.1.longest (length ts - m) (omega (arith, n)) (omega (arith, ap size (from_end ts m))));
        },
        h.2 ∙ same,
      )

  pub tail_is : (ts : List ℕ) (k : ℕ) → LongestClosing wants places ts k → tail wants places ts ≡ curves_of wants (drop k ts)
  tail_is ts k c =
      let t = tail_exact ts in
      let e : t.0 ≡ k = omega (arith, c.longest t.0 t.1.fits, t.1.longest k c.fits) in
      t.2 ∙ ap (λ (n : ℕ). curves_of wants (drop n ts)) e

-- ---- flipping

-- of the first n numbers of ms, the one at place i is a greatest, and the earliest of these
pub record Earliest (ms : List ℕ) (n i : ℕ) : Type 0 where
  pub within : i < n
  pub most : (j : ℕ) → j < n → get_or ms j 0 ≤ get_or ms i 0
  pub earliest : (j : ℕ) → j < i → get_or ms j 0 < get_or ms i 0

only_earliest : (ms : List ℕ) (n i j : ℕ) → Earliest ms n i → Earliest ms n j → i ≡ j
only_earliest ms n i j a b = go (dec_lt i j) (dec_lt j i)
  where
    go : Dec (i < j) → Dec (j < i) → i ≡ j
    go (yes h) d = absurd (omega (arith, b.earliest i h, a.most j b.within))
    go (no h) (yes l) = absurd (omega (arith, a.earliest j l, b.most i a.within))
    go (no h) (no l) = omega arith

module _ (ms : List ℕ) (os : List (List ℕ)) where
  abbrev try_at : ℕ → Try
  try_at i = record { meeting = get_or ms i 0; order = get_or os i [] }

  -- x is the best of the first n tries
  abbrev BestTry : ℕ → Try → Type 0
  BestTry n x = (i : ℕ) × Earliest ms n i × (x ≡ try_at i)

  first_try : BestTry 1 (try_at 0)
  first_try = (
    0,
    record {
      within = omega arith;
      most = λ j l. let e : j
          ≡ 0 = omega arith in omega (arith, ap (λ (k : ℕ). get_or ms k 0) e);
      earliest = λ j l. absurd (omega arith);
    },
    refl,
  )

  next_try : (n : ℕ) (x : Try) → BestTry n x → BestTry (suc n) (x or_more try_at n)
  unfolding ◌or_more◌ pick_try
  next_try n x (i, b, e) = go (dec_lt x.meeting (get_or ms n 0))
    where
      same : x.meeting ≡ get_or ms i 0
      same = ap (λ (y : Try). y.meeting) e

      at_most : (s : ℕ) → get_or ms i 0 ≤ s → get_or ms n 0 ≤ s → (j : ℕ) → j < suc n → get_or ms j 0 ≤ s
      at_most s h g j l = below (ℕ_discrete j n)
        where
          below : Dec (j ≡ n) → get_or ms j 0 ≤ s
          below (yes d) = omega (arith, ap (λ (k : ℕ). get_or ms k 0) d)
          below (no d) = omega (arith, b.most j (omega arith))

      go : Dec (x.meeting < get_or ms n 0) → BestTry (suc n) (pick_try (ltb x.meeting (get_or ms n 0)) x (try_at n))
      go (yes h) = (
        n,
        record { within = omega arith; most = at_most (get_or ms n 0) (omega (arith, same)) (omega arith); earliest = λ j l. omega (arith, b.most j l, same) },
        rw (lt-ltb x.meeting (get_or ms n 0) h) refl,
      )
      go (no h) = (
        i,
        record { within = omega (arith, b.within); most = at_most (get_or ms i 0) (omega arith) (omega (arith, same)); earliest = b.earliest },
        rw (le-ltb x.meeting (get_or ms n 0) (omega arith)) e,
      )

-- "tail-head, tail-tail, head-head, head-tail (first package named first)": what the parts that meet have in common
abbrev pub meetings : List ℕ → ℕ → List ℕ → List ℕ → List ℕ
meetings wants places a b =
    common (tail wants places a) (head wants places b) ∷ common (tail wants places a) (tail wants places b) ∷ common (head wants places a) (head wants places b)
    ∷ common (head wants places a) (tail wants places b) ∷ []

-- "The first package is reversed if its head won, the second if its tail won."
abbrev pub orders : List ℕ → List ℕ → List (List ℕ)
orders a b = (a ++ b) ∷ (a ++ reverse b) ∷ (reverse a ++ b) ∷ (reverse a ++ reverse b) ∷ []

-- THE EARLIEST WITH MOST COMMON CURVES WINS: there is one, and the tests are in its order
module _ (wants : List ℕ) (places : ℕ) (a b : List ℕ) where
  pub flip_exact : (i : ℕ) × Earliest (meetings wants places a b) 4 i × (flipped wants places a b ≡ get_or (orders a b) i [])
  unfolding flipped try
  flip_exact =
      let ms = meetings wants places a b in
      let os = orders a b in
      let t = next_try ms os 3 _ (next_try ms os 2 _ (next_try ms os 1 _ (first_try ms os))) in
      (t.0, t.1, ap (λ (x : Try). x.order) t.2)

  pub flip_is : (i : ℕ) → Earliest (meetings wants places a b) 4 i → flipped wants places a b ≡ get_or (orders a b) i []
  flip_is i wins =
      let f = flip_exact in f.2 ∙ ap (λ (k : ℕ). get_or (orders a b) k []) (only_earliest (meetings wants places a b) 4 f.0 i f.1 wins)
