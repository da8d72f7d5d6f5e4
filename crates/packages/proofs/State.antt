-- The packages as the code holds them, and what a turn of a round does.
use mathlib.Core.Path.{◌≡◌, refl, sym, ap, ◌∙◌, subst}
use mathlib.Core.Bool.{Bool, true, false, ◌&&◌, cond}
use mathlib.Core.List.{List, [], ◌∷◌, ◌++◌, map, map-append, reverse, reverse-cons, append_assoc}
use Prim.Native.Nat.{ℕ, zero, suc, ◌+◌, ◌-◌, ◌^◌, ◌≤◌, ◌<◌}
use native.Mathlib.Omega.{arith}
use lib.ListN.{length, get_or, take, drop, set, length-append, length-drop, length-map, length-reverse, replicate, get_or-map}
use lib.Seq.{take_at, drop_at, set_at, split_at, get_or-drop, take-append-le, length-take-le, take-suc, take-length}
use lib.Dec.{leb, ltb}
use lib.Bits.{or_comm}
use borrow.Author.Tests.{le-leb}
use Rattle.bitset.specs.Set.{◌∪◌, size}
use Rattle.bitset.proofs.Bits.{same_by_bits, bit-∪, bit_empty}
use Rattle.bitset.proofs.Laws.{∪-assoc, ∪-lt, size_le}
use Rattle.job.specs.Refusal.{overwritten}
use Rattle.lists.specs.Choice.{Found, nobody, found, keep, choose, best_of}
use Rattle.std.specs.List.{sum}
use Rattle.packages.specs.Tests.{wants_of, up_to}
use Rattle.packages.specs.Packages.{flat, Pair, curves_of, eligible, closer, best_pair, without, joined, on_pair, closest, join_all, packages}
use Rattle.packages.specs.ContractWords.{at, joined_entry, joined_curves, fits_by, join_by, round_of, Laid, within}
use Rattle.packages.proofs.Rounds.{Good, InOrder, flipped_any, pair_good, length_joined, closest_good, singles, packages_long}
use Rattle.packages.proofs.Lists.{sum_lengths}
use Rattle.packages.proofs.Counts.{map_take, map_entries}
use Rattle.packages.proofs.Listed.{length_up_to}

-- ---- the curves of joined and of reversed packages

pub ∪-none : (s : ℕ) → 0 ∪ s ≡ s
∪-none s = same_by_bits (0 ∪ s) s (λ k. omega (arith, bit-∪ k 0 s, bit_empty k))

module _ (wants : List ℕ) where
  pub curves_append : (a b : List ℕ) → curves_of wants (a ++ b) ≡ curves_of wants a ∪ curves_of wants b
  unfolding curves_of
  curves_append [] b = sym (∪-none (curves_of wants b))
  curves_append (t ∷ a) b = ap (λ (u : ℕ). wants_of wants t ∪ u) (curves_append a b) ∙ sym (∪-assoc (wants_of wants t) (curves_of wants a) (curves_of wants b))

  one_curves : (t : ℕ) → curves_of wants (t ∷ []) ≡ wants_of wants t
  unfolding curves_of
  one_curves t = or_comm (wants_of wants t) 0 ∙ ∪-none (wants_of wants t)

  pub curves_reverse : (a : List ℕ) → curves_of wants (reverse a) ≡ curves_of wants a
  curves_reverse [] = refl
  curves_reverse (t ∷ a) =
      ap (curves_of wants) (reverse-cons t a) ∙ curves_append (reverse a) (t ∷ []) ∙ ap (λ (u : ℕ). u ∪ curves_of wants (t ∷ [])) (curves_reverse a)
      ∙ or_comm (curves_of wants a) (curves_of wants (t ∷ [])) ∙ sym (curves_append (t ∷ []) a)

  pub curves_lt : ((t : ℕ) → wants_of wants t < 2 ^ 64) → (a : List ℕ) → curves_of wants a < 2 ^ 64
  unfolding curves_of
  curves_lt h [] = omega arith
  curves_lt h (t ∷ a) = ∪-lt 64 (wants_of wants t) (curves_of wants a) (h t) (curves_lt h a)

  pub curves_map : (ps : List (List ℕ)) (k : ℕ) → get_or (map (curves_of wants) ps) k 0 ≡ curves_of wants (get_or ps k [])
  unfolding curves_of
  curves_map ps k = get_or-map (curves_of wants) ps k []

module _ (wants : List ℕ) (places : ℕ) (a b : List ℕ) where
  pub length_join : (flipping : Bool) → length (join_by flipping wants places a b) ≡ length a + length b
  length_join true =
      flipped_any wants places a b (λ (l : List ℕ). length l ≡ length a + length b) (length-append a b)
      (omega (arith, length-append a (reverse b), length-reverse b))
      (omega (arith, length-append (reverse a) b, length-reverse a)) (omega (arith, length-append (reverse a) (reverse b), length-reverse a, length-reverse b))
  length_join false = length-append a b

  pub curves_join : (flipping : Bool) → curves_of wants (join_by flipping wants places a b) ≡ curves_of wants a ∪ curves_of wants b
  curves_join true =
      flipped_any wants places a b (λ (l : List ℕ). curves_of wants l ≡ curves_of wants a ∪ curves_of wants b) (curves_append wants a b)
      (curves_append wants a (reverse b) ∙ ap (λ (u : ℕ). curves_of wants a ∪ u) (curves_reverse wants b))
      (curves_append wants (reverse a) b ∙ ap (λ (u : ℕ). u ∪ curves_of wants b) (curves_reverse wants a))
      (curves_append wants (reverse a) (reverse b) ∙ ap (λ (u : ℕ). u ∪ curves_of wants (reverse b)) (curves_reverse wants a)
      ∙ ap (λ (u : ℕ). curves_of wants a ∪ u) (curves_reverse wants b))
  curves_join false = curves_append wants a b

-- ---- lists of packages

pub flat_append : (ps qs : List (List ℕ)) → flat (ps ++ qs) ≡ flat ps ++ flat qs
unfolding flat
flat_append [] qs = refl
flat_append (p ∷ ps) qs = ap (λ (l : List ℕ). p ++ l) (flat_append ps qs) ∙ sym (append_assoc p (flat ps) (flat qs))

-- a number for each package, after a join
pub map_joined : (f : List ℕ → ℕ) (join : List ℕ → List ℕ → List ℕ) (ps : List (List ℕ)) (i j v : ℕ) → v ≡ f (join (get_or ps i []) (get_or ps j []))
    → map f (joined join ps (at i j)) ≡ joined_entry (map f ps) i j v
unfolding joined without
map_joined f join ps i j v e = map_entries f ps i j (join (get_or ps i []) (get_or ps j [])) ∙ ap (joined_entry (map f ps) i j) (sym e)

-- ps taken apart at the places i and j
pub record Split (ps : List (List ℕ)) (i j : ℕ) : Type 0 where
  pub pre : List (List ℕ)
  pub mid : List (List ℕ)
  pub post : List (List ℕ)
  pub parts : ps ≡ pre ++ (get_or ps i [] ∷ (mid ++ (get_or ps j [] ∷ post)))
  pub first : length pre ≡ i
  pub second : length (pre ++ (get_or ps i [] ∷ mid)) ≡ j

pub split : (ps : List (List ℕ)) (i j : ℕ) → i < j → j < length ps → Split ps i j
split ps i j h l =
    let d = drop (suc i) ps in
    let k = j - suc i in
    let n : k < length d = omega (arith, length-drop (suc i) ps) in
    let e : get_or d k [] ≡ get_or ps j [] = get_or-drop (suc i) ps k [] ∙ ap (λ (m : ℕ). get_or ps m []) (back i j h) in
    let f : length (take i ps) ≡ i = length-take-le i ps (omega arith) in
    record {
      pre = take i ps;
      mid = take k d;
      post = drop (suc k) d;
      parts = split_at ps i [] (omega arith)
          ∙ ap (λ (r : List (List ℕ)). take i ps ++ (get_or ps i [] ∷ r)) (split_at d k [] n ∙ ap (λ (p : List ℕ). take k d ++ (p ∷ drop (suc k) d)) e);
      first = f;
      second = omega (arith, length-append (take i ps) (get_or ps i [] ∷ take k d), f, length-take-le k d (omega arith));
    }
  where
    back : (i j : ℕ) → i < j → suc i + (j - suc i) ≡ j
    back i j h = omega arith

module _ (ps : List (List ℕ)) (i j : ℕ) (s : Split ps i j) where
  abbrev one : List ℕ
  one = get_or ps i []

  abbrev two : List ℕ
  two = get_or ps j []

  -- the tests of ps: those before, the first package, those between, the second, those behind
  pub flat_parts : flat ps ≡ flat s.pre ++ (one ++ (flat s.mid ++ (two ++ flat s.post)))
  unfolding flat
  flat_parts =
      ap flat s.parts ∙ flat_append s.pre (one ∷ (s.mid ++ (two ∷ s.post)))
      ∙ ap (λ (l : List ℕ). flat s.pre ++ (one ++ l)) (flat_append s.mid (two ∷ s.post))

  pub before_first : flat (take i ps) ≡ flat s.pre
  before_first = ap flat (ap (take i) s.parts ∙ take_at s.pre (one ∷ (s.mid ++ (two ∷ s.post))) i s.first)

  pub before_second : flat (take j ps) ≡ flat s.pre ++ (one ++ flat s.mid)
  unfolding flat
  before_second =
      ap flat (ap (take j) (s.parts ∙ sym (append_assoc s.pre (one ∷ s.mid) (two ∷ s.post)))
      ∙ take_at (s.pre ++ (one ∷ s.mid)) (two ∷ s.post) j s.second)
      ∙ flat_append s.pre (one ∷ s.mid)

  pub joined_parts : (join : List ℕ → List ℕ → List ℕ) → joined join ps (at i j) ≡ s.pre ++ (join one two ∷ (s.mid ++ s.post))
  unfolding joined without
  joined_parts join =
      let v = join one two in
      let qs = set ps i v in
      let set_is : qs ≡ (s.pre ++ (v ∷ s.mid)) ++ (two ∷ s.post) =
      ap (λ (l : List (List ℕ)). set l i v) s.parts ∙ set_at s.pre one (s.mid ++ (two ∷ s.post)) v i s.first
      ∙ sym (append_assoc s.pre (v ∷ s.mid) (two ∷ s.post)) in
      let n : length (s.pre ++ (v ∷ s.mid)) ≡ j = length-append s.pre (v ∷ s.mid) ∙ sym (length-append s.pre (one ∷ s.mid)) ∙ s.second in
      let front : take j qs ≡ s.pre ++ (v ∷ s.mid) = ap (take j) set_is ∙ take_at (s.pre ++ (v ∷ s.mid)) (two ∷ s.post) j n in
      let m : length ((s.pre ++ (v ∷ s.mid)) ++ (two ∷ [])) ≡ suc j = omega (arith, n, length-append (s.pre ++ (v ∷ s.mid)) (two ∷ [])) in
      let back : drop (suc j) qs ≡ s.post =
      ap (drop (suc j)) (set_is ∙ sym (append_assoc (s.pre ++ (v ∷ s.mid)) (two ∷ []) s.post))
      ∙ drop_at ((s.pre ++ (v ∷ s.mid)) ++ (two ∷ [])) s.post (suc j) m in
      ap (λ (l : List (List ℕ)). l ++ drop (suc j) qs) front ∙ ap (λ (l : List (List ℕ)). (s.pre ++ (v ∷ s.mid)) ++ l) back
      ∙ append_assoc s.pre (v ∷ s.mid) s.post

  pub flat_joined : (join : List ℕ → List ℕ → List ℕ) → flat (joined join ps (at i j)) ≡ flat s.pre ++ (join one two ++ (flat s.mid ++ flat s.post))
  unfolding flat
  flat_joined join =
      ap flat (joined_parts join) ∙ flat_append s.pre (join one two ∷ (s.mid ++ s.post))
      ∙ ap (λ (l : List ℕ). flat s.pre ++ (join one two ++ l)) (flat_append s.mid s.post)

-- the first entries but one of a list that was lent as far as n and came back as ys
pub prefix_back : (xs ys : List ℕ) (n m : ℕ) → m ≡ n → n ≤ length xs → length ys ≡ length (take n xs) → take (n - 1) (ys ++ drop n xs) ≡ take (m - 1) ys
prefix_back xs ys n m e h l =
    take-append-le (n - 1) ys (drop n xs) (omega (arith, l, length-take-le n xs h)) ∙ ap (λ (k : ℕ). take (k - 1) ys) (sym e)

-- ---- the rounds

module _ (wants : List ℕ) (fits : ℕ → Bool) (join : List ℕ → List ℕ → List ℕ) (ps : List (List ℕ)) where
  pub round_joins : (q : Pair) → closest wants fits join ps ≡ found q
      → join_all wants fits join (length ps) ps ≡ join_all wants fits join (length (joined join ps q)) (joined join ps q)
  round_joins q e =
      let g : InOrder (length ps) q = subst (Good (InOrder (length ps))) e (closest_good wants fits join ps) in
      ap (λ (n : ℕ). join_all wants fits join n ps) (sym (length_joined join ps q g)) ∙ go (length (joined join ps q))
    where
      go : (k : ℕ) → join_all wants fits join (suc k) ps ≡ join_all wants fits join k (joined join ps q)
      go k = unfold join_all on_pair in rw e refl

  pub round_stops : closest wants fits join ps ≡ nobody → join_all wants fits join (length ps) ps ≡ ps
  round_stops e = go (length ps)
    where
      go : (k : ℕ) → join_all wants fits join k ps ≡ ps
      go zero = unfold join_all in refl
      go (suc k) = unfold join_all on_pair in rw e refl

-- a pair is eligible by one test where it is by another
module _ (f g : ℕ → Bool) (cs : List ℕ) (h : (i j : ℕ) → f (get_or cs i 0 ∪ get_or cs j 0) ≡ g (get_or cs i 0 ∪ get_or cs j 0)) where
  same_choice : (x : Pair) (b : Found Pair) → choose (eligible f cs) (closer cs) x b ≡ choose (eligible g cs) (closer cs) x b
  unfolding choose
  same_choice x nobody = ap (λ (t : Bool). keep (ltb x.first x.second && t) x nobody) (h x.first x.second)
  same_choice x (found y) = ap (λ (t : Bool). keep ((ltb x.first x.second && t) && closer cs x y) x (found y)) (h x.first x.second)

  same_row : (n m : ℕ) (b : Found Pair) → best_of (eligible f cs) (closer cs) (λ j. at n j) m b ≡ best_of (eligible g cs) (closer cs) (λ j. at n j) m b
  unfolding best_of
  same_row n zero b = refl
  same_row n (suc m) b =
      same_choice (at n m) (best_of (eligible f cs) (closer cs) (λ j. at n j) m b) ∙ ap (choose (eligible g cs) (closer cs) (at n m)) (same_row n m b)

  pub same_pairs : (n : ℕ) → best_pair f cs n ≡ best_pair g cs n
  unfolding best_pair
  same_pairs zero = refl
  same_pairs (suc n) = same_row n (length cs) (best_pair f cs n) ∙ ap (best_of (eligible g cs) (closer cs) (λ j. at n j) (length cs)) (same_pairs n)

-- ---- "Each test begins as a package, in list order"

-- the order after the tests were listed in it
pub listed_first : (n : ℕ) (old order : List ℕ) → order ≡ overwritten (up_to n) old → order ≡ up_to n ++ drop n old
unfolding overwritten
listed_first n old order listed = listed ∙ ap (λ (k : ℕ). up_to n ++ drop k old) (length_up_to n)

abbrev pub first_packages : List ℕ → List (List ℕ)
first_packages wants = map (λ t. t ∷ []) (up_to (length wants))

module _ (wants : List ℕ) where
  single_lengths : (ts : List ℕ) (n : ℕ) → length ts ≡ n → map length (map (λ t. t ∷ []) ts) ≡ replicate n 1
  single_lengths [] zero e = refl
  single_lengths [] (suc n) e = absurd (omega (arith, e))
  single_lengths (t ∷ ts) zero e = absurd (omega (arith, e))
  single_lengths (t ∷ ts) (suc n) e = ap (λ (l : List ℕ). 1 ∷ l) (single_lengths ts n (omega (arith, e)))

  single_curves : (n : ℕ) → n ≤ length wants → map (curves_of wants) (map (λ t. t ∷ []) (up_to n)) ≡ take n wants
  unfolding up_to
  single_curves zero h = refl
  single_curves (suc n) h =
      ap (λ (l : List (List ℕ)). map (curves_of wants) l) (map-append (λ t. t ∷ []) (up_to n) (n ∷ []))
      ∙ map-append (curves_of wants) (map (λ t. t ∷ []) (up_to n)) ((n ∷ []) ∷ [])
      ∙ ap (λ (l : List ℕ). l ++ (curves_of wants (n ∷ []) ∷ [])) (single_curves n (omega arith))
      ∙ ap (λ (u : ℕ). take n wants ++ (u ∷ [])) (one_curves wants n) ∙ sym (take-suc wants n 0 (omega arith))

  pub first_laid : (rest tests lengths : List ℕ) → tests ≡ up_to (length wants) ++ rest → lengths ≡ replicate (length wants) 1
      → Laid (first_packages wants) rest tests lengths
  first_laid rest tests lengths t l =
      let n = length wants in
      record {
        all = t ∙ ap (λ (l : List ℕ). l ++ rest) (sym (singles (up_to n)));
        lens = l ∙ sym (single_lengths (up_to n) n (length_up_to n));
      }

  pub first_sets : wants ≡ map (curves_of wants) (first_packages wants)
  first_sets = sym (single_curves (length wants) (omega arith) ∙ take-length wants)

  -- both rounds: the rule's order
  pub both_rounds : (places : ℕ) (old tests lengths : List ℕ)
      → Laid (round_of true wants places (round_of false wants places (first_packages wants))) (drop (length wants) old) tests lengths
      → tests ≡ overwritten (packages places wants) old
  unfolding overwritten packages
  both_rounds places old tests lengths laid =
      laid.all ∙ ap (λ (n : ℕ). packages places wants ++ drop n old) (sym (packages_long places wants))

-- ---- a turn of a round

-- what is left of a round that began with ps: packages qs from which the round comes to the same
pub record Left (flipping : Bool) (wants : List ℕ) (places : ℕ) (ps : List (List ℕ)) (rest tests lengths curves : List ℕ) : Type 0 where
  pub qs : List (List ℕ)
  pub laid : Laid qs rest tests lengths
  pub sets : curves ≡ map (curves_of wants) qs
  pub goes : round_of flipping wants places ps ≡ round_of flipping wants places qs

pub in_order : (fits : ℕ → Bool) (cs : List ℕ) (i j : ℕ) → best_pair fits cs (length cs) ≡ found (at i j) → (i < j) × (j < length cs)
in_order fits cs i j e = subst (Good (InOrder (length cs))) e (pair_good fits cs (length cs))

module _ {flipping : Bool} {wants : List ℕ} {places : ℕ} {ps : List (List ℕ)} {rest tests lengths curves : List ℕ}
    (s : Left flipping wants places ps rest tests lengths curves)
    (small : (t : ℕ) → wants_of wants t < 2 ^ 64) (bound : ℕ) (bounded : bound ≡ cond flipping 64 places) where
  small_at : (i : ℕ) → get_or curves i 0 < 2 ^ 64
  small_at i =
      subst (λ (n : ℕ). n < 2 ^ 64) (sym (ap (λ (l : List ℕ). get_or l i 0) s.sets ∙ curves_map wants s.qs i)) (curves_lt wants small (get_or s.qs i []))

  same_fits : (f : Bool) → bound ≡ cond f 64 places → (i j : ℕ)
      → fits_by f places (get_or curves i 0 ∪ get_or curves j 0) ≡ within bound (get_or curves i 0 ∪ get_or curves j 0)
  same_fits true e i j =
      let x = get_or curves i 0 in
      let y = get_or curves j 0 in
      sym (le-leb (size (x ∪ y)) bound (omega (arith, e, size_le 64 (x ∪ y) (∪-lt 64 x y (small_at i) (small_at j)))))
  same_fits false e i j = ap (leb (size (get_or curves i 0 ∪ get_or curves j 0))) (sym e)

  -- the closest pair that the code finds is the rule's
  closest_as : (b : Found Pair) → best_pair (within bound) curves (length curves) ≡ b
      → closest wants (fits_by flipping places) (join_by flipping wants places) s.qs ≡ b
  closest_as b pair =
      ap (λ (l : List ℕ). best_pair (fits_by flipping places) l (length s.qs)) (sym s.sets)
      ∙ ap (best_pair (fits_by flipping places) curves) (sym (ap length s.sets ∙ length-map s.qs (curves_of wants)))
      ∙ same_pairs (fits_by flipping places) (within bound) curves (same_fits flipping bounded) (length curves) ∙ pair

  pub left_end : best_pair (within bound) curves (length curves) ≡ nobody
      → Laid (round_of flipping wants places ps) rest tests lengths × (curves ≡ map (curves_of wants) (round_of flipping wants places ps))
  left_end none =
      let done : round_of flipping wants places ps ≡ s.qs =
      s.goes ∙ round_stops wants (fits_by flipping places) (join_by flipping wants places) s.qs (closest_as nobody none) in
      (subst (λ (l : List (List ℕ)). Laid l rest tests lengths) (sym done) s.laid, s.sets ∙ ap (λ (l : List (List ℕ)). map (curves_of wants) l) (sym done))

  pub left_join : (i j : ℕ) → best_pair (within bound) curves (length curves) ≡ found (at i j) → (tests' lengths' curves' : List ℕ)
      → ((qs : List (List ℕ)) (rest : List ℕ) → Laid qs rest tests lengths → Laid (joined (join_by flipping wants places) qs (at i j)) rest tests' lengths')
      → curves' ≡ joined_curves curves i j → Left flipping wants places ps rest tests' lengths' curves'
  left_join i j pair tests' lengths' curves' made c =
      let join = join_by flipping wants places in
      let x = get_or s.qs i [] in
      let y = get_or s.qs j [] in
      let at_is : (k : ℕ) → get_or curves k 0 ≡ curves_of wants (get_or s.qs k []) =
      λ k. ap (λ (l : List ℕ). get_or l k 0) s.sets ∙ curves_map wants s.qs k in
      let u = get_or curves i 0 ∪ get_or curves j 0 in
      let e : u ≡ curves_of wants (join x y) =
      ap (λ (n : ℕ). n ∪ get_or curves j 0) (at_is i) ∙ ap (λ (n : ℕ). curves_of wants x ∪ n) (at_is j) ∙ sym (curves_join wants places x y flipping) in
      record {
        qs = joined join s.qs (at i j);
        laid = made s.qs rest s.laid;
        sets = c ∙ ap (λ (ls : List ℕ). joined_entry ls i j u) s.sets ∙ sym (map_joined (curves_of wants) join s.qs i j u e);
        goes = s.goes ∙ round_joins wants (fits_by flipping places) join s.qs (at i j) (closest_as (found (at i j)) pair);
      }

-- ---- a join of two packages, with the code's numbers: the lengths of the two, where the first begins and where the second ends

module _ {ps : List (List ℕ)} {rest tests lengths : List ℕ} (laid : Laid ps rest tests lengths) (i j : ℕ) (h : i < j) (l : j < length lengths) (a b from to : ℕ)
    (first : a ≡ get_or lengths i 0) (second : b ≡ get_or lengths j 0) (start : from ≡ sum (take i lengths)) (end : to ≡ sum (take j lengths) + b) where
  long_at : (k : ℕ) → length (get_or ps k []) ≡ get_or lengths k 0
  long_at k = sym (ap (λ (l : List ℕ). get_or l k 0) laid.lens ∙ get_or-map length ps k [])

  sum_to : (k : ℕ) → sum (take k lengths) ≡ length (flat (take k ps))
  sum_to k = ap sum (ap (take k) laid.lens ∙ sym (map_take length k ps)) ∙ sum_lengths (take k ps)

  parts : Split ps i j
  parts = split ps i j h (omega (arith, l, ap length laid.lens, length-map ps length))

  first_long : length (get_or ps i []) ≡ a
  first_long = long_at i ∙ sym first

  second_long : length (get_or ps j []) ≡ b
  second_long = long_at j ∙ sym second

  begin : length (flat parts.pre) ≡ from
  begin = sym (start ∙ sum_to i ∙ ap length (before_first ps i j parts))

  span : to ≡ from + (a + (length (flat parts.mid) + b))
  span =
      let p = flat parts.pre in
      let m = flat parts.mid in
      let x = get_or ps i [] in
      omega (arith, end, sum_to j, ap length (before_second ps i j parts), length-append p (x ++ m), length-append x m, first_long, begin)

  part_long : length (get_or ps i [] ++ (flat parts.mid ++ get_or ps j [])) ≡ to - from
  part_long =
      let m = flat parts.mid in
      let x = get_or ps i [] in
      let y = get_or ps j [] in
      omega (arith, length-append x (m ++ y), length-append m y, first_long, second_long, span)

  tests_are : tests ≡ flat parts.pre ++ ((get_or ps i [] ++ (flat parts.mid ++ get_or ps j [])) ++ (flat parts.post ++ rest))
  tests_are = laid.all ∙ ap (λ (l : List ℕ). l ++ rest) (flat_parts ps i j parts) ∙ simp append_assoc

  from_first : drop from tests ≡ (get_or ps i [] ++ (flat parts.mid ++ get_or ps j [])) ++ (flat parts.post ++ rest)
  from_first = ap (drop from) tests_are ∙ drop_at (flat parts.pre) _ from begin

  part_is : take (to - from) (drop from tests) ≡ get_or ps i [] ++ (flat parts.mid ++ get_or ps j [])
  part_is = ap (take (to - from)) from_first ∙ take_at _ (flat parts.post ++ rest) (to - from) part_long

  pub laid_join : (flipping : Bool) (wants : List ℕ) (places : ℕ) (new tests' lengths' : List ℕ)
      → ((x y z : List ℕ) → take (to - from) (drop from tests) ≡ x ++ (y ++ z) → length x ≡ a → length z ≡ b → new ≡ join_by flipping wants places x z ++ y)
      → tests' ≡ take from tests ++ (new ++ drop (to - from) (drop from tests)) → lengths' ≡ joined_entry lengths i j (a + b)
      → Laid (joined (join_by flipping wants places) ps (at i j)) rest tests' lengths'
  laid_join flipping wants places new tests' lengths' made t c =
      let join = join_by flipping wants places in
      let p = flat parts.pre in
      let m = flat parts.mid in
      let q = flat parts.post in
      let x = get_or ps i [] in
      let y = get_or ps j [] in
      let new_is : new ≡ join x y ++ m = made x m y part_is first_long second_long in
      let behind : drop (to - from) (drop from tests) ≡ q ++ rest =
      ap (drop (to - from)) from_first ∙ drop_at (x ++ (m ++ y)) (q ++ rest) (to - from) part_long in
      let before : take from tests ≡ p = ap (take from) tests_are ∙ take_at p ((x ++ (m ++ y)) ++ (q ++ rest)) from begin in
      let flat_is : flat (joined join ps (at i j)) ≡ p ++ (join x y ++ (m ++ q)) = flat_joined ps i j parts join in
      record {
        all = t ∙ ap (λ (k : List ℕ). k ++ (new ++ drop (to - from) (drop from tests))) before
            ∙ ap (λ (k : List ℕ). p ++ (k ++ drop (to - from) (drop from tests))) new_is
            ∙ ap (λ (k : List ℕ). p ++ ((join x y ++ m) ++ k)) behind ∙ sym (ap (λ (k : List ℕ). k ++ rest) flat_is ∙ simp append_assoc);
        lens = c ∙ ap (λ (ls : List ℕ). joined_entry ls i j (a + b)) laid.lens
            ∙ sym (map_joined length join ps i j (a + b) (omega (arith, length_join wants places x y flipping, first_long, second_long)));
      }
