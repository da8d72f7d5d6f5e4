-- The furthest next use, whatever the tie rule, is a good choice: so our plan passes the check, its load count is the least, and under 01's tie rule it would
-- be the same.
use mathlib.Core.Path.{◌≡◌, refl, sym, ap, ◌∙◌}
use mathlib.Core.Bool.{Bool, true, false, not, false≢true}
use mathlib.Core.List.{List, [], ◌∷◌}
use Prim.Native.Nat.{ℕ, zero, suc, ◌^◌, ◌≤◌, ◌<◌, zero-le, max}
use native.Mathlib.Nat.{zero-max}
use native.Mathlib.Omega.{arith}
use native.Mathlib.Decide.{dec_le}
use lib.Dec.{eqb}
use lib.Pow.{ones_lt}
use lib.ListN.{length, get_or}
use borrow.Author.Tests.{ltb-true, ltb-false, le-ltb, eqb-true, eqb-false, eq-eqb, not-true, not-false}
use Rattle.std.specs.Prelude.{Ok}
use Rattle.bitset.specs.Set.{bit, below}
use Rattle.bitset.proofs.Bits.{bit-∪, bit_empty, same_by_bits}
use Rattle.bitset.proofs.Element.{∈-lt}
use Rattle.bitset.proofs.Parts.{◌≼◌, in_range}
use Rattle.lists.specs.Choice.{Found, nobody, found}
use Rattle.lists.proofs.Chosen.{Taken, TakenOf, taken_of}
use Rattle.drive.specs.declared.choice.NextUse.{NextUse}
use Rattle.drive.specs.declared.choice.NextUse.TheVariants.{At, Never}
use Rattle.drive.specs.declared.Sets.{Sets}
use Rattle.drive.specs.Steps.{Move, held_after, wants_of, sets_of, load_count}
use Rattle.drive.specs.Check.{check_from}
use Rattle.drive.specs.Uses.{later, use_by, next_use, further, not_nearer}
use Rattle.drive.specs.Plan.{chosen_by, furthest, furthest_lowest, plan_from}
use Rattle.drive.proofs.CheckExact.{AllKept, check_exact}
use Rattle.drive.proofs.Moves.{moves_of, sets_of_lem, length_plan}
use Rattle.drive.proofs.Holdings.{AllFit}
use Rattle.drive.proofs.Fewest.{soon, PickedOf, Good, Least, least_same, our_steps, fewest, count_least}

-- ---- uses within the next k steps: 1 or 0

within : ℕ → NextUse → ℕ
within zero u = 0
within (suc k) Never = 0
within (suc k) (At zero) = 1
within (suc k) (At (suc m)) = within k (At m)

within_never : (k : ℕ) → within k Never ≡ 0
unfolding within
within_never zero = refl
within_never (suc k) = refl

within_le : (k : ℕ) (u : NextUse) → within k u ≤ 1
unfolding within
within_le zero u = zero-le
within_le (suc k) Never = zero-le
within_le (suc k) (At zero) = omega arith
within_le (suc k) (At (suc m)) = within_le k (At m)

within_step : (k d : ℕ) (u : NextUse) → d ≤ 1 → max d (within k u) ≡ within (suc k) (use_by d u)
unfolding within use_by later
within_step k zero Never h = omega (arith, within_never k)
within_step k zero (At m) h = zero-max (within k (At m))
within_step k (suc d) u h = omega (arith, within_le k u)

has_soon : (k : ℕ) (ws : List ℕ) (c : ℕ) → bit c (soon k ws) ≡ within k (next_use c ws)
unfolding soon next_use within
has_soon zero ws c = bit_empty c
has_soon (suc k) [] c = bit_empty c
has_soon (suc k) (w ∷ ws) c = bit-∪ c w (soon k ws) ∙ ap (max (bit c w)) (has_soon k ws c) ∙ within_step k (bit c w) (next_use c ws) (omega arith)

within_order : (k m n : ℕ) → m ≤ n → within k (At n) ≤ within k (At m)
unfolding within
within_order zero m n h = zero-le
within_order (suc k) zero n h = within_le (suc k) (At n)
within_order (suc k) (suc m) zero h = absurd (omega arith)
within_order (suc k) (suc m) (suc n) h = within_order k m n (omega arith)

within_further : (k : ℕ) (a b : NextUse) → further a b ≡ false → within k b ≤ within k a
unfolding further
within_further k Never Never f = omega arith
within_further k Never (At n) f = absurd (false≢true (sym f))
within_further k (At m) Never f = omega (arith, within_never k)
within_further k (At m) (At n) f = within_order k m n (ltb-false n m f)

-- ---- how next uses compare

pub further_self : (a : NextUse) → further a a ≡ false
unfolding further
further_self Never = refl
further_self (At m) = le-ltb m m (omega arith)

-- not both ways
pub further_back : (a b : NextUse) → further a b ≡ true → further b a ≡ false
unfolding further
further_back Never Never p = absurd (false≢true p)
further_back Never (At n) p = refl
further_back (At m) Never p = absurd (false≢true p)
further_back (At m) (At n) p = le-ltb m n (omega (arith, ltb-true n m p))

further_through : (a b c : NextUse) → further a b ≡ false → further b c ≡ false → further a c ≡ false
unfolding further
further_through Never Never c p q = q
further_through Never (At n) Never p q = refl
further_through Never (At n) (At k) p q = absurd (false≢true (sym p))
further_through (At m) b Never p q = refl
further_through (At m) Never (At k) p q = absurd (false≢true (sym q))
further_through (At m) (At n) (At k) p q = le-ltb k m (omega (arith, ltb-false n m p, ltb-false k n q))

further_over : (a b c : NextUse) → further b c ≡ true → further a c ≡ false → further b a ≡ true
further_over a b c p q = go (further b a) refl
  where
    go : (t : Bool) → further b a ≡ t → t ≡ true
    go true e = refl
    go false e = absurd (false≢true (sym (further_through b a c e q) ∙ p))

-- ---- tie rules

-- what is asked of a rule by which a curve takes the place of a lower one: it compares, and a nearer next use neither takes the place nor keeps it
pub record TieRule (takes : NextUse → NextUse → Bool) : Type 0 where
  pub trans : (a b c : NextUse) → takes b c ≡ true → takes c a ≡ true → takes b a ≡ true
  pub more : (a b c : NextUse) → takes b c ≡ true → takes a c ≡ false → takes b a ≡ true
  pub takes_it : (a b : NextUse) → takes a b ≡ true → further b a ≡ false
  pub leaves_it : (a b : NextUse) → takes a b ≡ false → further a b ≡ false

-- ties to the lowest curve
lowest : TieRule further
lowest =
    record {
      trans = λ a b c p q. further_over a b c p (further_back c a q);
      more = further_over;
      takes_it = further_back;
      leaves_it = λ a b p. p;
    }

-- ties to the highest
pub highest : TieRule not_nearer
highest =
    record {
      trans = λ a b c p q. ap not (further_through a c b (not-true _ q) (not-true _ p));
      more = λ a b c p q. ap not (further_through a c b (further_back c a (not-false _ q)) (not-true _ p));
      takes_it = λ a b p. not-true _ p;
      leaves_it = λ a b p. further_back b a (not-false _ p);
    }

-- ---- among n curves
module _ (n : ℕ) where
  pub below_n : (cs : ℕ) → cs ≼ below n → (c : ℕ) → bit c cs ≡ 1 → c < n
  below_n cs s c e = ∈-lt c n (below n) (omega (arith, s c)) (ones_lt n)

  -- ---- by any tie rule
  module _ (takes : NextUse → NextUse → Bool) (rule : TieRule takes) where
    abbrev takes? : List ℕ → ℕ → ℕ → Bool
    takes? ws b c = takes (next_use b ws) (next_use c ws)

    pub taken_by : (cs : ℕ) (ws : List ℕ) → TakenOf (λ c. eqb (bit c cs) 1) (takes? ws) n (chosen_by takes n cs ws)
    unfolding chosen_by
    taken_by cs ws =
        taken_of (λ c. eqb (bit c cs) 1) (takes? ws)
        (record {
          trans = λ x y z. rule.trans (next_use x ws) (next_use y ws) (next_use z ws);
          more = λ x y z. rule.more (next_use x ws) (next_use y ws) (next_use z ws);
        })
        n

    -- no candidate's next use is further
    pub none_further : (cs v : ℕ) (ws : List ℕ) → cs ≼ below n → Taken (λ c. eqb (bit c cs) 1) (takes? ws) n v → (c : ℕ) → bit c cs ≡ 1
        → further (next_use c ws) (next_use v ws) ≡ false
    none_further cs v ws s t c o = go (dec_le c v) (dec_le v c)
      where
        go : Dec (c ≤ v) → Dec (v ≤ c) → further (next_use c ws) (next_use v ws) ≡ false
        go (yes p) (yes q) = let e : c ≡ v = omega arith in rw e (further_self (next_use v ws))
        go (yes p) (no q) = rule.takes_it (next_use v ws) (next_use c ws) (t.before c (omega arith) (eq-eqb (bit c cs) 1 o))
        go (no p) q = rule.leaves_it (next_use c ws) (next_use v ws) (t.behind c (below_n cs s c o) (omega arith) (eq-eqb (bit c cs) 1 o))

    picked : (cs : ℕ) (ws : List ℕ) → cs ≼ below n → (b : Found ℕ) → TakenOf (λ c. eqb (bit c cs) 1) (takes? ws) n b → PickedOf cs ws b
    picked cs ws s nobody b = same_by_bits cs 0 (λ c. go c (bit c cs) refl)
      where
        go : (c d : ℕ) → bit c cs ≡ d → bit c cs ≡ bit c 0
        go c zero e = omega (arith, bit_empty c)
        go c (suc d) e = let o : bit c cs ≡ 1 = omega arith in absurd (eqb-false (bit c cs) 1 (b c (below_n cs s c o)) o)
    picked cs ws s (found v) b = record { member = eqb-true (bit v cs) 1 b.fair; last = λ k i c. go k i c (bit c cs) refl }
      where
        go : (k : ℕ) → bit v (soon k ws) ≡ 1 → (c d : ℕ) → bit c cs ≡ d → bit c cs ≤ bit c (soon k ws)
        go k i c zero e = omega arith
        go k i c (suc d) e =
            omega (
              arith,
              has_soon k ws c,
              has_soon k ws v,
              within_further k (next_use c ws) (next_use v ws) (none_further cs v ws s b c (omega arith)),
            )

    good_by : Good (below n) (chosen_by takes n)
    good_by cs ws s = picked cs ws s (chosen_by takes n cs ws) (taken_by cs ws)

  -- ---- by ours, and by 01's

  pub good : Good (below n) (furthest n)
  unfolding furthest
  good = good_by not_nearer highest

  good_lowest : Good (below n) (furthest_lowest n)
  unfolding furthest_lowest
  good_lowest = good_by further lowest

  -- ---- THE THEOREMS: h held at first, and wants ws in the order of the steps, the first of which is step i
  module _ (capacity h : ℕ) (start : h ≼ below n) where
    module _ (ws : List ℕ) (fit : AllFit capacity (below n) ws) where
      abbrev plan : List Sets
      plan = plan_from (furthest n) capacity h ws

      -- our plan passes the check
      pub furthest_passes : (i : ℕ) → check_from capacity (below n) i h (moves_of ws plan) ≡ Ok (held_after h plan)
      furthest_passes i =
          rw (sets_of_lem ws plan (length_plan (furthest n) capacity h ws)) at
          ((check_exact capacity (below n) i h (moves_of ws plan)).1 (our_steps (below n) (furthest n) good capacity h ws start fit))

    -- no moves that keep the rules have fewer loads than our plan for their wants
    pub furthest_is_fewest : {ms : List Move} → AllKept capacity (below n) h ms
        → load_count (plan_from (furthest n) capacity h (wants_of ms)) ≤ load_count (sets_of ms)
    furthest_is_fewest k = fewest (below n) (furthest n) good capacity start k

    module _ (ws : List ℕ) (own : (i : ℕ) → i < length ws → get_or ws i 0 ≼ below n) where
      -- our load count is the least
      pub furthest_least : Least capacity (below n) h ws (load_count (plan_from (furthest n) capacity h ws))
      furthest_least = count_least (below n) (furthest n) good capacity h ws start own

      -- and so is that under 01's tie rule
      furthest_lowest_least : Least capacity (below n) h ws (load_count (plan_from (furthest_lowest n) capacity h ws))
      furthest_lowest_least = count_least (below n) (furthest_lowest n) good_lowest capacity h ws start own

-- WISH 2, "Load counts are proved the same under either tie rule": for every list of sets of n curves, whatever of them is held at first, and every capacity,
-- also one that a step's wants exceed
pub either_tie : (n capacity h : ℕ) (ws : List ℕ) → h < 2 ^ n → ((i : ℕ) → i < length ws → get_or ws i 0 < 2 ^ n)
    → load_count (plan_from (furthest_lowest n) capacity h ws) ≡ load_count (plan_from (furthest n) capacity h ws)
either_tie n capacity h ws start own =
    let s = in_range n h start in
    let o : (i : ℕ) → i < length ws → get_or ws i 0 ≼ below n = λ i l. in_range n (get_or ws i 0) (own i l) in
    least_same (furthest_lowest_least n capacity h s ws o) (furthest_least n capacity h s ws o)
