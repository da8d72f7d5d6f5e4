-- Method 3: its rounds end where no pair is left, so with one package; and its order names each test exactly once.
use mathlib.Core.Path.{◌≡◌, refl, ap, ◌∙◌, subst}
use mathlib.Core.Bool.{Bool, true, false, ◌&&◌}
use mathlib.Core.List.{List, [], ◌∷◌, ◌++◌, map, reverse}
use Prim.Native.Nat.{ℕ, zero, suc, ◌+◌, ◌≤◌, ◌<◌}
use native.Mathlib.Omega.{arith}
use native.Mathlib.Decide.{ℕ_discrete, dec_le}
use lib.ListN.{length, get_or, take, drop, set, length-append, length-take, length-drop, length-set, length-map}
use lib.Seq.{set_split, split_at, get_or-set_other}
use lib.Dec.{leb, ltb}
use borrow.Author.Tests.{ltb-true}
use Rattle.bitset.specs.Set.{size}
use Rattle.lists.proofs.Tests.{both}
use Rattle.lists.specs.Choice.{Found, nobody, found, keep, choose, best_of}
use Rattle.job.specs.Words.{count, IsOrder}
use Rattle.job.proofs.Orders.{count_append, count_reverse, order_length}
use Rattle.packages.specs.Tests.{up_to}
use Rattle.packages.specs.Packages.{Try, try, pick_try, ◌or_more◌, flat, Pair, curves_of, eligible, closer, best_pair, without, joined, closest, on_pair}
use Rattle.packages.specs.Packages.{join_all, flipped, second_round, packages}
use Rattle.packages.proofs.Listed.{up_to_order}

-- ---- what is found

abbrev pub Good : {A : Type 0} → (A → Type 0) → Found A → Type 0
Good P nobody = Unit {0}
Good P (found x) = P x

abbrev Some : {A : Type 0} → Found A → Type 0
Some nobody = ⊥
Some (found x) = Unit {0}

module _ {A : Type 0} (fair : A → Bool) (better : A → A → Bool) where
  keep_good : (P : A → Type 0) (b : Bool) (x : A) (y : Found A) → (b ≡ true → P x) → Good P y → Good P (keep b x y)
  unfolding keep
  keep_good P true x y h g = h refl
  keep_good P false x y h g = g

  choose_good : (P : A → Type 0) (x : A) (y : Found A) → (fair x ≡ true → P x) → Good P y → Good P (choose fair better x y)
  unfolding choose
  choose_good P x nobody h g = keep_good P (fair x) x nobody h g
  choose_good P x (found y) h g = keep_good P (fair x && better x y) x (found y) (λ e. h (both (fair x) (better x y) e).0) g

  best_good : (P : A → Type 0) (f : ℕ → A) (n : ℕ) (y : Found A) → ((j : ℕ) → j < n → fair (f j) ≡ true → P (f j)) → Good P y
      → Good P (best_of fair better f n y)
  unfolding best_of
  best_good P f zero y h g = g
  best_good P f (suc n) y h g = choose_good P (f n) (best_of fair better f n y) (h n (omega arith)) (best_good P f n y (λ j l. h j (omega arith)) g)

  keep_some : (b : Bool) (x y : A) → Some (keep b x (found y))
  unfolding keep
  keep_some true x y = tt
  keep_some false x y = tt

  choose_some : (x : A) (y : Found A) → Some y → Some (choose fair better x y)
  unfolding choose
  choose_some x nobody s = absurd s
  choose_some x (found y) s = keep_some (fair x && better x y) x y

  choose_fair : (x : A) (y : Found A) → fair x ≡ true → Some (choose fair better x y)
  unfolding choose keep
  choose_fair x nobody e = rw e tt
  choose_fair x (found y) e = keep_some (fair x && better x y) x y

  best_some : (f : ℕ → A) (n : ℕ) (y : Found A) → Some y → Some (best_of fair better f n y)
  unfolding best_of
  best_some f zero y s = s
  best_some f (suc n) y s = choose_some (f n) (best_of fair better f n y) (best_some f n y s)

  best_fair : (f : ℕ → A) (n : ℕ) (y : Found A) (j : ℕ) → j < n → fair (f j) ≡ true → Some (best_of fair better f n y)
  unfolding best_of
  best_fair f zero y j l e = absurd (omega arith)
  best_fair f (suc n) y j l e = go (ℕ_discrete j n) (best_fair f n y j)
    where
      go : Dec (j ≡ n) → (j < n → fair (f j) ≡ true → Some (best_of fair better f n y)) → Some (choose fair better (f n) (best_of fair better f n y))
      go (yes q) ih = choose_fair (f n) (best_of fair better f n y) (subst (λ (i : ℕ). fair (f i) ≡ true) q e)
      go (no q) ih = choose_some (f n) (best_of fair better f n y) (ih (omega arith) e)

-- ---- the pair

abbrev pub InOrder : ℕ → Pair → Type 0
InOrder n q = (q.first < q.second) × (q.second < n)

module _ (fits : ℕ → Bool) (cs : List ℕ) where
  pub pair_good : (i : ℕ) → Good (InOrder (length cs)) (best_pair fits cs i)
  unfolding best_pair
  pair_good zero = tt
  pair_good (suc i) =
      best_good (eligible fits cs) (closer cs) (InOrder (length cs)) (λ j. record { first = i; second = j }) (length cs) (best_pair fits cs i)
      (λ j l e. (ltb-true i j (both (ltb i j) _ e).0, l)) (pair_good i)

  pair_some : (i j k : ℕ) → i < k → j < length cs → eligible fits cs (record { first = i; second = j }) ≡ true → Some (best_pair fits cs k)
  unfolding best_pair
  pair_some i j zero l m e = absurd (omega arith)
  pair_some i j (suc k) l m e = go (ℕ_discrete i k) (pair_some i j k)
    where
      go : Dec (i ≡ k) → (i < k → j < length cs → eligible fits cs (record { first = i; second = j }) ≡ true → Some (best_pair fits cs k))
          → Some (best_of (eligible fits cs) (closer cs) (λ j. record { first = k; second = j }) (length cs) (best_pair fits cs k))
      go (yes q) ih =
          best_fair (eligible fits cs) (closer cs) (λ j. record { first = k; second = j }) (length cs) (best_pair fits cs k) j m
          (subst (λ (x : ℕ). eligible fits cs (record { first = x; second = j }) ≡ true) q e)
      go (no q) ih = best_some (eligible fits cs) (closer cs) (λ j. record { first = k; second = j }) (length cs) (best_pair fits cs k) (ih (omega arith) m e)

-- ---- a join

count_flat : (t : ℕ) (a b : List (List ℕ)) → count t (flat (a ++ b)) ≡ count t (flat a) + count t (flat b)
unfolding flat count
count_flat t [] b = omega arith
count_flat t (p ∷ ps) b = omega (arith, count_append t p (flat (ps ++ b)), count_append t p (flat ps), count_flat t ps b)

module _ (t : ℕ) where
  total : List (List ℕ) → ℕ
  total ps = count t (flat ps)

  total_at : (p : List ℕ) (ps : List (List ℕ)) → total (p ∷ ps) ≡ count t p + total ps
  unfolding total flat
  total_at p ps = count_append t p (flat ps)

  total_without : (i : ℕ) (ps : List (List ℕ)) → i < length ps → total (without i ps) + count t (get_or ps i []) ≡ total ps
  unfolding total without
  total_without i ps l =
      omega (
        arith,
        count_flat t (take i ps) (drop (suc i) ps),
        count_flat t (take i ps) (get_or ps i [] ∷ drop (suc i) ps),
        total_at (get_or ps i []) (drop (suc i) ps),
        ap total (split_at ps i [] l),
      )

  total_set : (i : ℕ) (p : List ℕ) (ps : List (List ℕ)) → i < length ps → total (set ps i p) + count t (get_or ps i []) ≡ total ps + count t p
  unfolding total
  total_set i p ps l =
      omega (
        arith,
        ap total (set_split ps i p l),
        ap total (split_at ps i [] l),
        count_flat t (take i ps) (p ∷ drop (suc i) ps),
        count_flat t (take i ps) (get_or ps i [] ∷ drop (suc i) ps),
        total_at (get_or ps i []) (drop (suc i) ps),
        total_at p (drop (suc i) ps),
      )

  module _ (join : List ℕ → List ℕ → List ℕ) (keeps : (a b : List ℕ) → count t (join a b) ≡ count t a + count t b) where
    total_joined : (ps : List (List ℕ)) (q : Pair) → InOrder (length ps) q → total (joined join ps q) ≡ total ps
    unfolding joined
    total_joined ps q h =
        let i = q.first in
        let j = q.second in
        let p = join (get_or ps i []) (get_or ps j []) in
        omega (
          arith,
          total_without j (set ps i p) (omega (arith, h.1, length-set ps i p)),
          total_set i p ps (omega (arith, h.0, h.1)),
          ap (count t) (get_or-set_other ps i j p [] (λ e. omega (arith, h.0))),
          keeps (get_or ps i []) (get_or ps j []),
        )

pub length_joined : (join : List ℕ → List ℕ → List ℕ) (ps : List (List ℕ)) (q : Pair) → InOrder (length ps) q → suc (length (joined join ps q)) ≡ length ps
unfolding joined without
length_joined join ps q h =
    let qs = set ps q.first (join (get_or ps q.first []) (get_or ps q.second [])) in
    omega (
      arith,
      h.0,
      h.1,
      length-append (take q.second qs) (drop (suc q.second) qs),
      length-take q.second qs,
      length-drop (suc q.second) qs,
      length-set ps q.first (join (get_or ps q.first []) (get_or ps q.second [])),
    )

-- ---- the rounds
module _ (wants : List ℕ) (fits : ℕ → Bool) (join : List ℕ → List ℕ → List ℕ) where
  pub closest_good : (ps : List (List ℕ)) → Good (InOrder (length ps)) (closest wants fits join ps)
  closest_good ps =
      subst (λ (n : ℕ). Good (InOrder n) (closest wants fits join ps)) (length-map ps (curves_of wants)) (pair_good fits (map (curves_of wants) ps) (length ps))

  -- THE ROUND ENDS only where no pair is left
  pub round_ends : (k : ℕ) (ps : List (List ℕ)) → length ps ≤ k → closest wants fits join (join_all wants fits join k ps) ≡ nobody
  unfolding join_all best_pair
  round_ends zero [] h = refl
  round_ends zero (p ∷ ps) h = absurd (omega arith)
  round_ends (suc k) ps h = go (closest wants fits join ps) refl (closest_good ps) (round_ends k)
    where
      go : (b : Found Pair) → closest wants fits join ps ≡ b → Good (InOrder (length ps)) b
          → ((qs : List (List ℕ)) → length qs ≤ k → closest wants fits join (join_all wants fits join k qs) ≡ nobody)
          → closest wants fits join (on_pair (λ q. join_all wants fits join k (joined join ps q)) ps b) ≡ nobody
      go nobody e g ih = unfold on_pair in e
      go (found q) e g ih = unfold on_pair in ih (joined join ps q) (omega (arith, length_joined join ps q g))

  round_total : (t : ℕ) → ((a b : List ℕ) → count t (join a b) ≡ count t a + count t b) → (k : ℕ) (ps : List (List ℕ))
      → count t (flat (join_all wants fits join k ps)) ≡ count t (flat ps)
  unfolding join_all total
  round_total t keeps zero ps = refl
  round_total t keeps (suc k) ps = go (closest wants fits join ps) (closest_good ps) (round_total t keeps k)
    where
      go : (b : Found Pair) → Good (InOrder (length ps)) b → ((qs : List (List ℕ)) → count t (flat (join_all wants fits join k qs)) ≡ count t (flat qs))
          → count t (flat (on_pair (λ q. join_all wants fits join k (joined join ps q)) ps b)) ≡ count t (flat ps)
      go nobody g ih = unfold on_pair in refl
      go (found q) g ih = unfold on_pair in (ih (joined join ps q) ∙ total_joined t join keeps ps q g)

-- ---- method 3

-- what holds of the four ways holds of the one that wins
any_way : (P : List ℕ → Type 0) (a b : Try) → P a.order → P b.order → P (a or_more b).order
unfolding ◌or_more◌
any_way P a b p q = go (ltb a.meeting b.meeting)
  where
    go : (c : Bool) → P (pick_try c a b).order
    go true = unfold pick_try in q
    go false = unfold pick_try in p

pub flipped_any : (wants : List ℕ) (places : ℕ) (a b : List ℕ) (P : List ℕ → Type 0)
    → P (a ++ b) → P (a ++ reverse b) → P (reverse a ++ b) → P (reverse a ++ reverse b) → P (flipped wants places a b)
unfolding flipped try
flipped_any wants places a b P p q r s = any_way P _ _ (any_way P _ _ (any_way P _ _ p q) r) s

count_flipped : (wants : List ℕ) (places t : ℕ) (a b : List ℕ) → count t (flipped wants places a b) ≡ count t a + count t b
count_flipped wants places t a b =
    flipped_any wants places a b (λ (l : List ℕ). count t l ≡ count t a + count t b) (count_append t a b)
    (omega (arith, count_append t a (reverse b), count_reverse t b))
    (omega (arith, count_append t (reverse a) b, count_reverse t a))
    (omega (arith, count_append t (reverse a) (reverse b), count_reverse t a, count_reverse t b))

pub singles : (ts : List ℕ) → flat (map (λ t. t ∷ []) ts) ≡ ts
unfolding flat
singles [] = refl
singles (t ∷ ts) = ap {B = List ℕ} (λ r. t ∷ r) (singles ts)

pub packages_order : (places : ℕ) (wants : List ℕ) → IsOrder (length wants) (packages places wants)
packages_order places wants =
    record {
      once = λ t l. same t ∙ (up_to_order (length wants)).once t l;
      only = λ t l. same t ∙ (up_to_order (length wants)).only t l;
    }
  where
    same : (t : ℕ) → count t (packages places wants) ≡ count t (up_to (length wants))
    same t =
        unfold packages in
        (round_total wants (λ u. true) (flipped wants places) t (count_flipped wants places t) _ _
        ∙ round_total wants (λ u. leb (size u) places) ◌++◌ t (count_append t) _ _
        ∙ ap (count t) (singles (up_to (length wants))))

pub packages_long : (places : ℕ) (wants : List ℕ) → length (packages places wants) ≡ length wants
packages_long places wants = order_length (length wants) (packages places wants) (packages_order places wants)

-- "until one is left"
pub one_left : (places : ℕ) (wants : List ℕ) (ps : List (List ℕ)) → length (second_round wants places ps) ≤ 1
one_left places wants ps = go (dec_le 2 (length rest))
  where
    rest : List (List ℕ)
    rest = second_round wants places ps

    none : closest wants (λ u. true) (flipped wants places) rest ≡ nobody
    none = round_ends wants (λ u. true) (flipped wants places) (length ps) ps (omega arith)

    go : Dec (2 ≤ length rest) → length rest ≤ 1
    go (yes l) =
        absurd (subst Some none (pair_some (λ u. true) (map (curves_of wants) rest) 0 1 (length rest) (omega arith)
        (omega (arith, length-map rest (curves_of wants))) refl))
    go (no l) = omega arith
