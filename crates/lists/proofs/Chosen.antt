-- What `best_of` finds among the numbers below n: an eligible one that is better than each eligible one before it, and than which none behind it is better. So
-- of
-- several with the best key it is the first, where none is better than itself, and the last, where each is at least as good as itself.
use mathlib.Core.Path.{◌≡◌, refl, sym, subst, ◌∙◌}
use mathlib.Core.Bool.{Bool, true, false, ◌&&◌, false≢true}
use Prim.Native.Nat.{ℕ, zero, suc, ◌+◌, ◌≤◌, ◌<◌}
use native.Mathlib.Omega.{arith}
use native.Mathlib.Decide.{ℕ_discrete, dec_le}
use Rattle.lists.specs.Choice.{Found, nobody, found, keep, choose, best_of}

below_suc : (P : ℕ → Type 0) (n : ℕ) → ((c : ℕ) → c < n → P c) → P n → (c : ℕ) → c < suc n → P c
below_suc P n f p c h = go (ℕ_discrete c n)
  where
    go : Dec (c ≡ n) → P c
    go (yes e) = subst P (sym e) p
    go (no d) = f c (omega arith)

-- ---- any two are comparable

-- v of the numbers below n
pub record Taken (eligible : ℕ → Bool) (better : ℕ → ℕ → Bool) (n v : ℕ) : Type 0 where
  pub below : v < n
  pub fair : eligible v ≡ true
  pub before : (c : ℕ) → c < v → eligible c ≡ true → better v c ≡ true
  pub behind : (c : ℕ) → c < n → v < c → eligible c ≡ true → better c v ≡ false

abbrev pub TakenOf : (ℕ → Bool) → (ℕ → ℕ → Bool) → ℕ → Found ℕ → Type 0
TakenOf eligible better n nobody = (c : ℕ) → c < n → eligible c ≡ false
TakenOf eligible better n (found v) = Taken eligible better n v

-- `better` is an order in which any two are comparable, or the strict part of one
pub record Compares (better : ℕ → ℕ → Bool) : Type 0 where
  pub trans : (x y z : ℕ) → better y z ≡ true → better z x ≡ true → better y x ≡ true
  pub more : (x y z : ℕ) → better y z ≡ true → better x z ≡ false → better y x ≡ true

module _ (eligible : ℕ → Bool) (better : ℕ → ℕ → Bool) (compares : Compares better) where
  unfair : {n : ℕ} → eligible n ≡ false → {T : Type 0} → eligible n ≡ true → T
  unfair e h = absurd (false≢true (sym e ∙ h))

  start : (n : ℕ) (t : Bool) → eligible n ≡ t → TakenOf eligible better n nobody → TakenOf eligible better (suc n) (keep t n nobody)
  unfolding keep
  start n true e b = record { below = omega arith; fair = e; before = λ c l h. unfair (b c l) h; behind = λ c l m. absurd (omega arith) }
  start n false e b = below_suc (λ c. eligible c ≡ false) n b e

  -- n takes the place of v
  over : (n v c : ℕ) → better n v ≡ true → Taken eligible better n v → c < n → eligible c ≡ true → better n c ≡ true
  over n v c r b l h = go (dec_le v c) (dec_le c v)
    where
      go : Dec (v ≤ c) → Dec (c ≤ v) → better n c ≡ true
      go (yes p) (yes q) = let e : c ≡ v = omega arith in rw e r
      go (yes p) (no q) = compares.more c n v r (b.behind c l (omega arith) h)
      go (no p) q = compares.trans c n v r (b.before c (omega arith) h)

  turn : (n v : ℕ) (s t : Bool) → eligible n ≡ s → better n v ≡ t → Taken eligible better n v → TakenOf eligible better (suc n) (keep (s && t) n (found v))
  unfolding keep
  turn n v true true e r b = record { below = omega arith; fair = e; before = λ c l h. over n v c r b l h; behind = λ c l m. absurd (omega arith) }
  turn n v true false e r b =
      record {
        below = omega (arith, b.below);
        fair = b.fair;
        before = b.before;
        behind = below_suc (λ c. v < c → eligible c ≡ true → better c v ≡ false) n b.behind (λ m h. r);
      }
  turn n v false t e r b =
      record {
        below = omega (arith, b.below);
        fair = b.fair;
        before = b.before;
        behind = below_suc (λ c. v < c → eligible c ≡ true → better c v ≡ false) n b.behind (λ m. unfair e);
      }

  taken : (n : ℕ) (b : Found ℕ) → TakenOf eligible better n b → TakenOf eligible better (suc n) (choose eligible better n b)
  unfolding choose
  taken n nobody b = start n (eligible n) refl b
  taken n (found v) b = turn n v (eligible n) (better n v) refl refl b

  pub taken_of : (n : ℕ) → TakenOf eligible better n (best_of eligible better (λ c. c) n nobody)
  unfolding best_of
  taken_of zero = λ c h. absurd (omega arith)
  taken_of (suc n) = taken n (best_of eligible better (λ c. c) n nobody) (taken_of n)

-- ---- none is better than itself: no eligible one is better, and it is better than each lower one

-- v of the numbers below n
pub record Chosen (eligible : ℕ → Bool) (better : ℕ → ℕ → Bool) (n v : ℕ) : Type 0 where
  pub below : v < n
  pub fair : eligible v ≡ true
  pub best : (c : ℕ) → c < n → eligible c ≡ true → better c v ≡ false
  pub first : (c : ℕ) → c < v → eligible c ≡ true → better v c ≡ true

abbrev pub BestOf : (ℕ → Bool) → (ℕ → ℕ → Bool) → ℕ → Found ℕ → Type 0
BestOf eligible better n nobody = (c : ℕ) → c < n → eligible c ≡ false
BestOf eligible better n (found v) = Chosen eligible better n v

-- `better` is the strict part of an order in which any two are comparable
pub record Ranked (better : ℕ → ℕ → Bool) : Type 0 where
  pub self : (x : ℕ) → better x x ≡ false
  pub less : (x y z : ℕ) → better y z ≡ true → better x z ≡ false → better x y ≡ false
  pub more : (x y z : ℕ) → better y z ≡ true → better x z ≡ false → better y x ≡ true

module _ (eligible : ℕ → Bool) (better : ℕ → ℕ → Bool) (ranked : Ranked better) where
  -- not both ways
  back : (x y : ℕ) → better y x ≡ true → better x y ≡ false
  back x y r = ranked.less x y x r (ranked.self x)

  compares : Compares better
  compares = record { trans = λ x y z r s. ranked.more x y z r (back x z s); more = ranked.more }

  chosen : (n v : ℕ) → Taken eligible better n v → Chosen eligible better n v
  chosen n v b = record { below = b.below; fair = b.fair; best = λ c l h. go c l h (dec_le v c) (dec_le c v); first = b.before }
    where
      go : (c : ℕ) → c < n → eligible c ≡ true → Dec (v ≤ c) → Dec (c ≤ v) → better c v ≡ false
      go c l h (yes p) (yes q) = let e : c ≡ v = omega arith in rw e (ranked.self v)
      go c l h (yes p) (no q) = b.behind c l (omega arith) h
      go c l h (no p) q = back c v (b.before c (omega arith) h)

  pub best_of_lem : (n : ℕ) → BestOf eligible better n (best_of eligible better (λ c. c) n nobody)
  best_of_lem n = go (best_of eligible better (λ c. c) n nobody) (taken_of eligible better compares n)
    where
      go : (b : Found ℕ) → TakenOf eligible better n b → BestOf eligible better n b
      go nobody b = b
      go (found v) b = chosen n v b

-- one that is not eligible changes nothing
pub passed : {A : Type 0} (fair : A → Bool) (better : A → A → Bool) (x : A) (b : Found A) → fair x ≡ false → choose fair better x b ≡ b
unfolding choose keep
passed fair better x nobody e = rw e refl
passed fair better x (found y) e = rw e refl

-- numbers that are not eligible are passed over
pub best_skip : {A : Type 0} (fair : A → Bool) (better : A → A → Bool) (f : ℕ → A) (b : Found A) (k m : ℕ) → ((c : ℕ) → m ≤ c → c < k + m → fair (f c) ≡ false)
    → best_of fair better f (k + m) b ≡ best_of fair better f m b
unfolding best_of
best_skip fair better f b zero m h = let e : 0 + m ≡ m = omega arith in rw e refl
best_skip fair better f b (suc k) m h =
    let e : suc k + m ≡ suc (k + m) = omega arith in
    rw e (passed fair better (f (k + m)) (best_of fair better f (k + m) b) (h (k + m) (omega arith) (omega arith))
    ∙ best_skip fair better f b k m (λ c i l. h c i (omega arith)))
