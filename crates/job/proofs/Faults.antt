-- A refusal that names a position names the first with a fault. The exact conditions of 7, of 9, and of 10 at 4 + t.
use mathlib.Core.Path.{◌≡◌, refl, sym, ap, ◌∙◌, subst}
use mathlib.Core.Logic.Iff
use mathlib.Core.Logic.{◌↔◌}
use mathlib.Core.Bool.{Bool, true, false, false≢true}
use mathlib.Core.List.{List, [], ◌∷◌}
use Prim.Native.Nat.{ℕ, zero, suc, ◌+◌, ◌^◌, ◌≤◌, ◌<◌}
use native.Mathlib.Omega.{arith}
use native.Mathlib.Nat.{zero-add}
use native.Mathlib.Decide.{dec_le}
use lib.Dec.{leb}
use lib.ListN.{length, get_or}
use borrow.Author.Tests.{leb-false, lt-leb}
use Rattle.bitset.specs.Set.{size, inside}
use Rattle.job.specs.Refusal.{Outcome, done, refused, ◌>>◌, demand, room}
use Rattle.job.specs.Handed.{all_curves, each, wants_known, wants_fit}
use Rattle.job.proofs.Laws.{refused≢done, refused_same, demand_refused, room_done, done_room}
use Rattle.job.proofs.JobExact.{below_inside, inside_below}

-- the first position with a fault, or the lowest test: there is one at p, and none before p
abbrev pub First : (ℕ → Type 0) → ℕ → Type 0
First P p = P p × ((q : ℕ) → q < p → P q → ⊥)

first_one : (P : ℕ → Type 0) (p q : ℕ) → First P p → First P q → p ≡ q
first_one P p q f g = go (dec_le p q) (dec_le q p)
  where
    go : Dec (p ≤ q) → Dec (q ≤ p) → p ≡ q
    go (yes a) (yes b) = omega arith
    go (yes a) (no b) = absurd (g.1 p (omega arith) f.0)
    go (no a) (yes b) = absurd (f.1 q (omega arith) g.0)
    go (no a) (no b) = omega arith

first_same : (P Q : ℕ → Type 0) → ((p : ℕ) → P p ↔ Q p) → (p : ℕ) → First P p ↔ First Q p
first_same P Q h p = ((λ f. ((h p).0 f.0, λ q l x. f.1 q l ((h q).1 x))), (λ f. ((h p).1 f.0, λ q l x. f.1 q l ((h q).0 x))))

-- ---- an examination of positions i, i + 1, .., where P t is a fault at i + t

-- done where none has a fault, else refusal k at the first that has one
pub data Examines (P : ℕ → Type 0) (k i : ℕ) (o : Outcome (Unit {0})) : Type 0 where
  faultless : o ≡ done tt → ((t : ℕ) → P t → ⊥) → Examines P k i o
  faulty : (t : ℕ) → o ≡ refused k (i + t) → First P t → Examines P k i o

pub examines_exact : (P : ℕ → Type 0) (k i : ℕ) (o : Outcome (Unit {0})) → Examines P k i o → (t : ℕ) → o ≡ refused k (i + t) ↔ First P t
examines_exact P k i o (faultless e none) t = ((λ r. absurd (refused≢done (sym r ∙ e))), (λ f. absurd (none t f.0)))
examines_exact P k i o (faulty s e f) t = (
  (λ r. let same : s ≡ t = omega (arith, refused_same (sym e ∙ r)) in subst (First P) same f),
  (λ g. e ∙ ap (λ (x : ℕ). refused k (i + x)) (first_one P s t f g)),
)

-- position i, and then those behind it, where Q t is a fault at i + 1 + t
pub examines_next : (P Q : ℕ → Type 0) (k i j : ℕ) (b : Bool) (o : Outcome (Unit {0})) → (b ≡ false → P 0) → (b ≡ true → P 0 → ⊥)
    → j ≡ suc i → ((t : ℕ) → Q t ↔ P (suc t)) → Examines Q k j o → Examines P k i (◌>>◌ (demand b k i) o)
unfolding demand ◌>>◌
examines_next P Q k i j false o f g n h x = faulty 0 (let z : i ≡ i + 0 = omega arith in ap (refused k) z) (f refl, λ q l. absurd (omega arith))
examines_next P Q k i j true o f g n h (faultless e none) = faultless e go
  where
    go : (t : ℕ) → P t → ⊥
    go zero x = g refl x
    go (suc t) x = none t ((h t).1 x)
examines_next P Q k i j true o f g n h (faulty t e first) =
    faulty (suc t) (e ∙ (let z : j + t ≡ i + suc t = omega arith in ap (refused k) z)) ((h t).0 first.0, go)
  where
    go : (q : ℕ) → q < suc t → P q → ⊥
    go zero l x = g refl x
    go (suc q) l x = first.1 q (omega arith) ((h q).1 x)

-- ---- `each`

-- entry t fails the test
abbrev pub Fails : (ℕ → Bool) → List ℕ → ℕ → Type 0
Fails ok xs t = (t < length xs) × (ok (get_or xs t 0) ≡ false)

pub each_examines : (ok : ℕ → Bool) (k i : ℕ) (xs : List ℕ) → Examines (Fails ok xs) k i (each ok k i xs)
unfolding each
each_examines ok k i [] = faultless refl (λ t f. absurd (omega (arith, f.0)))
each_examines ok k i (x ∷ xs) =
    examines_next (Fails ok (x ∷ xs)) (Fails ok xs) k i (suc i) (ok x) (each ok k (suc i) xs) (λ e. (omega arith, e)) (λ e f. false≢true (sym f.1 ∙ e))
    refl (λ t. ((λ f. (omega (arith, f.0), f.1)), (λ f. (omega (arith, f.0), f.1)))) (each_examines ok k (suc i) xs)

-- THE PLACE NAMED IS THAT OF THE FIRST ENTRY THAT FAILS
pub each_exact : (ok : ℕ → Bool) (k i : ℕ) (xs : List ℕ) (t : ℕ) → each ok k i xs ≡ refused k (i + t) ↔ First (Fails ok xs) t
each_exact ok k i xs = examines_exact (Fails ok xs) k i (each ok k i xs) (each_examines ok k i xs)

-- ---- the refusals

-- 7, "lowest such test": "a test wants more curves than places"
pub too_large_exact : (places : ℕ) (wants : List ℕ) (t : ℕ)
    → wants_fit places wants ≡ refused 7 t ↔ First (λ s. (s < length wants) × (places < size (get_or wants s 0))) t
unfolding wants_fit
too_large_exact places wants t =
    Iff.trans (simp zero-add at (each_exact (λ w. leb (size w) places) 7 0 wants t))
    (first_same _ _ (λ s. ((λ f. (f.0, leb-false (size (get_or wants s 0)) places f.1)), (λ f. (f.0, lt-leb (size (get_or wants s 0)) places f.1)))) t)

-- a list without tests has none (02, wish 3)
pub none_too_large : (places : ℕ) (wants : List ℕ) → wants ≡ [] → wants_fit places wants ≡ done tt
unfolding wants_fit each
none_too_large places wants e = rw e refl

-- 10, "4 + t: wants of test t name a foreign curve"
pub foreign_exact : (curves : ℕ) (wants : List ℕ) (t : ℕ)
    → wants_known curves wants ≡ refused 10 (4 + t) ↔ First (λ s. (s < length wants) × (2 ^ curves ≤ get_or wants s 0)) t
unfolding wants_known
foreign_exact curves wants t =
    Iff.trans (each_exact (λ w. inside w (all_curves curves)) 10 4 wants t)
    (first_same _ _ (λ s. ((λ f. (f.0, foreign (get_or wants s 0) f.1)), (λ f. (f.0, not_inside (get_or wants s 0) f.1)))) t)
  where
    foreign : (w : ℕ) → inside w (all_curves curves) ≡ false → 2 ^ curves ≤ w
    foreign w e = go (dec_le (2 ^ curves) w)
      where
        go : Dec (2 ^ curves ≤ w) → 2 ^ curves ≤ w
        go (yes h) = h
        go (no h) = absurd (false≢true (sym e ∙ below_inside curves w (omega arith)))

    not_inside : (w : ℕ) → 2 ^ curves ≤ w → inside w (all_curves curves) ≡ false
    not_inside w h = go (inside w (all_curves curves)) refl
      where
        go : (b : Bool) → inside w (all_curves curves) ≡ b → b ≡ false
        go true e = absurd (omega (arith, inside_below curves w e))
        go false e = refl

-- 9, "entries needed": "a lent list or buffer can't take the result"
pub short_exact : (lent needed k : ℕ) → room lent needed ≡ refused 9 k ↔ ((k ≡ needed) × (lent < needed))
unfolding room demand
short_exact lent needed k = (go (leb needed lent) refl, λ h. rw h.0 (demand_refused (leb needed lent) 9 needed (lt-leb needed lent h.1)))
  where
    go : (b : Bool) → leb needed lent ≡ b → demand b 9 needed ≡ refused 9 k → (k ≡ needed) × (lent < needed)
    go true e r = absurd (refused≢done (sym r))
    go false e r = (sym (refused_same r), leb-false needed lent e)

pub room_exact : (lent needed : ℕ) → room lent needed ≡ done tt ↔ (needed ≤ lent)
room_exact lent needed = (room_done lent needed, done_room lent needed)
