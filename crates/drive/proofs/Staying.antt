-- The order in which candidates go. Where each of a part of the candidates goes before each of the others, our victims are that part: so they can be found from
-- those that go first, and from those that stay.
use mathlib.Core.Path.{◌≡◌, refl, sym, ap, ◌∙◌}
use mathlib.Core.Bool.{false≢true}
use mathlib.Core.List.{List}
use Prim.Native.Nat.{ℕ, zero, suc, ◌^◌, ◌≤◌, ◌<◌}
use native.Mathlib.Omega.{arith}
use native.Mathlib.Decide.{ℕ_discrete, dec_le}
use borrow.Author.Tests.{lt-ltb, le-ltb}
use Rattle.bitset.specs.Set.{◌∪◌, ◌∖◌, size, bit, below}
use Rattle.bitset.proofs.Bits.{bit-∪, bit-∖, bit_other, bit_empty}
use Rattle.bitset.proofs.Element.{size_remove, some}
use Rattle.bitset.proofs.Laws.{size_none}
use Rattle.lists.specs.Choice.{Found, nobody, found}
use Rattle.drive.specs.declared.choice.NextUse.{NextUse}
use Rattle.drive.specs.declared.choice.NextUse.TheVariants.{At, Never}
use Rattle.drive.specs.Uses.{next_use, further}
use Rattle.drive.specs.Plan.{furthest, and_then, victims}
use Rattle.drive.specs.ContractWords.{GoesBefore, UsedAt, GoesFirst}
use Rattle.bitset.proofs.Parts.{◌≼◌, without-≼, positive, put_back}
use Rattle.drive.proofs.Fewest.{PickedOf}
use Rattle.drive.proofs.Best.{further_self, good}
use Rattle.drive.proofs.OurPlan.{Victim, victim_exact}

-- each of r goes before each candidate that is not in r
abbrev pub First : ℕ → ℕ → List ℕ → Type 0
First cs r ws = (c d : ℕ) → bit c r ≡ 1 → bit d cs ≡ 1 → bit d r ≡ 0 → GoesBefore ws c d

-- ---- the order

module _ (c d : ℕ) (ws : List ℕ) where
  -- of two with the same next use the higher one
  pub same_before : (u : NextUse) → next_use c ws ≡ u → next_use d ws ≡ u → d ≤ c → GoesBefore ws c d
  same_before u e f l = (ap (further (next_use d ws)) (e ∙ sym f) ∙ further_self (next_use d ws), λ g. absurd (omega arith))

  pub further_before : (m n : ℕ) → next_use c ws ≡ At m → next_use d ws ≡ At n → n < m → GoesBefore ws c d
  unfolding further
  further_before m n e f l = rw (e, f) (le-ltb m n (omega arith), λ g. lt-ltb n m l)

  pub never_before : (n : ℕ) → next_use c ws ≡ Never → next_use d ws ≡ At n → GoesBefore ws c d
  unfolding further
  never_before n e f = rw (e, f) (refl, λ g. refl)

  -- what is used sooner does not go before
  pub sooner_stays : (m n : ℕ) → next_use c ws ≡ At m → next_use d ws ≡ At n → m < n → GoesBefore ws c d → ⊥
  unfolding further
  sooner_stays m n e f l b = false≢true (sym (rw (e, f) at b.0) ∙ lt-ltb m n l)

-- of several with the same next use the highest goes first
pub first_of_same : (ws : List ℕ) (u : NextUse) (s v : ℕ) → bit v s ≡ 1 → ((c : ℕ) → bit c s ≡ 1 → c ≤ v) → UsedAt u s ws
    → GoesFirst ws s (record { curve = v; next = u })
first_of_same ws u s v i high used = (i, (sym (used v i), λ d m. same_before v d ws u (used v i) (used d m) (high d m)))

-- two curves that go before each other are one
pub one_curve : (c d : ℕ) (ws : List ℕ) → GoesBefore ws c d → GoesBefore ws d c → c ≡ d
one_curve c d ws p q = go (dec_le c d) (dec_le d c)
  where
    go : Dec (c ≤ d) → Dec (d ≤ c) → c ≡ d
    go (yes g) (yes h) = omega arith
    go (yes g) (no h) = absurd (false≢true (sym q.0 ∙ p.1 (omega arith)))
    go (no g) h = absurd (false≢true (sym p.0 ∙ q.1 (omega arith)))

-- ---- the victims

-- the victim is in r
victim_first : (cs r v : ℕ) (ws : List ℕ) → r ≼ cs → First cs r ws → 0 < size r → Victim cs ws v → bit v r ≡ 1
victim_first cs r v ws part f h t = go (bit v r) refl (some r (positive r h))
  where
    go : (d : ℕ) → bit v r ≡ d → (k : ℕ) × (bit k r ≡ 1) → bit v r ≡ 1
    go zero e k =
        let m : bit k.0 cs ≡ 1 = omega (arith, part k.0, k.1) in
        let s : k.0 ≡ v = one_curve k.0 v ws (f k.0 v k.1 t.candidate e) (t.furthest_use k.0 m, λ l. t.highest_tie k.0 l m) in
        absurd (omega (arith, k.1, ap (λ (x : ℕ). bit x r) s))
    go (suc d) e k = omega arith

-- without the victim, the others of r go first of what is left
first_rest : (cs r v : ℕ) (ws : List ℕ) → bit v r ≡ 1 → First cs r ws → First (cs ∖ 2 ^ v) (r ∖ 2 ^ v) ws
first_rest cs r v ws i f =
    λ c d m o n. f c d (omega (arith, bit-∖ c r (2 ^ v))) (omega (arith, bit-∖ d cs (2 ^ v))) (omega (arith, bit-∖ d r (2 ^ v), bit-∖ d cs (2 ^ v)))

-- one victim, and those chosen after it
one_first : (n e cs r v : ℕ) (ws : List ℕ) → furthest n cs ws ≡ found v → bit v r ≡ 1 → victims (furthest n) e (cs ∖ 2 ^ v) ws ≡ r ∖ 2 ^ v
    → victims (furthest n) (suc e) cs ws ≡ r
unfolding victims and_then
one_first n e cs r v ws p i rest = rw (p, rest) (put_back v r i)

-- THE VICTIMS ARE THOSE THAT GO BEFORE ALL OTHERS
pub victims_first : (n e cs r : ℕ) (ws : List ℕ) → size r ≡ e → cs ≼ below n → r ≼ cs → First cs r ws → victims (furthest n) e cs ws ≡ r
unfolding victims
victims_first n zero cs r ws s own part f = sym (size_none r s)
victims_first n (suc e) cs r ws s own part f =
    go (furthest n cs ws) refl (good n cs ws own) (λ v i. victims_first n e (cs ∖ 2 ^ v) (r ∖ 2 ^ v) ws (omega (arith, size_remove v r i))
    (without-≼ cs (2 ^ v) (below n) own) (less v) (first_rest cs r v ws i f))
  where
    less : (v : ℕ) → r ∖ 2 ^ v ≼ cs ∖ 2 ^ v
    less v k = omega (arith, bit-∖ k cs (2 ^ v), bit-∖ k r (2 ^ v), part k)

    go : (b : Found ℕ) → furthest n cs ws ≡ b → PickedOf cs ws b → ((v : ℕ) → bit v r ≡ 1 → victims (furthest n) e (cs ∖ 2 ^ v) ws ≡ r ∖ 2 ^ v)
        → victims (furthest n) (suc e) cs ws ≡ r
    go nobody p z rest = let x = some r (positive r (omega arith)) in absurd (omega (arith, part x.0, x.1, ap (bit x.0) z, bit_empty x.0))
    go (found v) p z rest = let i = victim_first cs r v ws part f (omega arith) ((victim_exact n cs ws own v).0 p) in one_first n e cs r v ws p i (rest v i)

-- ---- parts that go first

pub none_first : (cs : ℕ) (ws : List ℕ) → First cs 0 ws
none_first cs ws = λ c d m o n. absurd (omega (arith, bit_empty c))

pub all_first : (cs : ℕ) (ws : List ℕ) → First cs cs ws
all_first cs ws = λ c d m o n. absurd (omega arith)

-- one more, that goes before all that are left
pub more_first : (cs r v : ℕ) (ws : List ℕ) → ((d : ℕ) → bit d (cs ∖ r) ≡ 1 → GoesBefore ws v d) → First cs r ws → First cs (r ∪ 2 ^ v) ws
more_first cs r v ws next f = λ c d m o n. go c d m o (omega (arith, bit-∪ d r (2 ^ v))) (ℕ_discrete c v)
  where
    go : (c d : ℕ) → bit c (r ∪ 2 ^ v) ≡ 1 → bit d cs ≡ 1 → bit d r ≡ 0 → Dec (c ≡ v) → GoesBefore ws c d
    go c d m o n (yes e) = rw e (next d (omega (arith, bit-∖ d cs r)))
    go c d m o n (no h) = f c d (omega (arith, bit-∪ c r (2 ^ v), bit_other c v h)) o n

-- without some that go after the others
pub less_first : (cs r stay : ℕ) (ws : List ℕ) → ((c d : ℕ) → bit c r ≡ 1 → bit c stay ≡ 0 → bit d stay ≡ 1 → GoesBefore ws c d) → First cs r ws
    → First cs (r ∖ stay) ws
less_first cs r stay ws after f = λ c d m o n. go c d m o n (bit d stay) refl
  where
    go : (c d : ℕ) → bit c (r ∖ stay) ≡ 1 → bit d cs ≡ 1 → bit d (r ∖ stay) ≡ 0 → (b : ℕ) → bit d stay ≡ b → GoesBefore ws c d
    go c d m o n zero e = f c d (omega (arith, bit-∖ c r stay)) o (omega (arith, bit-∖ d r stay))
    go c d m o n (suc b) e = after c d (omega (arith, bit-∖ c r stay)) (omega (arith, bit-∖ c r stay)) (omega arith)
