-- Which candidates stay: one stays exactly where fewer have to go than go before it, itself counted.
use mathlib.Core.Path.{◌≡◌, refl, ap, ◌∙◌}
use mathlib.Core.List.{List, [], ◌∷◌}
use Prim.Native.Nat.{ℕ, zero, suc, ◌+◌, ◌-◌, ◌^◌, ◌≤◌, ◌<◌, min}
use native.Mathlib.Omega.{arith}
use native.Mathlib.Decide.{ℕ_discrete, dec_le}
use lib.Bits.{or_comm}
use Rattle.bitset.specs.Set.{◌∩◌, ◌∪◌, ◌∖◌, size, bit, below}
use Rattle.bitset.proofs.Bits.{bitwise, bit-∪, bit-∖, bit_empty, bit_single, bit_other, same_by_bits, sizes_le}
use Rattle.bitset.proofs.Element.{size_remove, size_single}
use Rattle.bitset.proofs.Laws.{size_split, size-∪}
use Rattle.bitset.proofs.Parts.{◌≼◌, without-≼}
use Rattle.lists.specs.Choice.{Found, nobody, found}
use Rattle.drive.specs.Steps.{moved}
use Rattle.drive.specs.Plan.{furthest, and_then, victims, drops_for, next}
use Rattle.drive.specs.ContractWords.{GoesBefore}
use Rattle.drive.proofs.Fewest.{PickedOf}
use Rattle.drive.proofs.Best.{good}
use Rattle.drive.proofs.OurPlan.{Victim, victim_exact}
use Rattle.drive.proofs.Staying.{one_curve}

-- of the candidates cs those in `longer` stay longer than c, and each other one goes before it
pub record Behind (cs c longer : ℕ) (ws : List ℕ) : Type 0 where
  pub own : bit c longer ≡ 0
  pub after : (d : ℕ) → bit d cs ≡ 1 → bit d longer ≡ 1 → GoesBefore ws c d
  pub before : (d : ℕ) → bit d cs ≡ 1 → bit d longer ≡ 0 → GoesBefore ws d c

goes_before : (cs v d : ℕ) (ws : List ℕ) → Victim cs ws v → bit d cs ≡ 1 → GoesBefore ws v d
goes_before cs v d ws t m = (t.furthest_use d m, λ l. t.highest_tie d l m)

some_size : (c s : ℕ) → bit c s ≡ 1 → 0 < size s
some_size c s i = omega (arith, size_remove c s i)

module _ (c longer : ℕ) (ws : List ℕ) where
  -- where c itself is the victim, no other goes before it
  alone : (cs : ℕ) → Behind cs c longer ws → Victim cs ws c → size (cs ∖ longer) ≤ 1
  alone cs b t = omega (arith, size_single c, sizes_le (cs ∖ longer ∷ []) (2 ^ c ∷ []) (λ d. go d (bit d (cs ∖ longer)) refl (ℕ_discrete d c)))
    where
      go : (d x : ℕ) → bit d (cs ∖ longer) ≡ x → Dec (d ≡ c) → bit d (cs ∖ longer) + 0 ≤ bit d (2 ^ c) + 0
      go d zero e q = omega arith
      go d (suc x) e (yes q) = rw q (omega (arith, bit_single c))
      go d (suc x) e (no q) =
          let m : bit d cs ≡ 1 = omega (arith, bit-∖ d cs longer) in
          absurd (q (one_curve d c ws (b.before d m (omega (arith, bit-∖ d cs longer))) (goes_before cs c d ws t m)))

  -- another victim goes before c
  other : (cs v : ℕ) → bit c cs ≡ 1 → Behind cs c longer ws → Victim cs ws v → (c ≡ v → ⊥) → size (cs ∖ 2 ^ v ∖ longer) + 1 ≡ size (cs ∖ longer)
  other cs v m b t n = go (bit v longer) refl
    where
      go : (x : ℕ) → bit v longer ≡ x → size (cs ∖ 2 ^ v ∖ longer) + 1 ≡ size (cs ∖ longer)
      go zero e =
          omega (
            arith,
            size_remove v (cs ∖ longer) (omega (arith, t.candidate, bit-∖ v cs longer)),
            ap size (same_by_bits (cs ∖ 2 ^ v ∖ longer) (cs ∖ longer ∖ 2 ^ v) (λ k. simp bitwise (omega arith))),
          )
      go (suc x) e = absurd (n (one_curve c v ws (b.after v t.candidate (omega arith)) (goes_before cs v c ws t m)))

  -- ONE STAYS exactly where fewer have to go than go before it, itself counted
  pub stays_exact : (n e cs : ℕ) → cs ≼ below n → bit c cs ≡ 1 → Behind cs c longer ws
      → bit c (victims (furthest n) e cs ws) ≡ 1 - min 1 (size (cs ∖ longer) - e)
  unfolding victims
  stays_exact n zero cs own m b = omega (arith, bit_empty c, some_size c (cs ∖ longer) (omega (arith, b.own, bit-∖ c cs longer)))
  stays_exact n (suc e) cs own m b =
      go (furthest n cs ws) refl (good n cs ws own)
      (λ v q. stays_exact n e (cs ∖ 2 ^ v) (without-≼ cs (2 ^ v) (below n) own) (omega (arith, bit-∖ c cs (2 ^ v), bit_other c v q)) (less v))
    where
      less : (v : ℕ) → Behind (cs ∖ 2 ^ v) c longer ws
      less v =
          record {
            own = b.own;
            after = λ d i. b.after d (omega (arith, bit-∖ d cs (2 ^ v)));
            before = λ d i. b.before d (omega (arith, bit-∖ d cs (2 ^ v)));
          }

      go : (f : Found ℕ) → furthest n cs ws ≡ f → PickedOf cs ws f
          → ((v : ℕ) → (c ≡ v → ⊥) → bit c (victims (furthest n) e (cs ∖ 2 ^ v) ws) ≡ 1 - min 1 (size (cs ∖ 2 ^ v ∖ longer) - e))
          → bit c (and_then f (λ v. victims (furthest n) e (cs ∖ 2 ^ v) ws)) ≡ 1 - min 1 (size (cs ∖ longer) - suc e)
      go nobody p z rest = absurd (omega (arith, m, ap (bit c) z, bit_empty c))
      go (found v) p z rest = unfold and_then in one ((victim_exact n cs ws own v).0 p) (ℕ_discrete c v)
        where
          one : Victim cs ws v → Dec (c ≡ v) → bit c (2 ^ v ∪ victims (furthest n) e (cs ∖ 2 ^ v) ws) ≡ 1 - min 1 (size (cs ∖ longer) - suc e)
          one t (yes q) =
              let s = alone cs b (rw (← q) at t) in
              omega (arith, bit-∪ c (2 ^ v) (victims (furthest n) e (cs ∖ 2 ^ v) ws), bit_single c, ap (λ (x : ℕ). bit c (2 ^ x)) q)
          one t (no q) =
              let r = victims (furthest n) e (cs ∖ 2 ^ v) ws in
              let not_v : bit c (2 ^ v ∪ r) ≡ bit c r = omega (arith, bit-∪ c (2 ^ v) r, bit_other c v q) in
              not_v ∙ rest v q ∙ ap (λ (x : ℕ). 1 - min 1 x) (omega (arith, other cs v m b t q))

-- as many stay as there is room for
stay_count : (s p a x : ℕ) → 1 ≤ s → 1 - (1 - min 1 (s - ((a + (x + s)) - p))) ≡ min 1 ((p - a) - x)
stay_count s p a x h = twice (min 1 (s - ((a + (x + s)) - p))) (omega arith) ∙ go (dec_le p (a + x))
  where
    twice : (n : ℕ) → n ≤ 1 → 1 - (1 - n) ≡ n
    twice n l = omega arith

    go : Dec (p ≤ a + x) → min 1 (s - ((a + (x + s)) - p)) ≡ min 1 ((p - a) - x)
    go (yes l) =
        let none : s - ((a + (x + s)) - p) ≡ 0 = omega arith in
        let room : (p - a) - x ≡ 0 = omega arith in
        rw (none, room) refl
    go (no l) =
        let some : 1 ≤ s - ((a + (x + s)) - p) = omega arith in
        let room : 1 ≤ (p - a) - x = omega arith in
        omega (arith, some, room)

-- what stays of those that are not wanted
kept_bit : (h w c d : ℕ) → bit c (h ∖ w) ≡ 1 → bit c (h ∖ d ∪ (w ∖ h)) ≡ 1 - bit c d
kept_bit h w c d m =
    let a : bit c h ≡ 1 = omega (arith, bit-∖ c h w) in
    let b : bit c w ≡ 0 = omega (arith, bit-∖ c h w) in
    omega (arith, bit-∪ c (h ∖ d) (w ∖ h), bit-∖ c h d, bit-∖ c w h)

-- A CURVE THAT IS NOT WANTED IS HELD BEHIND A STEP exactly where fewer stay longer than there is room for, behind the wanted ones
pub kept_exact : (n p h w c longer : ℕ) (ws : List ℕ) → h ≼ below n → bit c (h ∖ w) ≡ 1 → Behind (h ∖ w) c longer ws
    → bit c (moved h (next (furthest n) p h w ws)) ≡ min 1 ((p - size w) - size ((h ∖ w) ∩ longer))
unfolding drops_for
kept_exact n p h w c longer ws own m b =
    let d = drops_for (furthest n) p h w ws in
    let stay : bit c d ≡ 1 - min 1 (size (h ∖ w ∖ longer) - (size (h ∪ w) - p)) =
    stays_exact c longer ws n (size (h ∪ w) - p) (h ∖ w) (without-≼ h w (below n) own) m b in
    let some = some_size c (h ∖ w ∖ longer) (omega (arith, b.own, bit-∖ c (h ∖ w) longer)) in
    let total : size (h ∪ w) ≡ size w + (size ((h ∖ w) ∩ longer) + size (h ∖ w ∖ longer)) =
    omega (arith, ap size (or_comm h w), size-∪ w h, size_split (h ∖ w) longer) in
    kept_bit h w c d m ∙ ap (λ (x : ℕ). 1 - x) (stay ∙ ap (λ (y : ℕ). 1 - min 1 (size (h ∖ w ∖ longer) - (y - p))) total)
    ∙ stay_count (size (h ∖ w ∖ longer)) p (size w) (size ((h ∖ w) ∩ longer)) some
