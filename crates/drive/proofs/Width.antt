-- Our plan is the same whether the victim is looked for among the job's curves or among all numbers below a larger bound.
use mathlib.Core.Path.{◌≡◌, refl, ap}
use mathlib.Core.Bool.{Bool}
use mathlib.Core.List.{List, [], ◌∷◌}
use Prim.Native.Nat.{ℕ, zero, suc, ◌+◌, ◌-◌, ◌^◌, ◌≤◌, ◌<◌}
use native.Mathlib.Omega.{arith}
use lib.Dec.{eqb}
use lib.Pow.{pow_mono}
use lib.ListN.{length, get_or}
use borrow.Author.Tests.{ne_eqb}
use Rattle.bitset.specs.Set.{◌∪◌, ◌∖◌, size, bit}
use Rattle.bitset.proofs.Bits.{bit_beyond}
use Rattle.bitset.proofs.Laws.{∪-lt, ∖-lt}
use Rattle.lists.specs.Choice.{Found, nobody, found, best_of}
use Rattle.lists.proofs.Chosen.{best_skip}
use Rattle.drive.specs.declared.Sets.{Sets}
use Rattle.drive.specs.Steps.{moved}
use Rattle.drive.specs.Uses.{next_use, not_nearer}
use Rattle.drive.specs.Plan.{chosen_by, furthest, and_then, victims, drops_for, next, plan_from}

-- no candidate from n on
skip : (better : ℕ → ℕ → Bool) (cs n m : ℕ) → n ≤ m → ((c : ℕ) → n ≤ c → c < m → bit c cs ≡ 0)
    → best_of (λ c. eqb (bit c cs) 1) better (λ c. c) m nobody ≡ best_of (λ c. eqb (bit c cs) 1) better (λ c. c) n nobody
skip better cs n m h none =
    let e : (m - n) + n ≡ m = omega arith in
    rw (← e) (best_skip (λ c. eqb (bit c cs) 1) better (λ c. c) nobody (m - n) n (λ c l u. ne_eqb (bit c cs) 1 (λ q. omega (arith, none c l (omega arith)))))

module _ (n m : ℕ) (wider : n ≤ m) where
  furthest_width : (cs : ℕ) (ws : List ℕ) → cs < 2 ^ n → furthest m cs ws ≡ furthest n cs ws
  unfolding furthest chosen_by
  furthest_width cs ws h =
      skip (λ x y. not_nearer (next_use x ws) (next_use y ws)) cs n m wider (λ c l u. bit_beyond c cs (omega (arith, pow_mono l)))

  victims_width : (e cs : ℕ) (ws : List ℕ) → cs < 2 ^ n → victims (furthest m) e cs ws ≡ victims (furthest n) e cs ws
  unfolding victims
  victims_width zero cs ws h = refl
  victims_width (suc e) cs ws h = rw (furthest_width cs ws h) (go (furthest n cs ws) (λ v. victims_width e (cs ∖ 2 ^ v) ws (∖-lt n cs (2 ^ v) h)))
    where
      go : (f : Found ℕ) → ((v : ℕ) → victims (furthest m) e (cs ∖ 2 ^ v) ws ≡ victims (furthest n) e (cs ∖ 2 ^ v) ws)
          → and_then f (λ v. victims (furthest m) e (cs ∖ 2 ^ v) ws) ≡ and_then f (λ v. victims (furthest n) e (cs ∖ 2 ^ v) ws)
      go nobody ih = unfold and_then in refl
      go (found v) ih = unfold and_then in ap (λ (x : ℕ). 2 ^ v ∪ x) (ih v)

  drops_width : (p h w : ℕ) (ws : List ℕ) → h < 2 ^ n → drops_for (furthest m) p h w ws ≡ drops_for (furthest n) p h w ws
  unfolding drops_for
  drops_width p h w ws l = victims_width (size (h ∪ w) - p) (h ∖ w) ws (∖-lt n h w l)

  pub plan_width : (capacity h : ℕ) (ws : List ℕ) → h < 2 ^ n → ((i : ℕ) → i < length ws → get_or ws i 0 < 2 ^ n)
      → plan_from (furthest m) capacity h ws ≡ plan_from (furthest n) capacity h ws
  unfolding plan_from
  plan_width capacity h [] l k = refl
  plan_width capacity h (w ∷ ws) l k =
      let s = next (furthest n) capacity h w ws in
      rw (drops_width capacity h w ws l)
      (ap {B = List Sets} (λ ss. s ∷ ss) (plan_width capacity (moved h s) ws
      (∪-lt n (h ∖ s.drops) s.loads (∖-lt n h _ l) (∖-lt n w h (k 0 (omega arith)))) (λ i b. k (suc i) (omega arith))))
