-- What our plan drops: the victim is a candidate of furthest next use, the highest of several, and exactly the excess goes; all that is not wanted, where the
-- test alone exceeds the capacity.
use mathlib.Core.Path.{◌≡◌, refl, sym, ap, ◌∙◌}
use mathlib.Core.Logic.{◌↔◌}
use mathlib.Core.Bool.{Bool, true, false, false≢true}
use mathlib.Core.List.{List}
use Prim.Native.Nat.{ℕ, ◌-◌, ◌≤◌, ◌<◌}
use native.Mathlib.Omega.{arith}
use native.Mathlib.Decide.{dec_le}
use lib.Dec.{eqb}
use lib.Bits.{or_comm}
use borrow.Author.Tests.{eqb-true, eq-eqb, not-false}
use Rattle.bitset.specs.Set.{◌∪◌, ◌∖◌, ◌∈◌, size, bit, below}
use Rattle.lists.specs.Choice.{Found, nobody, found}
use Rattle.lists.proofs.Chosen.{Taken, TakenOf}
use Rattle.drive.specs.Uses.{next_use, further, not_nearer}
use Rattle.drive.specs.Plan.{furthest, victims, drops_for}
use Rattle.bitset.proofs.Laws.{size-∪}
use Rattle.bitset.proofs.Parts.{◌≼◌, same_size}
use Rattle.drive.proofs.Fewest.{Chosen, room_for, chosen, our_drops}
use Rattle.drive.proofs.Best.{highest, taken_by, none_further, below_n, good}

-- v is the victim among the candidates cs: no candidate's next use is further, and each higher candidate's is nearer
pub record Victim (cs : ℕ) (ws : List ℕ) (v : ℕ) : Type 0 where
  pub candidate : v ∈ cs
  pub furthest_use : (c : ℕ) → c ∈ cs → further (next_use c ws) (next_use v ws) ≡ false
  pub highest_tie : (c : ℕ) → v < c → c ∈ cs → further (next_use v ws) (next_use c ws) ≡ true

module _ (n cs : ℕ) (ws : List ℕ) (own : cs ≼ below n) where
  abbrev candidate? : ℕ → Bool
  candidate? c = eqb (bit c cs) 1

  abbrev not-nearer? : ℕ → ℕ → Bool
  not-nearer? b c = not_nearer (next_use b ws) (next_use c ws)

  taken : TakenOf candidate? not-nearer? n (furthest n cs ws)
  unfolding furthest
  taken = taken_by n not_nearer highest cs ws

  found_victim : (v : ℕ) → Taken candidate? not-nearer? n v → Victim cs ws v
  found_victim v t =
      record {
        candidate = eqb-true (bit v cs) 1 t.fair;
        furthest_use = none_further n not_nearer highest cs v ws own t;
        highest_tie = λ c l m. not-false _ (t.behind c (below_n n cs own c m) l (eq-eqb (bit c cs) 1 m));
      }

  -- there is one victim
  one_victim : (u v : ℕ) → Victim cs ws u → Victim cs ws v → u ≡ v
  one_victim u v s t = go (dec_le u v) (dec_le v u)
    where
      go : Dec (u ≤ v) → Dec (v ≤ u) → u ≡ v
      go (yes p) (yes q) = omega arith
      go (yes p) (no q) = absurd (false≢true (sym (t.furthest_use u s.candidate) ∙ s.highest_tie v (omega arith) t.candidate))
      go (no p) q = absurd (false≢true (sym (s.furthest_use v t.candidate) ∙ t.highest_tie u (omega arith) s.candidate))

  -- THE VICTIM IS A MAXIMUM, THE HIGHEST ON TIES
  pub victim_exact : (v : ℕ) → furthest n cs ws ≡ found v ↔ Victim cs ws v
  victim_exact v = ((λ e. found_victim v (rw e at taken)), back (furthest n cs ws) refl taken)
    where
      back : (b : Found ℕ) → furthest n cs ws ≡ b → TakenOf candidate? not-nearer? n b → Victim cs ws v → furthest n cs ws ≡ found v
      back nobody e b t = absurd (false≢true (sym (b v (below_n n cs own v t.candidate)) ∙ eq-eqb (bit v cs) 1 t.candidate))
      back (found u) e b t = e ∙ ap found (one_victim u v (found_victim u b) t)

-- EXACTLY THE EXCESS IS DROPPED, of held curves that the test does not want, where the test is not too large
pub record Excess (capacity h w d : ℕ) : Type 0 where
  pub unwanted : (c : ℕ) → bit c d ≤ bit c (h ∖ w)
  pub exact : size d ≡ size (h ∪ w) - capacity

module _ (n capacity h w : ℕ) (ws : List ℕ) (own : h ≼ below n) where
  abbrev drops : ℕ
  drops = drops_for (furthest n) capacity h w ws

  ours : Chosen (size (h ∪ w) - room_for capacity w) (h ∖ w) ws drops
  ours = our_drops (below n) (furthest n) (good n) capacity h w ws own

  pub drops_excess : size w ≤ capacity → Excess capacity h w drops
  drops_excess fits = record { unwanted = ours.among; exact = omega (arith, ours.count) }

  -- ALL THAT IS NOT WANTED IS DROPPED, where the test alone fills the capacity, or exceeds it
  pub all_dropped : capacity ≤ size w → drops ≡ h ∖ w
  all_dropped l = same_size drops (h ∖ w) ours.among (omega (arith, ours.count, size-∪ w h, ap size (or_comm h w)))

-- all candidates go, where at least as many have to go
pub all_victims : (n e cs : ℕ) (ws : List ℕ) → size cs ≤ e → cs ≼ below n → victims (furthest n) e cs ws ≡ cs
all_victims n e cs ws h s = let v = chosen (below n) (furthest n) (good n) e cs ws s in same_size _ cs v.among (omega (arith, v.count))
