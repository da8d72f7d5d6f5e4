-- Plans by what they hold at each step. Steps that keep the rules hold, at each step, the wants and at most the capacity; and whatever holds that is held by
-- steps that keep the rules.
use mathlib.Core.Path.{◌≡◌}
use mathlib.Core.List.{List, [], ◌∷◌}
use Prim.Native.Nat.{ℕ, ◌≤◌, zero-le}
use native.Mathlib.Omega.{arith}
use Rattle.bitset.specs.Set.{◌∖◌, size}
use Rattle.bitset.proofs.Bits.{bitwise, sizes_le, same_by_bits}
use Rattle.bitset.proofs.Parts.{◌≼◌}
use Rattle.drive.specs.declared.Sets.{Sets}
use Rattle.drive.specs.Steps.{Move, moved, wants_of, sets_of, moves, curve_count, load_count}
use Rattle.drive.proofs.Moves.{moves_of}
use Rattle.drive.proofs.CheckExact.{AllKept, moved-≼}

-- the steps want ws, and hold ks after their loads: of the curves `all`, and at most `room w` in a step that wants w
pub data Holds (room : ℕ → ℕ) (all : ℕ) : List ℕ → List ℕ → Type 0 where
  none : Holds room all [] []
  step : {w k : ℕ} {ws ks : List ℕ} → w ≼ k → k ≼ all → size k ≤ room w → Holds room all ws ks → Holds room all (w ∷ ws) (k ∷ ks)

-- with more room
pub wider : {room more : ℕ → ℕ} {all : ℕ} {ws ks : List ℕ} → ((w : ℕ) → room w ≤ more w) → Holds room all ws ks → Holds more all ws ks
wider l none = none
wider l (step {w = w} i j s r) = step i j (omega (arith, l w)) (wider l r)

-- each step's wants are curves of the job, and have room
abbrev pub AllFit : ℕ → ℕ → List ℕ → Type 0
AllFit capacity all [] = Unit {0}
AllFit capacity all (w ∷ ws) = (w ≼ all) × (size w ≤ capacity) × AllFit capacity all ws

-- what leaves and what enters, to hold ks in turn, of h held before
unfoldable pub between : ℕ → List ℕ → List Sets
between h [] = []
between h (k ∷ ks) = record { drops = h ∖ k; loads = k ∖ h } ∷ between k ks

abbrev pub loads_for : ℕ → List ℕ → ℕ
loads_for h ks = load_count (between h ks)

moved_then : (h k : ℕ) → moved h (record { drops = h ∖ k; loads = k ∖ h }) ≡ k
moved_then h k = same_by_bits _ k (λ c. simp bitwise (omega arith))

module _ {capacity all : ℕ} where
  -- WHATEVER HOLDS THE WANTS is held by steps that keep the rules
  pub plan_of : {ws ks : List ℕ} (h : ℕ) → Holds (λ w. capacity) all ws ks → AllKept capacity all h (moves_of ws (between h ks))
  unfolding between moves
  plan_of h none = AllKept.none
  plan_of h (step {w = w} {k = k} {ws = ws} {ks = ks} i j s r) =
      AllKept.step {h = h} {m = record { want = w; sets = record { drops = h ∖ k; loads = k ∖ h } }} {ms = moves_of ws (between k ks)}
      (record {
        drops = λ c. simp bitwise (omega arith);
        fresh = λ c. simp bitwise (omega arith);
        known = λ c. simp bitwise (omega (arith, j c));
        wants = rw (moved_then h k) i;
        room = rw (moved_then h k) s;
      })
      (rw (moved_then h k) (plan_of k r))

  -- AND STEPS THAT KEEP THE RULES have their holdings, which need no more loads
  pub held_by : {h : ℕ} {ms : List Move} → h ≼ all → AllKept capacity all h ms
      → (ks : List ℕ) × Holds (λ w. capacity) all (wants_of ms) ks × (loads_for h ks ≤ load_count (sets_of ms))
  unfolding between curve_count
  held_by s AllKept.none = ([], none, zero-le)
  held_by s (AllKept.step {h = h} {m = m} ok rest) =
      let k = moved h m.sets in
      let t : k ≼ all = moved-≼ h m.sets all s ok.known in
      let r = held_by t rest in
      (k ∷ r.0, step ok.wants t ok.room r.1, omega (arith, r.2, sizes_le (k ∖ h ∷ []) (m.sets.loads ∷ []) (λ c. simp bitwise (omega arith))))

  pub fits : {ws ks : List ℕ} → Holds (λ w. capacity) all ws ks → AllFit capacity all ws
  fits none = tt
  fits (step {w = w} {k = k} i j s r) = ((λ c. omega (arith, i c, j c)), omega (arith, sizes_le (w ∷ []) (k ∷ []) (λ c. omega (arith, i c))), fits r)
