-- THE OPTIMUM: of all plans from one holding, the plan of any good choice of victims has the fewest loads.
--
-- The idea. Let U k be all that the next k steps want together. Ours holds g after x loads, another plan holds b after y loads. For EVERY k
--     x + |b ∩ U k| ≤ y + |g ∩ U k|
-- (`ahead`): what the other holds of the near future more than we do, it has paid for. At k = 0 that is x ≤ y, and at the start, where both hold the same, it
-- is plain. One step: the other plan goes from b to b', which has what is wanted, w; before our drops we hold g ∪ w, and counting bit by bit carries `ahead`
-- at k + 1 over to the later steps' k (`loaded`). Now our victims leave. For each k, either none of them is in U k, and nothing changes; or one is, and then,
-- as it was chosen, all that stays is in U k: so of U k we hold w's part and as much more as the capacity allows, which is as much as the other can hold
-- (`dropped`). All that is used of the choice is that: for each k, if a victim is in U k then so are all that stay (`Picked`, `Chosen`). No plans are
-- exchanged, and none is asked to load late or to keep what it needs; any holding, also one above the capacity, may come first. A step's wants may exceed the
-- capacity too: both then hold just these (`room_for`).
use mathlib.Core.Path.{◌≡◌, refl, ap}
use mathlib.Core.List.{List, [], ◌∷◌}
use mathlib.Core.Logic.{◌⊎◌, inl, inr, ⊎_elim}
use Prim.Native.Nat.{ℕ, zero, suc, ◌+◌, ◌-◌, ◌^◌, ◌≤◌, ◌<◌, min, max, zero-le}
use native.Mathlib.Omega.{arith}
use lib.ListN.{length, get_or}
use Rattle.bitset.specs.Set.{◌∩◌, ◌∪◌, ◌∖◌, size, bit}
use Rattle.bitset.proofs.Bits.{bitwise, bit_empty, sizes_le, sizes_eq, size_empty}
use Rattle.bitset.proofs.Element.{size_single, size_remove}
use Rattle.bitset.proofs.Parts.{◌≼◌, Apart, without-≼, single-≼, single_apart}
use Rattle.lists.specs.Choice.{Found, nobody, found}
use Rattle.drive.specs.Steps.{Move, moved, wants_of, sets_of, moves, curve_count, load_count}
use Rattle.drive.specs.Plan.{and_then, victims, drops_for, next, plan_from}
use Rattle.drive.proofs.CheckExact.{Kept, AllKept, moved-≼}
use Rattle.drive.proofs.Holdings.{Holds, AllFit, between, loads_for, wider, held_by}
use Rattle.drive.proofs.Moves.{moves_of}

-- the wants of the next k steps together
unfoldable pub soon : ℕ → List ℕ → ℕ
soon zero ws = 0
soon (suc k) [] = 0
soon (suc k) (w ∷ ws) = w ∪ soon k ws

-- what is used of our choice of e victims v among the candidates cs: for each k none of them is wanted in the next k steps, or all that stay are
pub record Chosen (e cs : ℕ) (ws : List ℕ) (v : ℕ) : Type 0 where
  pub among : v ≼ cs
  pub count : size v ≡ e
  pub last : (k : ℕ) → Apart v (soon k ws) ⊎ ((0 < e) × (cs ∖ v ≼ soon k ws))

-- what is asked of a choice: a candidate, and all are wanted as soon as it is; none only where there is no candidate
pub record Picked (cs : ℕ) (ws : List ℕ) (v : ℕ) : Type 0 where
  pub member : bit v cs ≡ 1
  pub last : (k : ℕ) → bit v (soon k ws) ≡ 1 → cs ≼ soon k ws

abbrev pub PickedOf : ℕ → List ℕ → Found ℕ → Type 0
PickedOf cs ws nobody = cs ≡ 0
PickedOf cs ws (found v) = Picked cs ws v

-- a good choice, among the curves all
abbrev pub Good : ℕ → (ℕ → List ℕ → Found ℕ) → Type 0
Good all pick = (cs : ℕ) (ws : List ℕ) → cs ≼ all → PickedOf cs ws (pick cs ws)

-- how much is held in a step that wants w: at most the capacity, or just the wants, where they exceed it
abbrev pub room_for : ℕ → ℕ → ℕ
room_for capacity w = max capacity (size w)

-- ---- our step: v dropped of the candidates g ∖ w, and loaded what is wanted and not held

abbrev ours : ℕ → ℕ → ℕ → ℕ
ours g w v = moved g (record { drops = v; loads = w ∖ g })

wants_held : (g w v : ℕ) → v ≼ g ∖ w → w ≼ ours g w v
wants_held g w v i c = simp bitwise (omega (arith, simp bitwise at (i c)))

rest_size : (g w v : ℕ) → v ≼ g ∖ w → size (g ∪ w) ≡ size w + size v + size (g ∖ w ∖ v)
rest_size g w v i = omega (arith, sizes_eq (g ∪ w ∷ []) (w ∷ v ∷ g ∖ w ∖ v ∷ []) (λ c. simp bitwise (omega (arith, simp bitwise at (i c)))))

held_size : (g w v : ℕ) → v ≼ g ∖ w → size (ours g w v) + size v ≤ size (g ∪ w)
held_size g w v i = omega (arith, sizes_le (ours g w v ∷ v ∷ []) (g ∪ w ∷ []) (λ c. simp bitwise (omega (arith, simp bitwise at (i c)))))

-- two parts of h that are apart, the one within u
two_parts : (s w h u : ℕ) → s ≼ h → w ≼ h → Apart s w → s ≼ u → size s + size (w ∩ u) ≤ size (h ∩ u)
two_parts s w h u i j a k = omega (arith, sizes_le (s ∷ w ∩ u ∷ []) (h ∩ u ∷ []) (λ c. simp bitwise (omega (arith, i c, j c, a c, k c))))

-- where all that stays is within u: that, and what u has of the wants
rest_within : (g w v u : ℕ) → v ≼ g ∖ w → g ∖ w ∖ v ≼ u → size (g ∖ w ∖ v) + size (w ∩ u) ≤ size (ours g w v ∩ u)
rest_within g w v u i = two_parts (g ∖ w ∖ v) w (ours g w v) u (λ c. simp bitwise (omega arith)) (wants_held g w v i) (λ c. simp bitwise (omega arith))

-- ---- one step: ours are x so far and g is held, theirs y and b, and they hold k after it
module _ (capacity g b x y w k : ℕ) (wanted : w ≼ k) (room : size k ≤ capacity) where
  -- before our drops
  loaded : (u : ℕ) → x + size (b ∩ (w ∪ u)) ≤ y + size (g ∩ (w ∪ u)) → (x + size (w ∖ g)) + size (k ∩ u) ≤ (y + size (k ∖ b)) + size ((g ∪ w) ∩ u)
  loaded u ahead =
      omega (
        arith,
        sizes_eq (g ∩ (w ∪ u) ∷ w ∖ g ∷ w ∩ u ∷ []) ((g ∪ w) ∩ u ∷ w ∷ []) (λ c. simp bitwise (omega arith)),
        sizes_le (k ∩ u ∷ w ∷ []) (b ∩ (w ∪ u) ∷ k ∖ b ∷ w ∩ u ∷ []) (λ c. simp bitwise (omega (arith, wanted c))),
      )

  -- and after them
  module _ (ws : List ℕ) (v : ℕ) (chosen : Chosen (size (g ∪ w) - capacity) (g ∖ w) ws v)
      (ahead : (j : ℕ) → x + size (b ∩ soon j (w ∷ ws)) ≤ y + size (g ∩ soon j (w ∷ ws))) where
    dropped : (j : ℕ) → (x + size (w ∖ g)) + size (k ∩ soon j ws) ≤ (y + size (k ∖ b)) + size (ours g w v ∩ soon j ws)
    unfolding soon
    dropped j =
        let u = soon j ws in
        ⊎_elim
        (λ i. omega (
          arith,
          loaded u (ahead (suc j)),
          sizes_le ((g ∪ w) ∩ u ∷ []) (ours g w v ∩ u ∷ []) (λ c. simp bitwise (omega (arith, i c))),
        ))
        (λ i. omega (
          arith,
          loaded 0 (ahead 1),
          nothing k,
          nothing (g ∪ w),
          i.0,
          chosen.count,
          room,
          rest_size g w v chosen.among,
          rest_within g w v u chosen.among i.1,
          sizes_le (k ∩ u ∷ w ∷ []) (k ∷ w ∩ u ∷ []) (λ c. simp bitwise (omega (arith, wanted c))),
        ))
        (chosen.last j)
      where
        nothing : (s : ℕ) → size (s ∩ 0) ≡ 0
        nothing s = omega (arith, sizes_eq (s ∩ 0 ∷ []) [] (λ c. simp (bitwise, bit_empty) (omega arith)))

-- ---- the set of victims
module _ (e cs r v : ℕ) (ws : List ℕ) (picked : Picked cs ws v) (rest : Chosen e (cs ∖ 2 ^ v) ws r) where
  chosen_one : Chosen (suc e) cs ws (2 ^ v ∪ r)
  chosen_one =
      record {
        among = λ c. simp bitwise (omega (arith, single-≼ v cs picked.member c, simp bitwise at (rest.among c)));
        count = omega (
          arith,
          rest.count,
          size_single v,
          sizes_eq (2 ^ v ∪ r ∷ []) (2 ^ v ∷ r ∷ []) (λ c. simp bitwise (omega (arith, simp bitwise at (rest.among c)))),
        );
        last = λ k. go k (bit v (soon k ws)) refl (rest.last k);
      }
    where
      go : (k t : ℕ) → bit v (soon k ws) ≡ t → Apart r (soon k ws) ⊎ ((0 < e) × (cs ∖ 2 ^ v ∖ r ≼ soon k ws))
          → Apart (2 ^ v ∪ r) (soon k ws) ⊎ ((0 < suc e) × (cs ∖ (2 ^ v ∪ r) ≼ soon k ws))
      go k zero h (inl i) = inl (λ c. simp bitwise (omega (arith, single_apart v (soon k ws) h c, i c)))
      go k zero h (inr j) = inr (omega arith, λ c. simp bitwise (omega (arith, simp bitwise at (j.1 c))))
      go k (suc t) h z = inr (omega arith, λ c. simp bitwise (omega (arith, picked.last k (omega arith) c)))

-- none
none_chosen : (cs : ℕ) (ws : List ℕ) → Chosen 0 cs ws 0
none_chosen cs ws = record { among = λ c. omega (arith, bit_empty c); count = size_empty; last = λ k. inl (λ c. omega (arith, bit_empty c)) }

-- n is the least number of loads, of all plans that hold h before the first step
pub record Least (capacity all h : ℕ) (ws : List ℕ) (n : ℕ) : Type 0 where
  pub reached : (ks : List ℕ) × Holds (room_for capacity) all ws ks × (loads_for h ks ≤ n)
  pub least : (ks : List ℕ) → Holds (room_for capacity) all ws ks → n ≤ loads_for h ks

-- there is one such number
pub least_same : {capacity all h : ℕ} {ws : List ℕ} {m n : ℕ} → Least capacity all h ws m → Least capacity all h ws n → m ≡ n
least_same a b =
    let r = a.reached in
    let s = b.reached in
    omega (arith, r.2, s.2, a.least s.0 s.1, b.least r.0 r.1)

-- ---- a good choice
module _ (all : ℕ) (pick : ℕ → List ℕ → Found ℕ) (good : Good all pick) where
  -- as many as have to go, or all
  pub chosen : (e cs : ℕ) (ws : List ℕ) → cs ≼ all → Chosen (min e (size cs)) cs ws (victims pick e cs ws)
  unfolding victims and_then
  chosen zero cs ws s = let z : min 0 (size cs) ≡ 0 = omega arith in rw z (none_chosen cs ws)
  chosen (suc e) cs ws s = go (pick cs ws) (good cs ws s) (λ v. chosen e (cs ∖ 2 ^ v) ws (without-≼ cs (2 ^ v) all s))
    where
      go : (b : Found ℕ) → PickedOf cs ws b → ((v : ℕ) → Chosen (min e (size (cs ∖ 2 ^ v))) (cs ∖ 2 ^ v) ws (victims pick e (cs ∖ 2 ^ v) ws))
          → Chosen (min (suc e) (size cs)) cs ws (and_then b (λ v. victims pick e (cs ∖ 2 ^ v) ws))
      go nobody p rest = let z : min (suc e) (size cs) ≡ 0 = omega (arith, ap size p, size_empty) in rw z (none_chosen cs ws)
      go (found v) p rest =
          let n : min (suc e) (size cs) ≡ suc (min e (size (cs ∖ 2 ^ v))) = omega (arith, size_remove v cs p.member) in
          rw n (chosen_one (min e (size (cs ∖ 2 ^ v))) cs (victims pick e (cs ∖ 2 ^ v) ws) v ws p (rest v))

  module _ (capacity : ℕ) where
    -- exactly the excess is dropped; all that is not wanted, where the wants alone exceed the capacity
    pub our_drops : (g w : ℕ) (ws : List ℕ) → g ≼ all → Chosen (size (g ∪ w) - room_for capacity w) (g ∖ w) ws (drops_for pick capacity g w ws)
    unfolding drops_for
    our_drops g w ws s =
        let n : min (size (g ∪ w) - capacity) (size (g ∖ w)) ≡ size (g ∪ w) - room_for capacity w =
        omega (arith, sizes_eq (g ∪ w ∷ []) (w ∷ g ∖ w ∷ []) (λ c. simp bitwise (omega arith))) in
        rw n at (chosen (size (g ∪ w) - capacity) (g ∖ w) ws (without-≼ g w all s))

    -- ours are x so far and g is held, theirs y and b
    fewest_from_lem : {ws ks : List ℕ} (g b x y : ℕ) → g ≼ all → ((k : ℕ) → x + size (b ∩ soon k ws) ≤ y + size (g ∩ soon k ws))
        → Holds (room_for capacity) all ws ks → x + load_count (plan_from pick capacity g ws) ≤ y + loads_for b ks
    unfolding plan_from between curve_count soon
    fewest_from_lem g b x y gs ahead Holds.none = omega (arith, ahead 0, sizes_le (g ∩ 0 ∷ []) [] (λ c. simp (bitwise, bit_empty) (omega arith)))
    fewest_from_lem g b x y gs ahead (Holds.step {w = w} {k = k} {ws = ws} i j s r) =
        let wa : w ≼ all = λ c. omega (arith, i c, j c) in
        let v = drops_for pick capacity g w ws in
        let later = fewest_from_lem (ours g w v) k (x + size (w ∖ g)) (y + size (k ∖ b)) (moved-≼ g (next pick capacity g w ws) all gs (without-≼ w g all wa))
        (dropped (room_for capacity w) g b x y w k i s ws v (our_drops g w ws gs) ahead) r in
        omega (arith, later)

    -- ---- our steps keep the rules

    our_step : (g w : ℕ) (ws : List ℕ) → size w ≤ capacity → g ≼ all → w ≼ all → Kept capacity all g (record { want = w; sets = next pick capacity g w ws })
    our_step g w ws h s t =
        let v = drops_for pick capacity g w ws in
        let ch = our_drops g w ws s in
        record {
          drops = λ c. omega (arith, simp bitwise at (ch.among c));
          fresh = λ c. simp bitwise (omega arith);
          known = without-≼ w g all t;
          wants = wants_held g w v ch.among;
          room = omega (arith, ch.count, held_size g w v ch.among);
        }

    -- OUR STEPS KEEP THE RULES, where each step's wants are curves of the job and have room
    pub our_steps : (h : ℕ) (ws : List ℕ) → h ≼ all → AllFit capacity all ws → AllKept capacity all h (moves_of ws (plan_from pick capacity h ws))
    unfolding plan_from moves
    our_steps h [] s f = AllKept.none
    our_steps h (w ∷ ws) s f =
        let n = next pick capacity h w ws in
        AllKept.step (our_step h w ws f.1 s f.0) (our_steps (moved h n) ws (moved-≼ h n all s (without-≼ w h all f.0)) f.2)

    -- THE FEWEST LOADS: of all moves that keep the rules from h, whatever curves of the job are held at first
    pub fewest : {h : ℕ} {ms : List Move} → h ≼ all → AllKept capacity all h ms → load_count (plan_from pick capacity h (wants_of ms)) ≤ load_count (sets_of ms)
    fewest {h} s k = let r = held_by s k in omega (arith, r.2, fewest_from_lem h h 0 0 s (λ j. omega arith) (wider (λ w. omega arith) r.1))

    -- ---- whatever the steps want

    -- what our steps hold
    our_holds : (g : ℕ) (ws : List ℕ) → g ≼ all → ((i : ℕ) → i < length ws → get_or ws i 0 ≼ all)
        → (ks : List ℕ) × Holds (room_for capacity) all ws ks × (loads_for g ks ≤ load_count (plan_from pick capacity g ws))
    unfolding plan_from between curve_count
    our_holds g [] s own = ([], Holds.none, zero-le)
    our_holds g (w ∷ ws) s own =
        let v = drops_for pick capacity g w ws in
        let ch = our_drops g w ws s in
        let t : ours g w v ≼ all = moved-≼ g (next pick capacity g w ws) all s (without-≼ w g all (own 0 (omega arith))) in
        let r = our_holds (ours g w v) ws t (λ i h. own (suc i) (omega arith)) in (
          ours g w v ∷ r.0,
          Holds.step (wants_held g w v ch.among) t (omega (arith, ch.count, held_size g w v ch.among)) r.1,
          omega (arith, r.2, sizes_le (ours g w v ∖ g ∷ []) (w ∖ g ∷ []) (λ c. simp bitwise (omega arith))),
        )

    -- OUR LOAD COUNT IS THE LEAST of all plans from h
    pub count_least : (h : ℕ) (ws : List ℕ) → h ≼ all → ((i : ℕ) → i < length ws → get_or ws i 0 ≼ all)
        → Least capacity all h ws (load_count (plan_from pick capacity h ws))
    count_least h ws s own = record { reached = our_holds h ws s own; least = λ ks r. omega (arith, fewest_from_lem h h 0 0 s (λ k. omega arith) r) }
