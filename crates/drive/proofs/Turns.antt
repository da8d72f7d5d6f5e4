-- One turn of a loop: over the steps, and in the choice of the drops.
use mathlib.Core.Path.{◌≡◌, refl, sym, ap, ◌∙◌}
use mathlib.Core.Bool.{Bool, true, false}
use mathlib.Core.List.{List, [], ◌∷◌}
use Prim.Native.Nat.{ℕ, suc, ◌+◌, ◌-◌, ◌≤◌, ◌<◌}
use native.Mathlib.Omega.{arith}
use native.Mathlib.Decide.{ℕ_discrete, dec_le}
use native.Mathlib.Numerals.{add-one}
use native.Mathlib.Nat.{add-zero}
use lib.ListN.{length, get_or, drop, set, length-set, drop_of_length-le, get_or-eq_default}
use lib.Seq.{drop-cons, drop-drop, get_or-drop, get_or-set_same, get_or-set_other, ext_get_or, sets}
use Rattle.std.specs.List.{fold}
use Rattle.std.specs.Prelude.{Ok, Err}
use Rattle.bitset.specs.Set.{◌∪◌, size, bit}
use Rattle.bitset.proofs.Bits.{bit-∪, bit_empty, same_by_bits}
use Rattle.lists.specs.Choice.{Found}
use Rattle.lists.proofs.Overwritten.{sets_cons}
use Rattle.drive.specs.declared.choice.NextUse.{NextUse}
use Rattle.drive.specs.declared.choice.NextUse.TheVariants.{At, Never}
use Rattle.drive.specs.declared.Sets.{Sets}
use Rattle.drive.specs.Steps.{moved, held_after, drops_of, loads_of, moves}
use Rattle.drive.specs.Check.{or_breaks, keeps, check_from}
use Rattle.drive.specs.Uses.{later, use_by, next_use}
use Rattle.drive.specs.Plan.{victims, drops_for, next, plan_from}
use Rattle.drive.specs.Steps.{together}

-- ---- step i of our plan, with h held; the drops and loads of the steps before it are written
module _ (pick : ℕ → List ℕ → Found ℕ) (capacity start : ℕ) (ws drops₀ loads₀ : List ℕ) where
  abbrev all : List Sets
  all = plan_from pick capacity start ws

  pub record Goes (drops loads : List ℕ) (h i : ℕ) : Type 0 where
    pub long_drops : length drops ≡ length drops₀
    pub long_loads : length loads ≡ length loads₀
    pub ends : held_after start all ≡ held_after h (plan_from pick capacity h (drop i ws))
    pub dropped : sets drops₀ 0 (drops_of all) ≡ sets drops i (drops_of (plan_from pick capacity h (drop i ws)))
    pub loaded : sets loads₀ 0 (loads_of all) ≡ sets loads i (loads_of (plan_from pick capacity h (drop i ws)))

  module _ {drops loads : List ℕ} {h i : ℕ} (g : Goes drops loads h i) where
    -- the step s was carried out
    pub goes_on : i < length ws → {s : Sets} → s ≡ next pick capacity h (get_or ws i 0) (drop (i + 1) ws)
        → Goes (set drops i s.drops) (set loads i s.loads) (moved h s) (i + 1)
    unfolding plan_from held_after
    goes_on below {s} e =
        let rest = plan_from pick capacity (moved h s) (drop (i + 1) ws) in
        let whole : plan_from pick capacity h (drop i ws) ≡ s ∷ rest = rw (e, add-one i, drop-cons ws i 0 below) refl in
        record {
          long_drops = length-set drops i _ ∙ g.long_drops;
          long_loads = length-set loads i _ ∙ g.long_loads;
          ends = g.ends ∙ ap (held_after h) whole;
          dropped = g.dropped ∙ ap (λ (ss : List Sets). sets drops i (drops_of ss)) whole ∙ sets_cons drops i s.drops (drops_of rest);
          loaded = g.loaded ∙ ap (λ (ss : List Sets). sets loads i (loads_of ss)) whole ∙ sets_cons loads i s.loads (loads_of rest);
        }

    -- no step is left
    pub goes_end : length ws ≤ i → (h ≡ held_after start all) × ((drops ≡ sets drops₀ 0 (drops_of all)) × (loads ≡ sets loads₀ 0 (loads_of all)))
    unfolding plan_from held_after
    goes_end e =
        let none : plan_from pick capacity h (drop i ws) ≡ [] = rw (drop_of_length-le ws e) refl in (
          sym (g.ends ∙ ap (held_after h) none),
          (
            sym (g.dropped ∙ ap (λ (ss : List Sets). sets drops i (drops_of ss)) none),
            sym (g.loaded ∙ ap (λ (ss : List Sets). sets loads i (loads_of ss)) none),
          ),
        )

-- what is overwritten does not matter: two lists that differ only from entry i on, in as many entries as are written
pub sets_over : (xs l m : List ℕ) (i : ℕ) → length l ≡ length m → ((j : ℕ) → j < i → get_or l j 0 ≡ get_or m j 0)
    → ((j : ℕ) → i + length xs ≤ j → get_or l j 0 ≡ get_or m j 0)
    → sets l i xs ≡ sets m i xs
sets_over [] l m i e before behind = ext_get_or 0 l m e (λ j h. go j (dec_le i j))
  where
    go : (j : ℕ) → Dec (i ≤ j) → get_or l j 0 ≡ get_or m j 0
    go j (yes p) = behind j (omega arith)
    go j (no p) = before j (omega arith)
sets_over (x ∷ xs) l m i e before behind =
    let long = length-set l i x ∙ e ∙ sym (length-set m i x) in
    sets_over xs (set l i x) (set m i x) (suc i) long (λ j h. go j h (ℕ_discrete j i)) (λ j h. other j (λ q. omega arith) (behind j (omega arith)))
  where
    other : (j : ℕ) → (j ≡ i → ⊥) → get_or l j 0 ≡ get_or m j 0 → get_or (set l i x) j 0 ≡ get_or (set m i x) j 0
    other j q same = get_or-set_other l i j x 0 q ∙ same ∙ sym (get_or-set_other m i j x 0 q)

    written : Dec (length l ≤ i) → get_or (set l i x) i 0 ≡ get_or (set m i x) i 0
    written (yes p) =
        get_or-eq_default (set l i x) 0 (omega (arith, length-set l i x)) ∙ sym (get_or-eq_default (set m i x) 0 (omega (arith, length-set m i x)))
    written (no p) = get_or-set_same l i x 0 (omega arith) ∙ sym (get_or-set_same m i x 0 (omega arith))

    go : (j : ℕ) → j < suc i → Dec (j ≡ i) → get_or (set l i x) j 0 ≡ get_or (set m i x) j 0
    go j h (yes q) = rw q (written (dec_le (length l) i))
    go j h (no q) = other j q (before j (omega arith))

-- ---- the check of step i, with h held, d dropped and l loaded; b is whether it keeps the rules
module _ (capacity all h i : ℕ) (ws ds ls : List ℕ) (d l : ℕ) (b : Bool) (below : i < length ws) (drops : d ≡ get_or ds i 0) (loads : l ≡ get_or ls i 0)
    (asked : b ≡ keeps capacity all h (record { want = get_or ws i 0; sets = record { drops = d; loads = l } })) where
  turn : check_from capacity all i h (moves (drop i ws) (drop i ds) (drop i ls))
      ≡ or_breaks b i (check_from capacity all (i + 1) (moved h (record { drops = d; loads = l }))
      (moves (drop (i + 1) ws) (drop (i + 1) ds) (drop (i + 1) ls)))
  unfolding check_from moves
  turn =
      rw (asked, drops, loads, drop-cons ws i 0 below)
      (rw (drop-drop 1 i ds, drop-drop 1 i ls, get_or-drop i ds 0 0, get_or-drop i ls 0 0, add-zero i, add-one i) refl)

  pub check_breaks : b ≡ false → check_from capacity all i h (moves (drop i ws) (drop i ds) (drop i ls)) ≡ Err i
  unfolding or_breaks
  check_breaks e = turn ∙ rw e refl

  pub check_goes : b ≡ true → check_from capacity all i h (moves (drop i ws) (drop i ds) (drop i ls))
      ≡ check_from capacity all (i + 1) (moved h (record { drops = d; loads = l })) (moves (drop (i + 1) ws) (drop (i + 1) ds) (drop (i + 1) ls))
  unfolding or_breaks
  check_goes e = turn ∙ rw e refl

-- no step is left
pub check_end : (capacity all h i : ℕ) (ws ds ls : List ℕ) → length ws ≤ i → check_from capacity all i h (moves (drop i ws) ds ls) ≡ Ok h
unfolding check_from moves
check_end capacity all h i ws ds ls e = rw (drop_of_length-le ws e) refl

-- ---- no drops where all have room
pub no_drops : (pick : ℕ → List ℕ → Found ℕ) (capacity h w : ℕ) (ws : List ℕ) → size (h ∪ w) ≤ capacity → drops_for pick capacity h w ws ≡ 0
unfolding drops_for victims
no_drops pick capacity h w ws e = let z : size (h ∪ w) - capacity ≡ 0 = omega arith in rw z refl

-- ---- the next use by the step's number: `step_of s` where the first of the later steps is step s
unfoldable pub step_of : ℕ → NextUse → NextUse
step_of s (At m) = At (s + m)
step_of s Never = Never

pub use_wanted : (c s : ℕ) (ws : List ℕ) → s < length ws → bit c (get_or ws s 0) ≡ 1 → step_of s (next_use c (drop s ws)) ≡ At s
unfolding step_of next_use use_by
use_wanted c s ws h b = rw (drop-cons ws s 0 h, b) (ap At (omega arith))

pub use_later : (c s : ℕ) (ws : List ℕ) → s < length ws → bit c (get_or ws s 0) ≡ 0
    → step_of s (next_use c (drop s ws)) ≡ step_of (s + 1) (next_use c (drop (s + 1) ws))
unfolding next_use use_by
use_later c s ws h b = rw (add-one s, drop-cons ws s 0 h, b) (go (next_use c (drop (suc s) ws)))
  where
    go : (u : NextUse) → step_of s (later u) ≡ step_of (suc s) u
    go Never = unfold step_of later in refl
    go (At m) = unfold step_of later in ap At (omega arith)

pub use_never : (c s : ℕ) (ws : List ℕ) → length ws ≤ s → step_of s (next_use c (drop s ws)) ≡ Never
unfolding step_of next_use
use_never c s ws h = rw (drop_of_length-le ws h) refl

-- ---- what the steps from i on want together
pub together_end : (ws : List ℕ) (i : ℕ) → length ws ≤ i → together (drop i ws) ≡ 0
unfolding together
together_end ws i h = rw (drop_of_length-le ws h) refl

together_fold : (u : ℕ) (ws : List ℕ) → fold (λ (a w : ℕ). a ∪ w) u ws ≡ u ∪ together ws
unfolding together
together_fold u [] = sym (same_by_bits _ _ (λ c. omega (arith, bit-∪ c u 0, bit_empty c)))
together_fold u (w ∷ ws) =
    together_fold (u ∪ w) ws
    ∙ same_by_bits _ _ (λ c. omega (arith, bit-∪ c (u ∪ w) (together ws), bit-∪ c u w, bit-∪ c u (w ∪ together ws), bit-∪ c w (together ws)))

pub together_folded : (ws : List ℕ) → fold (λ (a w : ℕ). a ∪ w) 0 ws ≡ together ws
together_folded ws = together_fold 0 ws ∙ same_by_bits _ _ (λ c. omega (arith, bit-∪ c 0 (together ws), bit_empty c))

pub together_back : (ws : List ℕ) (i u : ℕ) → 0 < i → i ≤ length ws → u ≡ together (drop i ws) → get_or ws (i - 1) 0 ∪ u ≡ together (drop (i - 1) ws)
unfolding together
together_back ws i u p h e =
    let s : i ≡ suc (i - 1) = omega arith in
    ap (λ (x : ℕ). get_or ws (i - 1) 0 ∪ x) (e ∙ ap (λ (n : ℕ). together (drop n ws)) s) ∙ sym (ap together (drop-cons ws (i - 1) 0 (omega arith)))
