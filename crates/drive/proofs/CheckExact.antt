-- The check of steps is exact: it ends exactly where every step keeps the rules, with what is held then, and breaks at the first step that does not.
use mathlib.Core.Path.{◌≡◌, refl, sym, ap, ◌∙◌}
use mathlib.Core.Logic.{◌↔◌}
use mathlib.Core.Bool.{Bool, true, false, ◌&&◌, false≢true}
use mathlib.Core.List.{List, [], ◌∷◌}
use Prim.Native.Nat.{ℕ, suc, ◌+◌, ◌≤◌, ◌<◌}
use native.Mathlib.Omega.{arith}
use lib.Dec.{leb, eqb}
use lib.ListN.{length}
use borrow.Author.Tests.{eqb-true, eq-eqb, leb-true, le-leb}
use Rattle.std.specs.Prelude.{Result, Ok, Err}
use Rattle.bitset.specs.Set.{◌∩◌, ◌∖◌, size, inside}
use Rattle.bitset.proofs.Bits.{bitwise}
use Rattle.bitset.proofs.Parts.{◌≼◌, Apart, inside-≼, ≼-inside, apart_common, common_apart}
use Rattle.lists.proofs.Tests.{both, and}
use Rattle.drive.specs.declared.Sets.{Sets}
use Rattle.drive.specs.Steps.{Move, moved, held_after, sets_of}
use Rattle.drive.specs.Check.{or_breaks, keeps, check_from}

-- a step's rules, as facts, with h held before it
pub record Kept (capacity all h : ℕ) (m : Move) : Type 0 where
  pub drops : m.sets.drops ≼ h
  pub fresh : Apart m.sets.loads (h ∖ m.sets.drops)
  pub known : m.sets.loads ≼ all
  pub wants : m.want ≼ moved h m.sets
  pub room : size (moved h m.sets) ≤ capacity

-- every step keeps the rules, with what is held before it: h before the first
pub data AllKept (capacity all : ℕ) : ℕ → List Move → Type 0 where
  none : {h : ℕ} → AllKept capacity all h []
  step : {h : ℕ} {m : Move} {ms : List Move} → Kept capacity all h m → AllKept capacity all (moved h m.sets) ms → AllKept capacity all h (m ∷ ms)

pub first_kept : {capacity all h : ℕ} {m : Move} {ms : List Move} → AllKept capacity all h (m ∷ ms)
    → Kept capacity all h m × AllKept capacity all (moved h m.sets) ms
first_kept (step ok r) = (ok, r)

-- step k breaks a rule, and the steps before it keep the rules
pub data FirstFault (capacity all : ℕ) : ℕ → List Move → ℕ → Type 0 where
  here : {h : ℕ} {m : Move} {ms : List Move} → (Kept capacity all h m → ⊥) → FirstFault capacity all h (m ∷ ms) 0
  later : {h : ℕ} {m : Move} {ms : List Move} {k : ℕ} → Kept capacity all h m → FirstFault capacity all (moved h m.sets) ms k
      → FirstFault capacity all h (m ∷ ms) (suc k)

-- what is held after a step is of s, where all that was held is, and all that is loaded
pub moved-≼ : (h : ℕ) (x : Sets) (s : ℕ) → h ≼ s → x.loads ≼ s → moved h x ≼ s
moved-≼ h x s i j c = simp bitwise (omega (arith, i c, j c))

-- .. and so is what is held at the end
pub held-≼ : {capacity all h : ℕ} {ms : List Move} → h ≼ all → AllKept capacity all h ms → held_after h (sets_of ms) ≼ all
unfolding held_after
held-≼ s none = s
held-≼ {all = all} s (step {h = h} {m = m} ok r) = held-≼ (moved-≼ h m.sets all s ok.known) r

module _ (capacity all h : ℕ) (m : Move) where
  kept : keeps capacity all h m ≡ true → Kept capacity all h m
  unfolding keeps
  kept e =
      let d = m.sets.drops in
      let l = m.sets.loads in
      let k = moved h m.sets in
      let a₁ = inside d h in
      let a₂ = eqb (l ∩ (h ∖ d)) 0 in
      let a₃ = inside l all in
      let a₄ = inside m.want k in
      let t₅ = both (a₁ && a₂ && a₃ && a₄) (leb (size k) capacity) e in
      let t₄ = both (a₁ && a₂ && a₃) a₄ t₅.0 in
      let t₃ = both (a₁ && a₂) a₃ t₄.0 in
      let t₂ = both a₁ a₂ t₃.0 in
      record {
        drops = inside-≼ d h t₂.0;
        fresh = common_apart l (h ∖ d) (eqb-true (l ∩ (h ∖ d)) 0 t₂.1);
        known = inside-≼ l all t₃.1;
        wants = inside-≼ m.want k t₄.1;
        room = leb-true (size k) capacity t₅.1;
      }

  keeping : Kept capacity all h m → keeps capacity all h m ≡ true
  unfolding keeps
  keeping ok =
      let fresh = eq-eqb (m.sets.loads ∩ (h ∖ m.sets.drops)) 0 (apart_common _ _ ok.fresh) in
      and _ _ (and _ _ (and _ _ (and _ _ (≼-inside _ _ ok.drops) fresh) (≼-inside _ _ ok.known)) (≼-inside _ _ ok.wants)) (le-leb _ _ ok.room)

  -- THE TEST OF A STEP IS EXACT
  pub keeps_exact : keeps capacity all h m ≡ true ↔ Kept capacity all h m
  keeps_exact = (kept, keeping)

module _ (capacity all : ℕ) where
  -- what an answer says of the steps from step i on, with h held
  abbrev Says : ℕ → ℕ → List Move → Result ℕ ℕ → Type 0
  Says i h ms (Ok e) = (e ≡ held_after h (sets_of ms)) × AllKept capacity all h ms
  Says i h ms (Err j) = (k : ℕ) × (j ≡ i + k) × FirstFault capacity all h ms k

  says : (i h : ℕ) (ms : List Move) → Says i h ms (check_from capacity all i h ms)
  unfolding check_from held_after or_breaks
  says i h [] = (refl, none)
  says i h (m ∷ ms) = go (keeps capacity all h m) refl (check_from capacity all (suc i) (moved h m.sets) ms) (says (suc i) (moved h m.sets) ms)
    where
      go : (b : Bool) → keeps capacity all h m ≡ b → (o : Result ℕ ℕ) → Says (suc i) (moved h m.sets) ms o → Says i h (m ∷ ms) (or_breaks b i o)
      go true e (Ok x) s = (s.0, step (kept capacity all h m e) s.1)
      go true e (Err j) s = (suc s.0, omega (arith, s.1), later (kept capacity all h m e) s.2)
      go false e o s = (0, omega arith, here (λ ok. false≢true (sym e ∙ keeping capacity all h m ok)))

  ends : {h : ℕ} {ms : List Move} (i : ℕ) → AllKept capacity all h ms → check_from capacity all i h ms ≡ Ok (held_after h (sets_of ms))
  unfolding check_from held_after or_breaks
  ends i none = refl
  ends i (step {h = h} {m = m} ok r) = rw (keeping capacity all h m ok) (ends (suc i) r)

  breaks : {h : ℕ} {ms : List Move} {k : ℕ} (i : ℕ) → FirstFault capacity all h ms k → check_from capacity all i h ms ≡ Err (i + k)
  unfolding check_from or_breaks
  breaks i (here {h = h} {m = m} broken) = go (keeps capacity all h m) refl _
    where
      go : (b : Bool) → keeps capacity all h m ≡ b → (o : Result ℕ ℕ) → or_breaks b i o ≡ Err (i + 0)
      go true e o = absurd (broken (kept capacity all h m e))
      go false e o = ap Err (omega arith)
  breaks i (later {h = h} {m = m} {k = k} ok r) =
      let n : suc i + k ≡ i + suc k = omega arith in
      rw (keeping capacity all h m ok) (breaks (suc i) r ∙ ap Err n)

  fault_below : {h : ℕ} {ms : List Move} {k : ℕ} → FirstFault capacity all h ms k → k < length ms
  fault_below (here broken) = omega arith
  fault_below (later ok r) = omega (arith, fault_below r)

  module _ (i h : ℕ) (ms : List Move) where
    -- THE CHECK ENDS exactly where every step keeps the rules; and with nothing but what is held then
    pub check_exact : check_from capacity all i h ms ≡ Ok (held_after h (sets_of ms)) ↔ AllKept capacity all h ms
    check_exact = ((λ e. (rw e at (says i h ms)).1), ends i)

    pub check_held : (e : ℕ) → check_from capacity all i h ms ≡ Ok e → (e ≡ held_after h (sets_of ms)) × AllKept capacity all h ms
    check_held e p = rw p at (says i h ms)

    -- THE STEP NAMED IS THE FIRST THAT BREAKS A RULE; and it is one of the steps
    pub fault_exact : (k : ℕ) → check_from capacity all i h ms ≡ Err (i + k) ↔ FirstFault capacity all h ms k
    fault_exact k = (there, breaks i)
      where
        there : check_from capacity all i h ms ≡ Err (i + k) → FirstFault capacity all h ms k
        there p =
            let s = rw p at (says i h ms) in
            let same : s.0 ≡ k = omega (arith, s.1) in
            rw same at s.2

    pub fault_within : (j : ℕ) → check_from capacity all i h ms ≡ Err j → (i ≤ j) × (j < i + length ms)
    fault_within j p = let s = rw p at (says i h ms) in (omega (arith, s.1), omega (arith, s.1, fault_below s.2))
