-- The slots of the curves, which only contracts of private functions cite: `hold p` is what the drive with p places holds, and a curve with slot s is held by
-- the drives with more than s places.
use Rattle.std.specs.Prelude.{◌≡◌, ◌⊎◌, List, [], ◌∷◌, ℕ, ◌+◌, ◌-◌, ◌^◌, ◌≤◌, ◌<◌, min, get_or}
use Rattle.bitset.specs.Set.{◌∩◌, ◌∖◌, size, bit, below}
use Rattle.drive.specs.Steps.{moved, together}
use Rattle.drive.specs.Plan.{furthest, next}
use Rattle.drive.specs.ContractWords.{GoesBefore}

-- the sum of some numbers
unfoldable pub sum : List ℕ → ℕ
sum [] = 0
sum (x ∷ xs) = x + sum xs

-- 1 where the drive with p places holds a curve with slot s, else 0
abbrev pub holds_at : ℕ → ℕ → ℕ
holds_at s p = min 1 (p - s)

-- what the drives hold behind a step of our plan, whose test wants w, before later ones that want ws
abbrev pub held_next : (ℕ → ℕ) → ℕ → List ℕ → ℕ → ℕ
held_next hold w ws p = moved (hold p) (next (furthest 64) p (hold p) w ws)

-- of the curves that the steps to come want, which want ws: each drive holds those that its slot says, and one size more holds at most one curve more. What the
-- drives hold was seen before.
pub record Slotted (hold : ℕ → ℕ) (seen : ℕ) (ws slots : List ℕ) : Type 0 where
  pub most : (c : ℕ) → get_or slots c 0 ≤ 64
  pub known : (p c : ℕ) → bit c (hold p) ≤ bit c seen
  pub agree : (c p : ℕ) → c < 64 → bit c (together ws) ≡ 1 → 1 ≤ p → p ≤ 64 → bit c (hold p) ≡ holds_at (get_or slots c 0) p
  pub apart : (c d : ℕ) → c < 64 → d < 64 → bit c (together ws) ≡ 1 → bit d (together ws) ≡ 1 → get_or slots c 0 ≡ get_or slots d 0
      → 0 < get_or slots c 0 → get_or slots c 0 < 64 → c ≡ d

-- before the others get new slots: those seen before that the test does not want, and a later step does
pub record Waiting (hold : ℕ → ℕ) (w seen others : ℕ) (ws before : List ℕ) : Type 0 where
  pub range : seen < 2 ^ 64
  pub most : (c : ℕ) → get_or before c 0 ≤ 64
  pub known : (p c : ℕ) → bit c (hold p) ≤ bit c seen
  pub these : others ≡ (seen ∖ w) ∩ together ws
  pub agree : (c p : ℕ) → bit c others ≡ 1 → 1 ≤ p → p ≤ 64 → bit c (hold p) ≡ holds_at (get_or before c 0) p
  pub apart : (c d : ℕ) → bit c others ≡ 1 → bit d others ≡ 1 → get_or before c 0 ≡ get_or before d 0 → 0 < get_or before c 0 → get_or before c 0 < 64 → c ≡ d

-- of the others, some have got their slots, and this group is the next: each of it goes before those, and after all that are left
pub record NextGroup (others placed group : ℕ) (ws : List ℕ) : Type 0 where
  pub part : (c : ℕ) → bit c group ≡ 1 → (bit c others ≡ 1) × (bit c placed ≡ 0)
  pub later : (c d : ℕ) → bit c group ≡ 1 → bit d placed ≡ 1 → GoesBefore ws c d
  pub sooner : (c d : ℕ) → bit c group ≡ 1 → bit d others ≡ 1 → bit d placed ≡ 0 → bit d group ≡ 0 → GoesBefore ws d c
  pub same : (c d : ℕ) → bit c group ≡ 1 → bit d group ≡ 1 → d ≤ c → GoesBefore ws c d

-- those of the others that are placed have new slots, and so many slots are free
pub record Placing (hold : ℕ → ℕ) (w others placed free : ℕ) (ws before slots : List ℕ) : Type 0 where
  pub part : (c : ℕ) → bit c placed ≤ bit c others
  pub most : (c : ℕ) → get_or slots c 0 ≤ 64
  -- as many slots below p are free as the drive with p places has room for, behind the wanted curves and those of its own that are placed
  pub room : (p : ℕ) → 1 ≤ p → p ≤ 64 → size (free ∩ below p) ≡ (p - size w) - size (hold p ∩ placed)
  -- the slot of one that waits is free, or none below it is
  pub vacant : (c : ℕ) → bit c others ≡ 1 → bit c placed ≡ 0 → get_or before c 0 < 64
      → (bit (get_or before c 0) free ≡ 1) ⊎ (size (free ∩ below (get_or before c 0)) ≡ 0)
  pub waits : (c : ℕ) → bit c placed ≡ 0 → get_or slots c 0 ≡ get_or before c 0
  pub agree : (c p : ℕ) → bit c placed ≡ 1 → 1 ≤ p → p ≤ 64 → bit c (held_next hold w ws p) ≡ holds_at (get_or slots c 0) p
  pub taken : (c : ℕ) → bit c placed ≡ 1 → bit (get_or slots c 0) free ≡ 0
  pub apart : (c d : ℕ) → bit c placed ≡ 1 → bit d placed ≡ 1 → get_or slots c 0 ≡ get_or slots d 0 → get_or slots c 0 < 64 → c ≡ d
