-- A finite set of numbers, written as one number: k is an element of s where bit k of s is set. Nothing here fixes a width.
use Rattle.std.specs.Prelude.{◌≡◌, Bool, ℕ, ◌-◌, ◌/◌, ◌%◌, ◌^◌, eqb}
use Rattle.std.specs.Int.Bits.{bit_and, bit_or}
use Rattle.std.specs.Int.Count.{ones}

infixl 70 ◌∩◌
infixl 68 ◌∪◌ ◌∖◌
infix 4 ◌∈◌ ◌⊆◌
-- what both have
abbrev pub ◌∩◌ : ℕ → ℕ → ℕ
a ∩ b = bit_and a b

-- what either has
abbrev pub ◌∪◌ : ℕ → ℕ → ℕ
a ∪ b = bit_or a b

-- what the first has and the second lacks
abbrev pub ◌∖◌ : ℕ → ℕ → ℕ
a ∖ b = a - bit_and a b

-- how many elements
abbrev pub size : ℕ → ℕ
size = ones

-- 1 where k is an element of s, else 0
abbrev pub bit : ℕ → ℕ → ℕ
bit k s = s / 2 ^ k % 2

-- k is an element of s
abbrev pub ◌∈◌ : ℕ → ℕ → Type 0
k ∈ s = bit k s ≡ 1

-- each element of a is one of b
abbrev pub ◌⊆◌ : ℕ → ℕ → Type 0
a ⊆ b = a ∩ b ≡ a

-- whether each element of a is one of b
unfoldable pub inside : ℕ → ℕ → Bool
inside a b = eqb (a ∖ b) 0

-- the numbers below n
abbrev pub below : ℕ → ℕ
below n = 2 ^ n - 1
