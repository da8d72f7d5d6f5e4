-- A buffer into which a program has read its input.
use Rattle.std.specs.Prelude.{◌≡◌, List, ℕ, length, take}

-- its first n bytes are what was read of the whole input: all of it, or as much as the buffer takes
abbrev pub ReadFrom : List ℕ → ℕ → List ℕ → Type 0
ReadFrom whole n buffer = take (length buffer) whole ≡ take n buffer

-- and they are enough for f: whatever the whole input is, f makes of it what it makes of the bytes read
abbrev pub Enough : {A : Type 0} → (List ℕ → A) → ℕ → List ℕ → Type 0
Enough f n buffer = (whole : List ℕ) → ReadFrom whole n buffer → f whole ≡ f (take n buffer)
