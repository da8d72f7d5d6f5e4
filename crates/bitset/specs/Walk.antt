-- A walk over a set, from its lowest element on, which is taken out each time.
use Rattle.std.specs.Prelude.{◌≡◌, ℕ, ◌^◌, ◌<◌, Option, MatchOption}
use Rattle.std.specs.Int.Count.{count_trailing_zeros}
use Rattle.bitset.specs.Set.{◌∖◌}
use Rattle.bitset.specs.declared.Rising.{Rising}

-- one step of a walk: the lowest element of those left, which leaves them; none where none is left
abbrev pub LowestFirst : Rising → Option ℕ → Rising → Type 0
LowestFirst s r t =
    MatchOption r ((s.left ≡ 0) × (t.left ≡ 0)) (λ k. (0 < s.left) × (k ≡ count_trailing_zeros 64 s.left) × (t.left ≡ s.left ∖ 2 ^ k))
