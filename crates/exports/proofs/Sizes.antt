-- What is asked of a table of drive sizes.
use mathlib.Core.Path.{◌≡◌, refl}
use Prim.Native.Nat.{ℕ, zero, suc}
use Rattle.lists.specs.Choice.{nobody, found}
use Rattle.exports.specs.Numbers.{asks}

pub asks_none : (asked loads : ℕ) → asked ≡ 0 → asks asked loads ≡ nobody
unfolding asks
asks_none asked loads e = rw e refl

pub asks_some : (asked loads : ℕ) → (asked ≡ 0 → ⊥) → asks asked loads ≡ found loads
unfolding asks
asks_some zero loads n = absurd (n refl)
asks_some (suc asked) loads n = refl
