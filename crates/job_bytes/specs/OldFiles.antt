-- Old job files: those with method 2, which 02's wish 8 took out. "Old job files with method 2 still read, as method 1, and are written back with 1."
use Rattle.std.specs.Prelude.{Bool, cond, ◌&&◌, List, ℕ, ◌+◌, ◌*◌, get_or, set, eqb}
use Rattle.bitset.specs.Set.{bit}

-- where the method byte stands, by the map: behind the map and, if their bits stand, places (a byte), curves (a byte) and tests (two)
unfoldable pub method_at : ℕ → ℕ
method_at map = 1 + bit 0 map + bit 1 map + 2 * bit 2 map

-- whether the bytes have a method byte, and it is 2
unfoldable pub old_method : List ℕ → Bool
old_method bs = eqb (bit 3 (get_or bs 0 0)) 1 && eqb (get_or bs (method_at (get_or bs 0 0)) 0) 2

-- the same bytes, with 1 in the place of a method byte 2
unfoldable pub upgraded : List ℕ → List ℕ
upgraded bs = cond (old_method bs) (set bs (method_at (get_or bs 0 0)) 1) bs
