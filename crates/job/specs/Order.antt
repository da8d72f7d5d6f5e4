-- "8, position: first position with a number out of range or seen before, or first missing or surplus position, the smaller".
use Rattle.std.specs.Prelude.{not, ◌&&◌, List, [], ◌∷◌, ◌++◌, ℕ, length, leb, ltb}
use Rattle.job.specs.Refusal.{Outcome, ◌>>◌, demand}
use Rattle.job.specs.Handed.{listed}

-- the order of n tests from a position on, behind the tests before it
unfoldable pub order_from : ℕ → List ℕ → List ℕ → Outcome (Unit {0})
order_from n before [] = demand (leb n (length before)) 8 (length before)
order_from n before (t ∷ ts) = do
  demand (ltb (length before) n && ltb t n && not (listed before t)) 8 (length before)
  order_from n (before ++ (t ∷ [])) ts

-- 8: whether a list of numbers is an order of n tests
abbrev pub order_known : ℕ → List ℕ → Outcome (Unit {0})
order_known n order = order_from n [] order
