-- One turn of the examination of an order.
use mathlib.Core.Path.{◌≡◌, refl, ◌∙◌}
use mathlib.Core.Bool.{true, false, not, ◌&&◌}
use mathlib.Core.List.{List}
use Prim.Native.Nat.{ℕ, ◌+◌, ◌≤◌, ◌<◌}
use native.Mathlib.Omega.{arith}
use native.Mathlib.Numerals.{add-one}
use lib.Dec.{leb, ltb}
use lib.ListN.{length, get_or, take, drop, drop_of_length-le}
use lib.Seq.{drop-cons, take-suc, length-take-le}
use borrow.Author.Tests.{lt-ltb, le-ltb}
use Rattle.job.specs.Refusal.{refused, ◌>>◌, demand}
use Rattle.job.specs.Handed.{listed}
use Rattle.job.specs.Order.{order_from}

-- ---- the examination of an order, at position i
module _ (n : ℕ) (order : List ℕ) (i : ℕ) where
  pub order_next : i < length order
      → order_from n (take i order) (drop i order)
      ≡ ◌>>◌ (demand (ltb i n && ltb (get_or order i 0) n && not (listed (take i order) (get_or order i 0))) 8 i)
      (order_from n (take (i + 1) order) (drop (i + 1) order))
  unfolding order_from
  order_next h =
      let l : length (take i order) ≡ i = length-take-le i order (omega arith) in
      rw (add-one i, take-suc order i 0 h) (rw (drop-cons order i 0 h) (rw l refl))

  module _ (h : i < length order) where
    pub order_surplus : n ≤ i → order_from n (take i order) (drop i order) ≡ refused 8 i
    unfolding demand ◌>>◌
    order_surplus s = order_next h ∙ rw (le-ltb i n s) refl

    pub order_range : i < n → n ≤ get_or order i 0 → order_from n (take i order) (drop i order) ≡ refused 8 i
    unfolding demand ◌>>◌
    order_range b r = order_next h ∙ rw (lt-ltb i n b, le-ltb (get_or order i 0) n r) refl

    pub order_again : i < n → get_or order i 0 < n → listed (take i order) (get_or order i 0) ≡ true → order_from n (take i order) (drop i order) ≡ refused 8 i
    unfolding demand ◌>>◌
    order_again b r l = order_next h ∙ rw (lt-ltb i n b, lt-ltb (get_or order i 0) n r, l) refl

    pub order_pass : i < n → get_or order i 0 < n → listed (take i order) (get_or order i 0) ≡ false
        → order_from n (take i order) (drop i order) ≡ order_from n (take (i + 1) order) (drop (i + 1) order)
    unfolding demand ◌>>◌
    order_pass b r l = order_next h ∙ rw (lt-ltb i n b, lt-ltb (get_or order i 0) n r, l) refl

  pub order_end : length order ≤ i → i ≤ length order → order_from n (take i order) (drop i order) ≡ demand (leb n i) 8 i
  unfolding order_from
  order_end h g =
      let l : length (take i order) ≡ i = length-take-le i order g in
      rw (drop_of_length-le order h) (rw l refl)
