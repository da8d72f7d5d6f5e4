-- The entries of a state that are steps.
use mathlib.Core.Path.{◌≡◌, refl, sym, ap, ◌∙◌}
use mathlib.Core.List.{List}
use Prim.Native.Nat.{ℕ, min, ◌≤◌}
use native.Mathlib.Omega.{arith}
use native.Mathlib.Decide.{dec_le}
use lib.ListN.{length, take}
use lib.Seq.{length-take-le, take_all}

module _ (list : List ℕ) (tests end : ℕ) (entries : length list ≡ 256) (is : end ≡ min tests 256) where
  pub few_steps : end ≤ length list
  few_steps = omega arith

  pub count_steps : end ≡ length (take end list)
  count_steps = sym (length-take-le end list few_steps)

  -- as many entries as there are tests, or all
  pub first_entries : take end list ≡ take tests list
  first_entries = go (dec_le tests 256)
    where
      go : Dec (tests ≤ 256) → take end list ≡ take tests list
      go (yes l) = let e : end ≡ tests = omega arith in rw e refl
      go (no l) = take_all end list (omega arith) ∙ sym (take_all tests list (omega arith))

  pub few_wants : length (take tests list) ≤ 256
  few_wants = omega (arith, ap length first_entries, count_steps)
