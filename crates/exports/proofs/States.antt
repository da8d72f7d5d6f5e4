-- The numbers of a state, as they are read and written.
use mathlib.Core.Path.{◌≡◌, refl, sym, ap, ◌∙◌}
use mathlib.Core.List.{List, [], ◌∷◌, ◌++◌, append-nil}
use Prim.Native.Nat.{ℕ, ◌≤◌}
use native.Mathlib.Omega.{arith}
use lib.ListN.{length, get_or, take, drop, set, length-drop, drop_of_length-le}
use Rattle.stepping.specs.declared.State.{State}
use Rattle.exports.specs.States.{numbers_of, state_of}

-- the numbers of a state of numbers are these
pub numbers_back : (ns : List ℕ) → 4 ≤ length ns → numbers_of (state_of ns) ≡ ns
numbers_back [] l = absurd (omega arith)
numbers_back (a ∷ []) l = absurd (omega arith)
numbers_back (a ∷ b ∷ []) l = absurd (omega arith)
numbers_back (a ∷ b ∷ c ∷ []) l = absurd (omega arith)
numbers_back (a ∷ b ∷ c ∷ d ∷ ws) l = refl

-- .. when what is held and the committed steps are written
pub numbers_moved : (ns : List ℕ) (held committed : ℕ) → 4 ≤ length ns
    → set (set ns 1 held) 2 committed
    ≡ numbers_of (record { capacity = get_or ns 0 0; held = held; committed = committed; tests = get_or ns 3 0; wants = drop 4 ns })
numbers_moved ns held committed l = ap (λ (xs : List ℕ). set (set xs 1 held) 2 committed) (sym (numbers_back ns l))

-- .. and when all are written
pub numbers_written : (ns : List ℕ) (s : State) → length ns ≡ 260
    → let four = set (set (set (set ns 0 s.capacity) 1 s.held) 2 s.committed) 3 s.tests in
    take 4 four ++ (s.wants ++ drop 256 (drop 4 four)) ≡ numbers_of s
numbers_written ns s l =
    let four = ap (λ (xs : List ℕ). set (set (set (set xs 0 s.capacity) 1 s.held) 2 s.committed) 3 s.tests) (sym (numbers_back ns (omega arith))) in
    let behind = drop_of_length-le (drop 4 ns) {i = 256} (omega (arith, length-drop 4 ns)) in
    ap (λ (xs : List ℕ). take 4 xs ++ (s.wants ++ drop 256 (drop 4 xs))) four
    ∙ ap (λ (xs : List ℕ). s.capacity ∷ s.held ∷ s.committed ∷ s.tests ∷ (s.wants ++ xs)) behind
    ∙ ap (λ (xs : List ℕ). s.capacity ∷ s.held ∷ s.committed ∷ s.tests ∷ xs) (append-nil s.wants)
