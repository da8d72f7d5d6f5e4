use mathlib.Core.Path.{◌≡◌, sym, ◌∙◌}
use mathlib.Core.List.{List, [], ◌∷◌, ◌++◌, append_assoc, append-nil}
use Prim.Native.Nat.{ℕ, suc, ◌+◌, ◌<◌}
use native.Mathlib.Numerals.{add-one}
use native.Mathlib.Omega.{arith}
use lib.ListN.{length, take, drop, set, get_or, drop_of_length-le}
use lib.Seq.{take-suc, drop-cons, set_at, length-take-le, take_all}
use Rattle.report.proofs.copy_text.Goals as goal

-- one byte more
front_more : (f t : List ℕ) (i : ℕ) → i < length f → i < length t → set (take i f ++ drop i t) i (get_or f i 0) ≡ take (i + 1) f ++ drop (i + 1) t
front_more f t i p q =
    rw (add-one, drop-cons t i 0 q, take-suc f i 0 p)
    (set_at (take i f) (get_or t i 0) (drop (suc i) t) (get_or f i 0) i (length-take-le i f (omega arith))
    ∙ sym (append_assoc (take i f) (get_or f i 0 ∷ []) (drop (suc i) t)))

pub loop-i-preserved : goal.loop-i-preserved
loop-i-preserved c =
    let a = c.args in
    rw c.loop-i.invariant (front_more a.text.now a.to.now c.loop-i.i c.loop-i-test.true (omega (arith, c.loop-i-test.true, c.requires)))

pub returns : goal.returns
returns c =
    let a = c.args in
    let i = c.loop-i.i in
    let all = take_all i a.text.now c.loop-i-test.false in
    let none = drop_of_length-le a.to.now {i = i} (omega (arith, c.loop-i-test.false, c.requires)) in
    c.loop-i.invariant ∙ rw (all, none) (append-nil a.text.now)
