-- `Round::join_tests` meets its contract.
use mathlib.Core.List.{append_assoc, List, ◌++◌}
use mathlib.Core.Path.{◌≡◌, refl, sym, ap, ◌∙◌}
use Prim.Native.Nat.{ℕ, ◌-◌}
use native.Mathlib.Omega.{arith}
use lib.ListN.{length-append, length, take, drop}
use lib.Seq.{take_at, drop_at}
use Rattle.packages.proofs.Runs as runs
use Rattle.packages.proofs.Round.join_tests.Goals as goal

pub returns : goal.returns
returns c =
    let p = c.args.part.now in
    let a = c.args.a in
    let from = length p - c.args.b in
    let way = c.ways-way in
    let one = c.reverse_if in
    let two = c.reverse_if-2 in
    let q = one.new.xs ++ drop a p in
    let r = take from q ++ (two.new.xs ++ drop (length q - from) (drop from q)) in
    λ x y z e f g.
    let front : take a p ≡ x = ap (take a) e ∙ take_at x (y ++ z) a f in
    let n : length (x ++ y) ≡ from = omega (arith, length-append x y, ap length e, length-append x (y ++ z), length-append y z) in
    let back : drop from p ≡ z = ap (drop from) (e ∙ sym (append_assoc x y z)) ∙ drop_at (x ++ y) z from n in
    runs.joined_part way.result.first way.result.second p q r x y z one.new.xs two.new.xs c.exchange.new.xs a
    c.args.b from e f g refl
    one.ensures refl two.ensures refl c.exchange.ensures
    ∙ ap (λ (l : List ℕ). l ++ y) (sym (rw (front, back) at way.ensures))
