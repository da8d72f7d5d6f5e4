-- Heads, tails and flipping: one test of a run, and the four ways in which two packages meet.
use mathlib.Core.Path.{◌≡◌, refl, sym, ap, ◌∙◌}
use mathlib.Core.Bool.{Bool, true, false, cond}
use mathlib.Core.List.{List, [], ◌∷◌, ◌++◌, reverse, append_assoc}
use Prim.Native.Nat.{ℕ, ◌+◌, ◌-◌, ◌≤◌, ◌<◌}
use native.Mathlib.Omega.{arith}
use lib.ListN.{length, take, drop, length-append, length-reverse}
use lib.Seq.{take_at, drop_at}
use lib.Dec.{ltb}
use Rattle.std.proofs.Common.{Option, Some, None}
use Rattle.std.specs.Iterator.{AlwaysYields}
use borrow.Author.Tests.{le-leb, lt-leb}
use Rattle.bitset.specs.Set.{◌∪◌, size}
use Rattle.packages.specs.Tests.{wants_of, common}
use Rattle.packages.specs.Packages.{run_from, longer, Try, try, pick_try, ◌or_more◌, head, tail, flipped}
use Rattle.packages.proofs.Lists.{tail_lent, tail_back}
use Rattle.packages.specs.declared.Meeting.{Meeting}

-- v is the run's curves u with those of the next test t
module _ (wants : List ℕ) (places u v w t : ℕ) (l ts : List ℕ) (next : l ≡ t ∷ ts) (wanted : w ≡ wants_of wants t) (united : v ≡ u ∪ w) where
  pub run_more : size v ≤ places → run_from wants places u l ≡ run_from wants places v ts
  unfolding run_from longer
  run_more h =
      let e : u ∪ wants_of wants t ≡ v = ap (λ (x : ℕ). u ∪ x) (sym wanted) ∙ sym united in rw (next, run_from, e, le-leb (size v) places h) refl

  pub run_stop : places < size v → run_from wants places u l ≡ u
  unfolding run_from longer
  run_stop h =
      let e : u ∪ wants_of wants t ≡ v = ap (λ (x : ℕ). u ∪ x) (sym wanted) ∙ sym united in rw (next, run_from, e, lt-leb (size v) places h) refl

pub run_none : (wants : List ℕ) (places u : ℕ) (l : List ℕ) → l ≡ [] → run_from wants places u l ≡ u
unfolding run_from
run_none wants places u l e = rw e refl

-- what is left of a run over the tests ts: an iterator that gives tests from which the run goes on to the same
pub record Left {S A : Type 0} (steps : S → Option A → S → Type 0) (v : A → ℕ) (wants : List ℕ) (places : ℕ) (ts : List ℕ) (s : S) (u : ℕ) : Type 0 where
  pub rest : List ℕ
  pub yields : AlwaysYields steps v s rest
  pub goes : run_from wants places 0 ts ≡ run_from wants places u rest

module _ {S A : Type 0} {steps : S → Option A → S → Type 0} {v : A → ℕ} (wants : List ℕ) (places : ℕ) (ts : List ℕ) (s : S) (u : ℕ) where
  -- one test more
  module _ (x : A) (r : S) (w u' : ℕ) (step : steps s (Some x) r) (wanted : w ≡ wants_of wants (v x)) (united : u' ≡ u ∪ w) where
    pub left_more : size u' ≤ places → Left steps v wants places ts s u → Left steps v wants places ts r u'
    left_more h l = go l.rest l.yields l.goes
      where
        go : (rest : List ℕ) → AlwaysYields steps v s rest → run_from wants places 0 ts ≡ run_from wants places u rest → Left steps v wants places ts r u'
        go [] y e = absurd (y x r step)
        go (t ∷ rest) y e =
            let d = y.1 x r step in
            record { rest = rest; yields = d.1; goes = e ∙ run_more wants places u u' w t (t ∷ rest) rest refl (wanted ∙ ap (wants_of wants) d.0) united h }

    pub left_stop : places < size u' → Left steps v wants places ts s u → u ≡ run_from wants places 0 ts
    left_stop h l = go l.rest l.yields l.goes
      where
        go : (rest : List ℕ) → AlwaysYields steps v s rest → run_from wants places 0 ts ≡ run_from wants places u rest → u ≡ run_from wants places 0 ts
        go [] y e = absurd (y x r step)
        go (t ∷ rest) y e = sym (e ∙ run_stop wants places u u' w t (t ∷ rest) rest refl (wanted ∙ ap (wants_of wants) (y.1 x r step).0) united h)

  pub left_none : (r : S) → steps s None r → Left steps v wants places ts s u → u ≡ run_from wants places 0 ts
  left_none r step l = go l.rest l.yields l.goes
    where
      go : (rest : List ℕ) → AlwaysYields steps v s rest → run_from wants places 0 ts ≡ run_from wants places u rest → u ≡ run_from wants places 0 ts
      go [] y e = sym (e ∙ run_none wants places u [] refl)
      go (t ∷ rest) y e = absurd (y.0 r step)

-- ---- flipping

-- the packages a and b, each reversed where the meeting says so
abbrev pub turned : Bool → List ℕ → List ℕ
turned b l = cond b (reverse l) l

way : Meeting → List ℕ → List ℕ → Try
way m a b = record { meeting = m.common; order = turned m.first a ++ turned m.second b }

more_way : (m n : Meeting) (a b : List ℕ) → way (cond (ltb m.common n.common) n m) a b ≡ way m a b or_more way n a b
unfolding ◌or_more◌ pick_try way
more_way m n a b = go (ltb m.common n.common)
  where
    go : (t : Bool) → way (cond t n m) a b ≡ pick_try t (way m a b) (way n a b)
    go true = refl
    go false = refl

-- the four meetings, compared in the rule's order
module _ (wants : List ℕ) (places : ℕ) (a b : List ℕ) (ha ta hb tb : ℕ)
    (head_a : ha ≡ head wants places a) (tail_a : ta ≡ tail wants places a) (head_b : hb ≡ head wants places b) (tail_b : tb ≡ tail wants places b)
    (th tt hh ht one two three : Meeting) where
  pub flips_as : th ≡ record { common = common ta hb; first = false; second = false }
      → tt ≡ record { common = common ta tb; first = false; second = true }
      → hh ≡ record { common = common ha hb; first = true; second = false }
      → ht ≡ record { common = common ha tb; first = true; second = true }
      → one ≡ cond (ltb th.common tt.common) tt th → two ≡ cond (ltb one.common hh.common) hh one → three ≡ cond (ltb two.common ht.common) ht two
      → flipped wants places a b ≡ turned three.first a ++ turned three.second b
  unfolding flipped try way
  flips_as e f g h p q r =
      sym (ap (λ (m : Meeting). (way m a b).order) r ∙ ap (λ (x : Try). x.order) (more_way two ht a b)
      ∙ ap (λ (x : Try). (x or_more way ht a b).order) (ap (λ (m : Meeting). way m a b) q ∙ more_way one hh a b)
      ∙ ap (λ (x : Try). (x or_more way hh a b or_more way ht a b).order) (ap (λ (m : Meeting). way m a b) p ∙ more_way th tt a b)
      ∙ rw (e, f, g, h, head_a, tail_a, head_b, tail_b) refl)

length_turned : (t : Bool) (l : List ℕ) → length (turned t l) ≡ length l
length_turned true l = length-reverse l
length_turned false l = refl

-- a part that holds the first package x, others y and the second package z: after the two reversals and the exchange of the others and the second
module _ (f g : Bool) (p q r x y z one two three : List ℕ) (a b from : ℕ) (parts : p ≡ x ++ (y ++ z)) (first : length x ≡ a) (second : length z ≡ b)
    (start : from ≡ length p - b) where
  pub joined_part : one ≡ turned f (take a p) → q ≡ one ++ drop a p
      → two ≡ turned g (take (length q - from) (drop from q)) → r ≡ take from q ++ (two ++ drop (length q - from) (drop from q))
      → three ≡ drop (from - a) (take (length r - a) (drop a r)) ++ take (from - a) (take (length r - a) (drop a r))
      → take a r ++ (three ++ drop (length r - a) (drop a r)) ≡ turned f x ++ turned g z ++ y
  joined_part e₁ e₂ e₃ e₄ e₅ =
      let X = turned f x in
      let Z = turned g z in
      let all : length p ≡ length x + (length y + length z) = ap length parts ∙ length-append x (y ++ z) ∙ ap (λ (n : ℕ). length x + n) (length-append y z) in
      let one_is : one ≡ X = e₁ ∙ ap (turned f) (ap (take a) parts ∙ take_at x (y ++ z) a first) in
      let q_is : q ≡ (X ++ y) ++ z =
      e₂ ∙ ap (λ (l : List ℕ). l ++ drop a p) one_is ∙ ap (λ (l : List ℕ). X ++ l) (ap (drop a) parts ∙ drop_at x (y ++ z) a first)
      ∙ sym (append_assoc X y z) in
      let n : length (X ++ y) ≡ from = omega (arith, length-append X y, length_turned f x, all, start, first, second) in
      let two_is : two ≡ Z = e₃ ∙ ap (turned g) (tail_lent q from ∙ ap (drop from) q_is ∙ drop_at (X ++ y) z from n) in
      let r_is : r ≡ X ++ (y ++ Z) =
      e₄ ∙ tail_back q two from ∙ ap (λ (l : List ℕ). l ++ two) (ap (take from) q_is ∙ take_at (X ++ y) z from n) ∙ ap (λ (l : List ℕ). (X ++ y) ++ l) two_is
      ∙ append_assoc X y Z in
      let m : length X ≡ a = length_turned f x ∙ first in
      let rest : take (length r - a) (drop a r) ≡ y ++ Z = tail_lent r a ∙ ap (drop a) r_is ∙ drop_at X (y ++ Z) a m in
      let k : length y ≡ from - a = omega (arith, all, start, first, second) in
      let three_is : three ≡ Z ++ y =
      e₅ ∙ ap (λ (l : List ℕ). drop (from - a) l ++ take (from - a) l) rest ∙ ap (λ (l : List ℕ). l ++ take (from - a) (y ++ Z)) (drop_at y Z (from - a) k)
      ∙ ap (λ (l : List ℕ). Z ++ l) (take_at y Z (from - a) k) in
      tail_back r three a ∙ ap (λ (l : List ℕ). l ++ three) (ap (take a) r_is ∙ take_at X (y ++ Z) a m) ∙ ap (λ (l : List ℕ). X ++ l) three_is
      ∙ sym (append_assoc X Z y)
