use Prim.Native.Nat.{ℕ, ◌+◌, ◌≤◌, ◌<◌}
use mathlib.Core.Path.{◌≡◌, ap, ◌∙◌}
use mathlib.Core.List.{List}
use native.Mathlib.Omega.{arith}
use native.Mathlib.Decide.{ℕ_discrete}
use borrow.Author.Rules.{rules}
use lib.ListN.{length, get_or, take}
use Rattle.std.proofs.lemmas.List.{length-take-le, get_or-take}
use Rattle.bitset.specs.Set.{◌∩◌, ◌∖◌, size, bit}
use Rattle.bitset.proofs.Bits.{bit-∩, bit-∖}
use Rattle.bitset.proofs.Laws.{size_split}
use Rattle.bitset.proofs.Parts.{◌≼◌, without-≼}
use Rattle.drive.proofs.Groups.{group_stays, never_stays, next_first, stay_victims}
use Rattle.drive.proofs.choice.Groups.keep_from_near.Goals.{After-without-behind, After-common}
use Rattle.drive.proofs.choice.Groups.keep_from_near.Goals as goal

-- the groups are those before entry `count`
counted : (curves : List ℕ) (count j : ℕ) → length curves ≡ 64 → count ≤ 64
    → (length (take count curves) ≡ count) × (j < length (take count curves) → get_or (take count curves) j 0 ≡ get_or curves j 0)
counted curves count j long few =
    let n : length (take count curves) ≡ count = length-take-le count curves (omega arith) in
    (n, λ h. get_or-take count curves j 0 (omega (arith, n, h)))

-- how many those behind the group at hand are, and what they are
behind : (c : After-without-behind)
    → let q = c.loop-group in
    (q.group-index < c.args.self.now.count) × (c.without-behind.result ≡ q.left ∖ get_or c.args.self.now.curves q.group-index 0)
behind c =
    let q = c.loop-group in
    let g = c.args.self.now in
    let n = counted g.curves g.count q.group-index (search rules) g.few in
    (omega (arith, n.0, c.loop-group-test.true), c.without-behind.ensures ∙ ap (λ (x : ℕ). q.left ∖ x) (n.1 c.loop-group-test.true))

here : (c : After-common)
    → let q = c.loop-group in
    let group = get_or c.args.self.now.curves q.group-index 0 in
    (c.common.result ≡ q.left ∩ group) × (c.without-behind.result ≡ q.left ∖ group)
here c =
    let q = c.loop-group in
    let g = c.args.self.now in
    let n = counted g.curves g.count q.group-index (search rules) g.few in (
      c.common.ensures ∙ ap (λ (x : ℕ). q.left ∩ x) (n.1 c.loop-group-test.true),
      (behind (goal.at.After-common c).After-without-behind).1,
    )

pub left_after-requires : goal.left_after-requires
left_after-requires c =
    let q = c.loop-group in
    let e = here c in
    omega (arith, q.invariant.more, size_split q.left (get_or c.args.self.now.curves q.group-index 0), ap size e.0, ap size e.1, c.size-n.ensures)

pub returns-then-n-excess : goal.returns-then-n-excess
returns-then-n-excess c =
    let q = c.loop-group in
    let i = q.invariant in
    let a = c.args in
    let j = q.group-index in
    let group = get_or a.self.now.curves j 0 in
    let stay = c.left_after.result in
    let e = here (goal.at.returns-then-n-excess c).After-common in
    let f = rw e.0 at c.left_after.ensures in
    let n : size stay + a.excess ≡ size q.left =
    omega (arith, f.counted, size_split q.left group, ap size e.1, c.size-n.ensures, c.if-n-excess.true) in
    let own : stay ≼ q.left = λ x. omega (arith, f.part x, bit-∩ x q.left group) in
    let below = (behind (goal.at.returns-then-n-excess c).After-without-behind).0 in
    λ u ws g. let last = group_stays g q.left j i.part i.passed stay below f.part f.lower in
    c.without.ensures ∙ stay_victims a.candidates q.left stay a.excess ws (search rules) i.part own n last (i.first u ws g)

passed_too : (groups : List ℕ) (left j : ℕ) → ((i c : ℕ) → i < j → bit c (get_or groups i 0) ≡ 1 → bit c left ≡ 0)
    → (i c : ℕ) → i < j + 1 → bit c (get_or groups i 0) ≡ 1 → bit c (left ∖ get_or groups j 0) ≡ 0
passed_too groups left j old i c h m = go (ℕ_discrete i j)
  where
    go : Dec (i ≡ j) → bit c (left ∖ get_or groups j 0) ≡ 0
    go (yes e) = omega (arith, bit-∖ c left (get_or groups j 0), ap (λ (n : ℕ). bit c (get_or groups n 0)) e)
    go (no e) = omega (arith, bit-∖ c left (get_or groups j 0), old i c (omega arith) m)

pub loop-group-preserved : goal.loop-group-preserved
loop-group-preserved c =
    let q = c.loop-group in
    let i = q.invariant in
    let a = c.args in
    let j = q.group-index in
    let e = behind (goal.at.loop-group-preserved c).After-without-behind in
    rw e.1
    record {
      more = omega (arith, c.if-n-excess.false, c.size-n.ensures, ap size e.1);
      part = without-≼ q.left (get_or a.self.now.curves j 0) a.candidates i.part;
      passed = passed_too a.self.now.curves q.left j i.passed;
      first = λ u ws g. next_first g q.left j i.part i.passed e.0 (i.first u ws g);
    }

pub returns : goal.returns
returns c =
    let q = c.loop-group in
    let i = q.invariant in
    let stay = c.left_after-2.result in
    let f = c.left_after-2.ensures in
    let n = counted c.args.self.now.curves c.args.self.now.count q.group-index (search rules) c.args.self.now.few in
    λ u ws g. let last = never_stays g q.left q.group-index i.part i.passed stay (omega (arith, n.0, c.loop-group-test.false)) f.part f.lower in
    c.without-2.ensures ∙ stay_victims c.args.candidates q.left stay c.args.excess ws (search rules) i.part f.part f.counted last (i.first u ws g)
