use Prim.Native.Nat.{ℕ, suc, ◌+◌, ◌-◌, ◌^◌, ◌<◌}
use mathlib.Core.Path.{◌≡◌, sym, ap, ◌∙◌}
use native.Mathlib.Omega.{arith}
use lib.ListN.{get_or}
use Rattle.bitset.specs.Set.{◌∪◌, ◌∖◌, bit}
use Rattle.bitset.proofs.Bits.{bit-∖}
use Rattle.bitset.proofs.Element.{shl_some, ∈-lt}
use Rattle.bitset.proofs.Parts.{in_range}
use Rattle.drive.proofs.Staying.{victims_first}
use Rattle.drive.proofs.Groups.{goes_first, chosen_start, chosen_next, chosen_left}
use Rattle.drive.proofs.choice.Groups.drop_from_far.Goals.{then-without-eq0, else-without-eq0}
use Rattle.drive.proofs.choice.Groups.drop_from_far.Goals as goal

pub loop-init : goal.loop-init
loop-init c = record { few = omega arith; far = λ cs ws g r h. chosen_start g _ _ (omega arith) }

pub loop-preserved : goal.loop-preserved
loop-preserved c =
    let q = c.loop in
    let a = c.args in
    let f = c.furthest-best in
    let v = f.result.curve in
    let group = c.without-group.result in
    let last : c.saturating_sub-last.result ≡ q.count - 1 = c.saturating_sub-last.ensures in
    let here : group ≡ get_or a.self.now.curves (q.count - 1) 0 ∖ q.chosen =
    c.without-group.ensures ∙ ap (λ (n : ℕ). get_or a.self.now.curves n 0 ∖ q.chosen) last in
    let e = rw (c.without.ensures, here, last) at f.ensures in
    let n = c.if-without-eq0.count in
    record {
      few =
          elim c.if-without-eq0.branch [
            | then-without-eq0 w ↦ omega (arith, w.count-is, last, q.invariant.few)
            | else-without-eq0 w ↦ omega (arith, w.count-is, q.invariant.few)
          ];
      far =
          λ cs ws g r h. let less : a.excess - q.counter ≡ suc (a.excess - (q.counter + 1)) = omega (arith, c.loop-test.true) in
          let k = rw less at (q.invariant.far cs ws g r h) in
          let p = goes_first g k.opened (chosen_left g k h) f.result (e.of_never ws) (e.of_group ws) in
          let mine : bit v cs ≡ 1 = omega (arith, p.0, bit-∖ v cs q.chosen) in
          let one : c.single-victim.result ≡ 2 ^ v = c.single-victim.ensures ∙ shl_some 64 v (∈-lt v 64 cs mine r) in
          let new : c.union-chosen.result ≡ q.chosen ∪ 2 ^ v = c.union-chosen.ensures ∙ ap (λ (x : ℕ). q.chosen ∪ x) one in
          let rest : c.without-in-loop.result ≡ get_or a.self.now.curves (q.count - 1) 0 ∖ q.chosen ∖ 2 ^ v = rw (here, one) at c.without-in-loop.ensures in
          let none : get_or a.self.now.curves (q.count - 1) 0 ∖ q.chosen ∖ 2 ^ v ≡ 0 → n ≡ q.count - 1 =
          λ z. elim c.if-without-eq0.branch [ then-without-eq0 w ↦ w.count-is ∙ last | else-without-eq0 w ↦ absurd (w.if-without-eq0.false (rest ∙ z)) ] in
          let some_left : 0 < get_or a.self.now.curves (q.count - 1) 0 ∖ q.chosen ∖ 2 ^ v → n ≡ q.count =
          λ z. elim c.if-without-eq0.branch [ then-without-eq0 w ↦ absurd (omega (arith, w.if-without-eq0.true, rest, z)) | else-without-eq0 w ↦ w.count-is ] in
          rw new (chosen_next g k v n p.0 p.1.1 none some_left);
    }

pub returns : goal.returns
returns c =
    let q = c.loop in
    λ cs ws g r h. let k = q.invariant.far cs ws g r h in
    sym (victims_first 64 _ cs q.chosen ws (omega (arith, k.size_chosen, c.loop-test.false)) (in_range 64 cs r) k.part k.first)
