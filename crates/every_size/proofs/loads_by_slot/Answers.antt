use Prim.Native.Nat.{ℕ, ◌+◌}
use mathlib.Core.Path.{refl, sym, ap, ◌∙◌}
use mathlib.Core.List.{List, ◌∷◌}
use native.Mathlib.Omega.{arith}
use native.Mathlib.Numerals.{add-one}
use borrow.Author.Rules.{part_to_end}
use lib.ListN.{get_or, drop, get_or-replicate}
use lib.Seq.{drop-cons}
use Rattle.bitset.proofs.Laws.{size_le}
use Rattle.drive.specs.Steps.{together}
use Rattle.every_size.proofs.EverySize.{walking_start, slotted_here, walking_next, walking_end}
use Rattle.every_size.proofs.loads_by_slot.Goals as goal

pub loop-i-init : goal.loop-i-init
loop-i-init c =
    record {
      ahead = λ j h. c.write_later.ensures.by_index j h (omega (arith, c.requires));
      walking = walking_start _ _ (λ k l. get_or-replicate {A = ℕ} 64 k 64 0 l) refl;
    }

pub step-requires : goal.step-requires
step-requires c =
    let i = c.loop-i.invariant in
    let more = c.loop-i-test.true in
    let w = c.args.wants.now in
    let wide = c.type_inv.wants c.loop-i.i in record {
      used = i.ahead c.loop-i.i more ∙ ap together (sym (part_to_end w (c.loop-i.i + 1)));
      room = (i.walking.slotted.most, omega (arith, i.walking.few, more, c.requires, size_le 64 (get_or w c.loop-i.i 0) (omega (arith, wide))));
    }

pub loop-i-preserved : goal.loop-i-preserved
loop-i-preserved c =
    let st = c.step in
    let q = c.loop-i in
    let i = q.invariant in
    let w = c.args.wants.now in
    let wide = c.type_inv.wants q.i in
    let later = part_to_end w (q.i + 1) in
    let steps = drop-cons w q.i 0 c.loop-i-test.true
    ∙ ap {B = List ℕ} (λ (x : List ℕ). get_or w q.i 0 ∷ x) (ap (λ (n : ℕ). drop n w) (sym (add-one q.i)) ∙ sym later) in
    let s = slotted_here i.walking _ _ steps in
    record {
      ahead = i.ahead;
      walking = rw c.union-seen.ensures (walking_next i.walking _ _ steps (omega (arith, wide)) later (st.ensures.slotted i.walking.hold s)
          (st.ensures.loaded i.walking.hold s) st.ensures.more);
    }

pub returns-clause-counted : goal.returns-clause-counted
returns-clause-counted c = walking_end c.loop-i.invariant.walking c.loop-i-test.false
