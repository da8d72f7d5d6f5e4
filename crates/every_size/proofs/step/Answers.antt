-- `step` meets its contract: the wanted curves are loaded, and the others get their new slots.
use Prim.Native.Nat.{ℕ, ◌+◌}
use mathlib.Core.Path.{◌≡◌, ap, ◌∙◌}
use native.Mathlib.Omega.{arith}
use borrow.Author.Rules.{rules}
use Rattle.bitset.specs.Set.{◌∩◌, ◌∖◌, size, bit}
use Rattle.bitset.proofs.Bits.{bit-∩, bit_empty}
use Rattle.drive.specs.Steps.{together}
use Rattle.drive.proofs.Groups.{without_none}
use Rattle.every_size.specs.ContractWords.{sum}
use Rattle.every_size.proofs.Places.{loads_agree, waiting_others, slotted_next}
use Rattle.every_size.proofs.step.Goals as goal

pub place_others-requires : goal.place_others-requires
place_others-requires c k = omega (arith, ap (bit k) c.common-others.ensures, bit-∩ k c.without.result c.args.used, ap (bit k) c.requires.used)

pub returns : goal.returns
returns c =
    let a = c.args in
    let lw = c.load_wanted.ensures in
    let po = c.place_others in
    let others : c.common-others.result ≡ (a.seen ∖ a.want) ∩ together a.later.now =
    c.common-others.ensures ∙ ap (λ (x : ℕ). x ∩ a.used) c.without.ensures ∙ ap (λ (x : ℕ). (a.seen ∖ a.want) ∩ x) c.requires.used in
    let placed = rw others at po.ensures in record {
      slotted = (λ hold s. slotted_next s (search rules) (search rules) lw.wanted lw.others
          (placed hold a.want a.seen c.size.ensures (waiting_others s (search rules) (search rules) lw.wanted lw.others)));
      loaded = (λ hold s p o m. lw.loaded p (hold p) (loads_agree s (search rules) (search rules) p o m));
      more = (lw.loaded 0 0 (λ k i. bit_empty k ∙ omega arith) ∙ ap (λ (x : ℕ). sum a.loads.now + size x) (without_none a.want));
    }
