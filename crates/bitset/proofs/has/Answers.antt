-- Beyond 64 there is no element.
use native.Mathlib.Omega.{arith}
use mathlib.Core.Path.{sym, ◌∙◌}
use borrow.Author.Tests.{le-ltb, ne_eqb}
use lib.Pow.{pow_mono}
use Rattle.bitset.specs.Set.{bit}
use Rattle.bitset.proofs.Bits.{bit_beyond}
use Rattle.bitset.proofs.has.Goals as goal

pub returns-else-k-lt64 : goal.returns-else-k-lt64
returns-else-k-lt64 c =
    le-ltb c.args.k 64 c.if-k-lt64.false
    ∙ sym (ne_eqb (bit c.args.k c.args.s) 1 (λ e. omega (arith, bit_beyond c.args.k c.args.s (omega (arith, pow_mono c.if-k-lt64.false)))))
