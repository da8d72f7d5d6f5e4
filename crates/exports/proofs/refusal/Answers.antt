-- `exports::refusal` meets its contract.
use mathlib.Core.Path.{refl}
use native.Mathlib.Omega.{arith}
use Rattle.exports.specs.Numbers.{numbered}
use Rattle.exports.proofs.Numbers.{number_small}
use Rattle.exports.proofs.refusal.Goals as goal

pub overflow_mul-result : goal.overflow_mul-result
overflow_mul-result c = omega (arith, c.number_of.ensures, number_small c.args.r)

pub overflow_add-result : goal.overflow_add-result
overflow_add-result c = omega (arith, c.number_of.ensures, number_small c.args.r)

pub returns : goal.returns
unfolding numbered
returns c = rw (c.number_of.ensures, c.figure_of.ensures) refl
