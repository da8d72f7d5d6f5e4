-- `report::put_text` meets its contract: the closure's text stands behind nothing.
use mathlib.Core.Path.{◌∙◌}
use native.Mathlib.Omega.{arith}
use Rattle.std.proofs.Common.{rules}
use Rattle.report.proofs.Writing.{sets_front}
use Rattle.report.proofs.put_text.Goals as goal

pub returns : goal.returns
returns g c =
    λ t p l.
    let a = p _ _ c.put.ensures in
    record {
      counted = omega (arith, a.counted (omega arith));
      written = λ m. search (rules, a.written (omega arith) (omega arith) ∙ sets_front t c.args.out.now m, a.same_reference);
    }
