-- `report::write_plan` meets its contract: the text is short enough to be counted.
use Rattle.std.proofs.Common.{rules}
use native.Mathlib.Omega.{arith}
use Rattle.report.proofs.Lines.{plan_word}
use Rattle.report.proofs.write_plan.Goals as goal

pub returns : goal.returns
returns c =
    let a = c.args in
    c.write_text.ensures _ (λ before after called. search rules)
    (plan_word a.head a.order.now a.drops.now a.loads.now a.end (omega arith) (omega arith) (omega arith) (omega arith)
    (λ j l. omega (arith, c.type_inv.order j)) (omega (arith, c.requires.count_value)))
