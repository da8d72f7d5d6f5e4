-- `report::Text::decimal` meets its contract: the library's digits are those of `decimal`.
use mathlib.Core.Path.{subst, ◌∙◌}
use mathlib.Core.List.{List}
use Prim.Native.Nat.{ℕ}
use native.Mathlib.Omega.{arith}
use Rattle.report.specs.ContractWords.{Appended}
use Rattle.report.proofs.Digits.{printed_decimal}
use Rattle.report.proofs.Text.decimal.Goals as goal

pub returns : goal.returns
returns c =
    let n = c.args.n in
    subst (λ (bs : List ℕ). Appended c.args.self.now bs c.text.new.self)
    (c.as_bytes.ensures.value ∙ c.format.ensures.text ∙ printed_decimal n (omega (arith, c.ranges.n))) c.text.ensures
