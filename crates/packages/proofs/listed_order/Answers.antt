-- `packages::listed_order` meets its contract.
use mathlib.Core.Path.{sym, ◌∙◌}
use native.Mathlib.Omega.{arith}
use Rattle.packages.specs.Tests.{up_to}
use Rattle.packages.proofs.Listed.{length_up_to}
use Rattle.packages.proofs.Entered.{entered_many, entered_short, entered_all}
use Rattle.packages.proofs.listed_order.Goals as goal

pub returns-then-tests-gt256 : goal.returns-then-tests-gt256
returns-then-tests-gt256 c = let a = c.args in sym (entered_many (up_to a.tests) a.order.now a.tests (length_up_to a.tests) (omega arith))

pub returns-then-order-tests : goal.returns-then-order-tests
returns-then-order-tests c =
    let a = c.args in
    sym (entered_short (up_to a.tests) a.order.now a.tests (length_up_to a.tests) (omega arith) (omega arith))

pub returns : goal.returns
returns c =
    let a = c.args in
    c.as_listed.ensures ∙ sym (entered_all (up_to a.tests) a.order.now a.tests (length_up_to a.tests) (omega arith) (omega arith))
