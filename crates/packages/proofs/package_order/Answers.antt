-- `packages::package_order` meets its contract: the order has as many entries as there are tests.
use mathlib.Core.Path.{sym, ◌∙◌}
use native.Mathlib.Omega.{arith}
use Rattle.packages.specs.Packages.{packages}
use Rattle.packages.proofs.Rounds.{packages_long}
use Rattle.packages.proofs.Entered.{entered_many, entered_short, entered_all}
use Rattle.packages.proofs.package_order.Goals as goal

pub returns-then-wants-gt256 : goal.returns-then-wants-gt256
returns-then-wants-gt256 c =
    let a = c.args in
    sym (entered_many (packages a.places a.wants.now) a.order.now _ (packages_long a.places a.wants.now) (omega arith))

pub returns-then-order-wants : goal.returns-then-order-wants
returns-then-order-wants c =
    let a = c.args in
    sym (entered_short (packages a.places a.wants.now) a.order.now _ (packages_long a.places a.wants.now) (omega arith) (omega arith))

pub returns : goal.returns
returns c =
    let a = c.args in
    c.order_by_packages.ensures
    ∙ sym (entered_all (packages a.places a.wants.now) a.order.now _ (packages_long a.places a.wants.now) (omega arith) (omega arith))
