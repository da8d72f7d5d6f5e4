-- `write_order` meets its contract: each branch is the rule's.
use mathlib.Core.Path.{◌≡◌, sym, ap, ◌∙◌}
use mathlib.Core.List.{List}
use Prim.Native.Nat.{ℕ}
use native.Mathlib.Omega.{arith}
use lib.ListN.{length}
use Rattle.job.specs.Refusal.{overwritten}
use Rattle.packages.specs.Tests.{up_to}
use Rattle.packages.specs.Packages.{packages}
use Rattle.packages.proofs.Listed.{length_up_to}
use Rattle.packages.proofs.Rounds.{packages_long}
use Rattle.packages.proofs.Entered.{entered_all}
use Rattle.ordering.proofs.Ordered.{by_0, by_1, by_3}
use Rattle.ordering.proofs.write_order.Goals as goal

over : (old l m : List ℕ) → m ≡ l → overwritten l old ≡ overwritten m old
over old l m e = ap (λ r. overwritten r old) (sym e)

pub returns-then-method-eq0 : goal.returns-then-method-eq0
returns-then-method-eq0 c =
    let a = c.args in
    let ws = a.wants.now in
    c.listed_order.ensures ∙ entered_all (up_to (length ws)) a.order.now _ (length_up_to (length ws)) (omega arith) (omega arith)
    ∙ over a.order.now _ _ (by_0 a.capacity ws a.method (omega arith))

pub returns-then-method-eq1 : goal.returns-then-method-eq1
returns-then-method-eq1 c =
    let a = c.args in
    c.reverse_cuthill_mckee.ensures ∙ over a.order.now _ _ (by_1 a.capacity a.wants.now a.method (omega arith))

pub returns : goal.returns
returns c =
    let a = c.args in
    let ws = a.wants.now in
    c.package_order.ensures
    ∙ entered_all (packages a.capacity ws) a.order.now _ (packages_long a.capacity ws) (omega arith) (omega arith)
    ∙ over a.order.now _ _ (by_3 a.capacity ws a.method (λ e. omega arith) (λ e. omega arith))
