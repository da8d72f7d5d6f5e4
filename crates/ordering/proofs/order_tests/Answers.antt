-- `order_tests` meets its contract: each refusal is the rule's, and where there is none the order is written.
use mathlib.Core.Path.{◌≡◌, sym, ap, ◌∙◌}
use mathlib.Core.List.{List}
use Prim.Native.Nat.{ℕ}
use native.Mathlib.Omega.{arith}
use lib.ListN.{length}
use Rattle.job.specs.Refusal.{done, outcome, overwritten}
use Rattle.job.specs.Words.{job_of, capacity}
use Rattle.job.specs.Handed.{job_known_by}
use Rattle.job.specs.Calls.{ordering_known}
use Rattle.job.proofs.Laws.{both_done, made_refused, made_done, handed_on}
use Rattle.job.proofs.JobExact.{job_by_exact}
use Rattle.ordering.specs.Methods.{order_by}
use Rattle.ordering.specs.Ordering.{order_answer, order_list}
use Rattle.ordering.proofs.Ordered.{not_known, no_room, ordered, order_entries}
use Rattle.ordering.proofs.order_tests.Goals.{In_ok-examine_ordering}
use Rattle.ordering.proofs.order_tests.Goals as goal

-- 10 and 7 were asked
known : (c : In_ok-examine_ordering) → let a =
    c.args in ordering_known a.method (job_of a.rig a.wants.now) ≡ done tt
unfolding outcome
known c = sym c.in_ok-examine_ordering.ensures

pub returns-in_err-examine_ordering : goal.returns-in_err-examine_ordering
unfolding outcome order_answer order_list
returns-in_err-examine_ordering c =
    let a = c.args in
    let both =
    made_refused _ _ _ _ (not_known a.method (job_of a.rig a.wants.now) (length a.order.now) _ _ (sym c.in_err-examine_ordering.ensures)) in
    record { answer = handed_on _ _ c.from_residual.ensures.1 ∙ both.0; list = both.1 }

pub returns-then-order-n : goal.returns-then-order-n
unfolding outcome order_answer order_list
returns-then-order-n c =
    let a = c.args in
    let both =
    made_refused _ _ _ _ (no_room a.method (job_of a.rig a.wants.now) (length a.order.now) (known (goal.at.returns-then-order-n c).In_ok-examine_ordering)
    c.if-order-n.true) in
    record { answer = both.0; list = both.1 }

pub write_order-requires : goal.write_order-requires
unfolding ordering_known
write_order-requires c =
    let a = c.args in
    let j = job_of a.rig a.wants.now in
    (((job_by_exact j a.method).0 (both_done (job_known_by a.method j) _ tt (known (goal.at.write_order-requires c).In_ok-examine_ordering)).0).0.tests_bound, omega arith)

pub returns : goal.returns
unfolding outcome order_answer order_list
returns c =
    let a = c.args in
    let m = made_done _ a.order.now _ (ordered a.method (job_of a.rig a.wants.now) (length a.order.now) (known (goal.at.returns c).In_ok-examine_ordering) (omega arith))
    in
    let e = rw (order_entries a.method (capacity a.rig) a.wants.now) at m.0 in
    let w : ℕ → List ℕ = λ n. overwritten (order_by a.method n a.wants.now) a.order.now in
    let left : _ ≡ w c.capacity-capacity.result = c.write_order.ensures in
    record { answer = e; list = left ∙ ap w c.capacity-capacity.ensures ∙ m.1 }
