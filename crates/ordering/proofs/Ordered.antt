-- The methods by their numbers. Ordering by its examinations: where one of them refuses, and where none does.
use mathlib.Core.Path.{◌≡◌, refl, ◌∙◌}
use mathlib.Core.List.{List}
use Prim.Native.Nat.{ℕ, zero, suc, ◌≤◌, ◌<◌}
use lib.ListN.{length}
use borrow.Author.Tests.{lt-leb}
use Rattle.job.specs.Refusal.{done, refused, ◌>>=◌, demand, room}
use Rattle.job.specs.Words.{Job, capacity}
use Rattle.job.specs.Calls.{ordering_known}
use Rattle.job.proofs.Laws.{done_both, done_room}
use Rattle.job.proofs.Examination.{refused_both}
use Rattle.job.proofs.Orders.{order_length}
use Rattle.packages.specs.Tests.{up_to}
use Rattle.packages.specs.Packages.{packages}
use Rattle.ordering.specs.Methods.{reverse_cuthill_mckee, order_by}
use Rattle.ordering.specs.Ordering.{ordering}
use Rattle.ordering.proofs.Complete.{order_complete}

-- ---- the methods by their numbers
module _ (places : ℕ) (wants : List ℕ) where
  pub by_0 : (m : ℕ) → m ≡ 0 → order_by m places wants ≡ up_to (length wants)
  unfolding order_by
  by_0 m e = rw e refl

  pub by_1 : (m : ℕ) → m ≡ 1 → order_by m places wants ≡ reverse_cuthill_mckee wants
  unfolding order_by
  by_1 m e = rw e refl

  pub by_3 : (m : ℕ) → (m ≡ 0 → ⊥) → (m ≡ 1 → ⊥) → order_by m places wants ≡ packages places wants
  unfolding order_by
  by_3 zero p q = absurd (p refl)
  by_3 (suc zero) p q = absurd (q refl)
  by_3 (suc (suc m)) p q = refl

-- ---- the examinations
module _ (method : ℕ) (j : Job) (lent : ℕ) where
  pub not_known : (k i : ℕ) → ordering_known method j ≡ refused k i → ordering method j lent ≡ refused k i
  unfolding ordering
  not_known k i e = refused_both _ _ k i e

  module _ (known : ordering_known method j ≡ done tt) where
    pub no_room : lent < length j.wants → ordering method j lent ≡ refused 9 (length j.wants)
    unfolding ordering room demand ◌>>=◌
    no_room h = done_both _ _ known ∙ rw (lt-leb (length j.wants) lent h) refl

    pub ordered : length j.wants ≤ lent → ordering method j lent ≡ done (order_by method (capacity j.rig) j.wants)
    unfolding ordering ◌>>=◌
    ordered h = done_both _ _ known ∙ rw (done_room lent (length j.wants) h) refl

-- an order has an entry for each test
pub order_entries : (method places : ℕ) (wants : List ℕ) → length (order_by method places wants) ≡ length wants
order_entries method places wants = order_length (length wants) (order_by method places wants) (order_complete method places wants)
