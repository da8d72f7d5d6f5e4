-- A LIST THAT IS STOPPED HALFWAY. What a plan that passes the check holds behind any of its steps can be handed over as a holding; and a rest that is not
-- changed, planned again from what is held then, has the steps that it had.
use mathlib.Core.Path.{◌≡◌, refl, sym, ap, ◌∙◌}
use mathlib.Core.List.{List, [], ◌∷◌}
use Prim.Native.Nat.{ℕ, zero, suc}
use lib.ListN.{take, drop}
use Rattle.bitset.proofs.Parts.{◌≼◌, ≼-inside, in_range}
use Rattle.lists.specs.Choice.{Found}
use Rattle.job.specs.Refusal.{done}
use Rattle.job.specs.Words.{Job, capacity, IsHolding}
use Rattle.job.specs.Handed.{all_curves}
use Rattle.job.proofs.JobExact.{inside_below}
use Rattle.drive.specs.declared.Sets.{Sets}
use Rattle.drive.specs.Steps.{Move, moved, held_after, sets_of}
use Rattle.drive.specs.Plan.{furthest, next, plan_from}
use Rattle.drive.proofs.CheckExact.{AllKept, held-≼}
use Rattle.planning.specs.Plan.{Plan, in_order}
use Rattle.planning.specs.Planning.{our_plan, planning, plan_moves, plan_sets, checking}
use Rattle.planning.proofs.CheckExact.{passed}
use Rattle.planning.proofs.Demand3.{given}

-- ---- the first k steps of a plan that passes

kept_before : {capacity all h : ℕ} {ms : List Move} (k : ℕ) → AllKept capacity all h ms → AllKept capacity all h (take k ms)
kept_before zero ok = AllKept.none
kept_before (suc k) AllKept.none = AllKept.none
kept_before {h = h} (suc k) (AllKept.step {m = m} ok r) = AllKept.step ok (kept_before {h = moved h m.sets} k r)

sets_before : (k : ℕ) (ms : List Move) → sets_of (take k ms) ≡ take k (sets_of ms)
sets_before zero ms = refl
sets_before (suc k) [] = refl
sets_before (suc k) (m ∷ ms) = ap (λ (ss : List Sets). m.sets ∷ ss) (sets_before k ms)

pub rest_held : (j : Job) (held : ℕ) (order : List ℕ) (p : Plan) (m : ℕ) → checking j held order p ≡ done m
    → (k : ℕ) → IsHolding j (held_after held (take k (plan_sets j order p)))
rest_held j held order p m e k =
    let ok = passed j held order p m e in
    let all = all_curves j.rig.curves in
    let own = in_range j.rig.curves held ok.is_holding in
    let kept : held_after held (sets_of (take k (plan_moves j order p))) ≼ all = held-≼ own (kept_before k ok.steps) in
    let of_curves : held_after held (take k (plan_sets j order p)) ≼ all = rw (sets_before k (plan_moves j order p)) at kept in
    inside_below j.rig.curves _ (≼-inside _ all of_curves)

-- ---- the plan behind its first k steps

rest_same : (pick : ℕ → List ℕ → Found ℕ) (capacity held k : ℕ) (ws : List ℕ)
    → plan_from pick capacity (held_after held (take k (plan_from pick capacity held ws))) (drop k ws) ≡ drop k (plan_from pick capacity held ws)
unfolding plan_from held_after
rest_same pick capacity held zero ws = refl
rest_same pick capacity held (suc k) [] = refl
rest_same pick capacity held (suc k) (w ∷ ws) = rest_same pick capacity (moved held (next pick capacity held w ws)) k ws

pub rest_planned : (j rest : Job) (held k : ℕ) (order later : List ℕ) (lent room : ℕ) (plan again : List Sets) → planning j held order lent ≡ done plan
    → rest.rig ≡ j.rig → in_order rest.wants later ≡ drop k (in_order j.wants order)
    → planning rest (held_after held (take k plan)) later room ≡ done again → again ≡ drop k plan
unfolding our_plan
rest_planned j rest held k order later lent room plan again e r w f =
    let a = (given j held order lent plan e).is in
    let b = (given rest (held_after held (take k plan)) later room again f).is in
    sym (rw (r, w) at b)
    ∙ ap (λ (p : List Sets). plan_from (furthest j.rig.curves) (capacity j.rig) (held_after held (take k p)) (drop k (in_order j.wants order))) (sym a)
    ∙ rest_same (furthest j.rig.curves) (capacity j.rig) held k (in_order j.wants order)
    ∙ ap (drop k) a
