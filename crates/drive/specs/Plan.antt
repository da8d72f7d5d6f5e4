-- "Our plan": the choice of the drops, one step, and all steps.
use Rattle.std.specs.Prelude.{Bool, List, [], ◌∷◌, ℕ, zero, suc, ◌-◌, ◌^◌, eqb}
use Rattle.bitset.specs.Set.{◌∪◌, ◌∖◌, size, bit}
use Rattle.lists.specs.Choice.{Found, nobody, found, best_of}
use Rattle.drive.specs.declared.choice.NextUse.{NextUse}
use Rattle.drive.specs.declared.Sets.{Sets}
use Rattle.drive.specs.Steps.{moved}
use Rattle.drive.specs.Uses.{next_use, further, not_nearer}

-- of the candidates cs among n curves, one after the other from the lowest: each takes the place of the one before it where `takes` says so, by its own next use
-- and that of the other
unfoldable pub chosen_by : (NextUse → NextUse → Bool) → ℕ → ℕ → List ℕ → Found ℕ
chosen_by takes n cs ws = best_of (λ c. eqb (bit c cs) 1) (λ b c. takes (next_use b ws) (next_use c ws)) (λ c. c) n nobody

-- "the curve whose next use in a later step is furthest"; 02, wish 2: "Of curves with equally distant next use the highest number is dropped": a curve takes the
-- place of a lower one where its next use is not nearer
unfoldable pub furthest : ℕ → ℕ → List ℕ → Found ℕ
furthest = chosen_by not_nearer

-- 01's rule, which wish 2 replaced: "Ties go to the lowest curve number": only where its own next use is further. The statement that load counts are the same
-- "under either tie rule" speaks of it, and nothing else.
unfoldable pub furthest_lowest : ℕ → ℕ → List ℕ → Found ℕ
furthest_lowest = chosen_by further

-- the victim, and those that are chosen after it; none where there is no candidate (never met where there are as many as have to go: `OurPlan`)
unfoldable pub and_then : Found ℕ → (ℕ → ℕ) → ℕ
and_then nobody rest = 0
and_then (found v) rest = 2 ^ v ∪ rest v

-- the plan that drops what `pick` finds among the candidates, given the wants of the later steps
module _ (pick : ℕ → List ℕ → Found ℕ) where
  -- "one by one": e of the candidates cs
  unfoldable pub victims : ℕ → ℕ → List ℕ → ℕ
  victims zero cs ws = 0
  victims (suc e) cs ws = and_then (pick cs ws) (λ v. victims e (cs ∖ 2 ^ v) ws)

  module _ (capacity : ℕ) where
    -- "If held and wanted curves together exceed the places, drop exactly the excess, from held curves that the test doesn't want"
    unfoldable pub drops_for : ℕ → ℕ → List ℕ → ℕ
    drops_for h w ws = victims (size (h ∪ w) - capacity) (h ∖ w) ws

    -- one step, with h held: "Load what is wanted and not held."
    abbrev pub next : ℕ → ℕ → List ℕ → Sets
    next h w ws = record { drops = drops_for h w ws; loads = w ∖ h }

    -- all steps, with h held before the first
    unfoldable pub plan_from : ℕ → List ℕ → List Sets
    plan_from h [] = []
    plan_from h (w ∷ ws) = next h w ws ∷ plan_from (moved h (next h w ws)) ws
