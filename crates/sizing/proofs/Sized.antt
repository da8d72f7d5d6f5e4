-- What the two calls answer, behind the examination.
use mathlib.Core.Path.{◌≡◌, refl, ap, ◌∙◌}
use mathlib.Core.List.{List}
use Prim.Native.Nat.{ℕ, ◌≤◌}
use lib.ListN.{length, take, replicate}
use lib.Seq.{take_all, sets}
use Rattle.lists.proofs.Overwritten.{sets_front}
use Rattle.std.specs.Prelude.{Result, Ok, Err}
use Rattle.std.specs.Result.{result_unwrap_or}
use Rattle.job.specs.declared.Refusal.{Refusal}
use Rattle.job.specs.Refusal.{Outcome, done, outcome}
use Rattle.job.specs.Calls.{sizing_known}
use Rattle.every_size.specs.Sizes.{mark, all_sizes}
use Rattle.every_size.proofs.LoadCounts.{sizes_width}
use Rattle.planning.specs.Plan.{in_order}
use Rattle.sizing.specs.Sizing.{counts_given}
use Rattle.sizing.proofs.EverySize.{few, own, long, short}

-- what is taken of an answer: in the place of counts that are refused, marks
pub counts_taken : (r : Result (List ℕ) Refusal) (o : Outcome (List ℕ)) → outcome r ≡ o → result_unwrap_or r (replicate 64 mark) ≡ counts_given o
unfolding outcome counts_given
counts_taken (Ok counts) o e = rw (← e) refl
counts_taken (Err x) o e = rw (← e) refl

module _ (curves : ℕ) (wants order : List ℕ) (known : sizing_known curves wants order ≡ done tt) where
  -- the steps' wants, in the first entries of a list
  pub first_steps : (lent : List ℕ) → length wants ≤ length lent → take (length wants) (sets lent 0 (in_order wants order)) ≡ in_order wants order
  first_steps lent h = sets_front (in_order wants order) lent (length wants) (long curves wants order known) h

  -- the counts of steps that want these
  pub sized : (steps counts : List ℕ) → steps ≡ in_order wants order → counts ≡ all_sizes 64 (take 256 steps) → counts ≡ all_sizes curves (in_order wants order)
  sized steps counts s c =
      let ws = in_order wants order in
      c ∙ ap (λ (x : List ℕ). all_sizes 64 (take 256 x)) s ∙ ap (all_sizes 64) (take_all 256 ws (short curves wants order known))
      ∙ sizes_width curves 64 (few curves wants order known) ws (own curves wants order known)
