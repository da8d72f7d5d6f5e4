use Prim.Native.Nat.{ℕ, ◌-◌, ◌+◌, ◌≤◌, ◌<◌}
use mathlib.Core.Path.{◌≡◌, refl, sym, ap, ◌∙◌}
use mathlib.Core.List.{List}
use native.Mathlib.Omega.{arith}
use native.Mathlib.Decide.{ℕ_discrete}
use lib.ListN.{length, get_or, drop, set}
use lib.Seq.{get_or-set_same, get_or-set_other}
use Rattle.drive.specs.Steps.{together}
use Rattle.drive.proofs.Turns.{together_end, together_back}
use Rattle.drive.proofs.write_later.Goals as goal

pub loop-i-init : goal.loop-i-init
loop-i-init c =
    let w = c.args.wants.now in
    record { is = sym (together_end w (length w) (omega arith)); written = λ j l h. absurd (omega arith); kept = λ j h. refl }

-- the entry of step i - 1 is written
module _ (wants list list₀ : List ℕ) (i u : ℕ) (p : 0 < i) (h : i ≤ length wants) (long : length list ≡ length list₀) (e : u ≡ together (drop i wants)) where
  written_too : ((j : ℕ) → i ≤ j → j < length wants → j < length list₀ → get_or list j 0 ≡ together (drop (j + 1) wants))
      → (j : ℕ) → i - 1 ≤ j → j < length wants → j < length list₀ → get_or (set list (i - 1) u) j 0 ≡ together (drop (j + 1) wants)
  written_too old j l b m = go (ℕ_discrete j (i - 1))
    where
      go : Dec (j ≡ i - 1) → get_or (set list (i - 1) u) j 0 ≡ together (drop (j + 1) wants)
      go (yes f) =
          let s : i ≡ j + 1 = omega arith in
          rw (← f) (get_or-set_same list j u 0 (omega arith)) ∙ e ∙ ap (λ (n : ℕ). together (drop n wants)) s
      go (no f) = get_or-set_other list (i - 1) j u 0 f ∙ old j (omega arith) b m

  kept_too : ((j : ℕ) → length wants ≤ j → get_or list j 0 ≡ get_or list₀ j 0) → (j : ℕ) → length wants ≤ j → get_or (set list (i - 1) u) j 0 ≡ get_or list₀ j 0
  kept_too old j l = get_or-set_other list (i - 1) j u 0 (λ f. omega arith) ∙ old j l

pub loop-i-preserved : goal.loop-i-preserved
loop-i-preserved c =
    let q = c.loop-i in
    let i = q.invariant in
    let a = c.args in
    let w = a.wants.now in
    let p = c.loop-i-test.true in
    rw c.put.ensures
    record {
      is = c.union-all.ensures ∙ together_back w q.i q.all p q.auto.i i.is;
      written = written_too w q.list a.list.now q.i q.all p q.auto.i q.auto.list i.is i.written;
      kept = kept_too w q.list a.list.now q.i q.all p q.auto.i q.auto.list i.is i.kept;
    }
