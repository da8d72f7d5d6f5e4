use mathlib.Core.Path.{◌≡◌, sym, ap, ◌∙◌}
use Prim.Native.Nat.{ℕ, ◌+◌}
use native.Mathlib.Omega.{arith}
use lib.ListN.{length, get_or}
use Rattle.packages.specs.Packages.{shared}
use Rattle.packages.specs.ContractWords.{at, within}
use Rattle.packages.proofs.Rows as rows
use Rattle.packages.proofs.Rows.{few_shared}
use Rattle.packages.proofs.Table.best_partner.Goals.{In-loop-j, then-best-score+then-fits, then-best-score+else-fits, else-best-score}
use Rattle.packages.proofs.Table.best_partner.Goals as goal

pub loop-j-init : goal.loop-j-init
loop-j-init c =
    let a = c.args in
    record {
      row = rows.row_start (within a.self.now.bound) a.self.now.curves.now a.first;
      count = sym (rows.score_none a.self.now.curves.now a.first);
      few = omega arith;
      low = omega arith;
    }

-- what the two have in common
counted : (c : In-loop-j) → let a = c.args in
    get_or c.count_behind.new.counts c.loop-j.j 0 ≡ shared a.self.now.curves.now (at a.first c.loop-j.j)
counted c = c.count_behind.ensures c.loop-j.j (omega arith) (omega arith)

pub fits-requires-clause-both : goal.fits-requires-clause-both
fits-requires-clause-both c = counted (goal.at.fits-requires-clause-both c).In-loop-j

pub loop-j-preserved : goal.loop-j-preserved
loop-j-preserved c =
    let a = c.args in
    let cs = a.self.now.curves.now in
    let fits = within a.self.now.bound in
    let i = a.first in
    let j = c.loop-j.j in
    let q = c.loop-j.best.partner in
    let most = c.loop-j.best.score in
    let v = c.loop-j.invariant in
    let e = counted (goal.at.loop-j-preserved c).In-loop-j in
    let few = few_shared (get_or cs i 0) (get_or cs j 0) _ (a.self.now.small i) e in
    elim c.if-best-score.branch [
      | then-best-score+then-fits w ↦ rw w.best-is record {
        row = rows.row_take fits cs i j q most v.row (omega arith) v.count (omega (arith, e, w.if-best-score.true)) (sym w.fits.ensures ∙ w.if-fits.true);
        count = ap (λ (n : ℕ). 1 + n) e ∙ sym (rows.score_some cs i j (omega arith));
        few = omega (arith, few);
        low = omega arith;
      }
      | then-best-score+else-fits w ↦ rw w.best-is record {
        row = rows.row_pass fits cs i j q most v.row (sym w.fits.ensures ∙ w.if-fits.false);
        count = v.count;
        few = v.few;
        low = omega (arith, v.low);
      }
      | else-best-score w ↦ rw w.best-is record {
        row = rows.row_keep fits cs i j q most v.row v.count (omega (arith, e, w.if-best-score.false));
        count = v.count;
        few = v.few;
        low = omega (arith, v.low);
      }
    ]

pub returns : goal.returns
returns c =
    let v = c.loop-j.invariant in
    let e : length c.args.self.now.curves.now ≡ c.loop-j.j = omega (arith, c.requires) in
    record { partner = rw e v.row; score = v.count ∙ sym (rows.score_as c.args.self.now.curves.now c.args.first c.loop-j.best.partner) }
