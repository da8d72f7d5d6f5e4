use mathlib.Core.Path.{sym, subst, ◌∙◌}
use Prim.Native.Nat.{◌<◌}
use native.Mathlib.Omega.{arith}
use lib.Seq.{get_or-set_same, get_or-set_other}
use lib.ListN.{length, length-set}
use borrow.Author.Count.{below_more}
use Rattle.packages.specs.ContractWords.{within, unrated, Rated}
use Rattle.packages.proofs.Rows as rows
use Rattle.packages.proofs.Renew.{row_rated}
use Rattle.packages.proofs.Table.best_partners.Goals as goal

pub loop-k-preserved : goal.loop-k-preserved
loop-k-preserved c =
    let b = c.best_partner in
    let i = c.loop-k.k in
    let cs = c.args.self.now.curves.now in
    let fits = within c.args.self.now.bound in
    let v = c.loop-k.invariant in
    let long : i < length c.loop-k.ratings = omega (arith, v.long, c.requires) in
    record {
      long = simp length-set v.long;
      done = below_more _ i
          (λ x h. subst (Rated fits cs x) (sym (get_or-set_other c.loop-k.ratings i x _ unrated (λ e. omega arith))) (v.done x h))
          (subst (Rated fits cs i) (sym (get_or-set_same c.loop-k.ratings i _ unrated long))
          (row_rated fits cs i b.result (omega arith) b.ensures.partner (b.ensures.score ∙ rows.score_as cs i b.result.partner)));
    }
