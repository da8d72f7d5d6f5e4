use mathlib.Core.Path.{◌≡◌, sym, subst, ap, ◌∙◌}
use mathlib.Core.List.{List}
use Prim.Native.Nat.{ℕ, ◌<◌}
use native.Mathlib.Omega.{arith}
use lib.Seq.{get_or-set_same, get_or-set_other, get_or-take, length-take-le}
use lib.Bits.{and_comm}
use lib.ListN.{length, get_or, take, length-set}
use borrow.Author.Count.{below_more}
use Rattle.bitset.specs.Set.{size}
use Rattle.packages.specs.Tests.{common}
use Rattle.packages.specs.Packages.{shared}
use Rattle.packages.specs.ContractWords.{at, within, unrated, Rated}
use Rattle.packages.proofs.Counts.{mapped_at}
use Rattle.packages.proofs.Rows.{few_shared}
use Rattle.packages.proofs.Table.renew_before.Goals.{In-loop-row}
use Rattle.packages.proofs.Table.renew_before.Goals as goal

-- what the package of this row has in common with the joined one, and the sizes
counted : (c : In-loop-row) → let a = c.args in
    get_or c.write_common.new.counts c.loop-row.row 0 ≡ shared a.self.now.curves.now (at c.loop-row.row a.pair.first)
counted c =
    let w = c.write_common in
    let a = c.args in
    let cs = a.self.now.curves.now in
    let k = c.loop-row.row in
    let f = common (get_or cs a.pair.first 0) in
    ap (λ (l : List ℕ). get_or l k 0) w.ensures
    ∙ mapped_at f (take a.pair.first cs) _ k (omega (arith, length-take-le a.pair.first cs (omega (arith, c.requires))))
    ∙ ap f (get_or-take a.pair.first cs k 0 (omega arith)) ∙ ap size (and_comm (get_or cs a.pair.first 0) (get_or cs k 0))

pub fits-fits-requires-clause-both : goal.fits-fits-requires-clause-both
fits-fits-requires-clause-both c = counted (goal.at.fits-fits-requires-clause-both c).In-loop-row

pub renewed-requires : goal.renewed-requires
renewed-requires c =
    let ds = c.args.self.now.curves.now in
    let row = get_or ds c.loop-row.row 0 in (
      c.requires.0,
      omega (arith, c.requires, c.args.self.now.few),
      few_shared row (get_or ds c.args.pair.first 0) _ (c.args.self.now.small c.loop-row.row) (counted (goal.at.renewed-requires c).In-loop-row),
    )

pub loop-row-preserved : goal.loop-row-preserved
loop-row-preserved c =
    let a = c.args in
    let ds = a.self.now.curves.now in
    let rs = c.loop-row.ratings in
    let i = c.loop-row.row in
    let v = c.loop-row.invariant in
    let long : i < length rs = omega (arith, v.long, c.requires) in
    let both = counted (goal.at.loop-row-preserved c).In-loop-row in
    record {
      long = simp length-set v.long;
      rest = λ k l. get_or-set_other rs i k _ unrated (λ e. omega arith) ∙ v.rest k (omega arith);
      done = λ cs n e.
          below_more _ i
          (λ k h w. subst (Rated (within a.self.now.bound) ds k) (sym (get_or-set_other rs i k _ unrated (λ d. omega arith))) (v.done cs n e k h w))
          (λ w. subst (Rated (within a.self.now.bound) ds i) (sym (get_or-set_same rs i _ unrated long))
          (c.renewed.ensures a.self.now.bound i cs ds (omega arith) c.requires.1 n e c.fits-fits.ensures both
          (subst (Rated (within a.self.now.bound) cs i) (sym (v.rest i (omega arith))) w)));
    }
