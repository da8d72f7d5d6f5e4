-- `Table::renew_ratings` meets its contract: the joined package's rating is found anew, the others' are what the join leaves of them.
use mathlib.Core.Path.{◌∙◌}
use native.Mathlib.Omega.{arith}
use Rattle.packages.specs.ContractWords.{within}
use Rattle.packages.proofs.Rows as rows
use Rattle.packages.proofs.Renew as renew
use Rattle.packages.proofs.Table.renew_ratings.Goals as goal

pub returns : goal.returns
returns c =
    let a = c.args in
    let ds = a.self.now.curves.now in
    let fits = within a.self.now.bound in
    let own = c.best_partner-own in
    let moved = c.join_entry in
    let front = c.renew_before in
    let back = c.renew_behind in
    λ cs n e w.
    renew.all_rated fits cs ds a.ratings.now moved.new.xs front.new.ratings back.new.ratings a.pair.first a.pair.second own.result
    c.requires.0 n c.requires.1 e c.requires.2 (front.auto.ratings ∙ moved.auto.xs)
    moved.ensures (renew.row_rated fits ds a.pair.first own.result (omega (arith, c.requires)) own.ensures.partner
    (own.ensures.score ∙ rows.score_as ds a.pair.first own.result.partner))
    (front.ensures.before cs n e) front.ensures.behind back.ensures.behind back.ensures.before w
