-- `report::sizes::size_job` meets its contract: reading into a list of 256 entries gives the wants.
use mathlib.Core.Path.{sym, ◌∙◌}
use native.Mathlib.Omega.{arith}
use Rattle.job.specs.Refusal.{outcome}
use Rattle.job.proofs.Laws.{handed_on}
use Rattle.planned.proofs.Reading.{ReadFirst, read_refused, read_first}
use Rattle.report.proofs.Sizing.{not_read, was_read}
use Rattle.report.proofs.sizes.size_job.Goals.{In_ok-head}
use Rattle.report.proofs.sizes.size_job.Goals as goal

-- what was read
read : (c : In_ok-head) → ReadFirst c.args.job.now c.in_ok-head.head c.read_job.new.wants
read c = read_first _ _ c.type_inv.job (omega arith) c.in_ok-head.ensures.answer c.read_job.ensures.lent

pub slice_bounds-wants-end : goal.slice_bounds-wants-end
slice_bounds-wants-end c = omega (arith, (read (goal.at.slice_bounds-wants-end c).In_ok-head).few, c.read_job.auto.wants)

pub slice_bounds-size_list-end : goal.slice_bounds-size_list-end
slice_bounds-size_list-end c = sym (read (goal.at.slice_bounds-size_list-end c).In_ok-head).tests

pub size_list-requires : goal.size_list-requires
size_list-requires c = let r = read (goal.at.size_list-requires c).In_ok-head in (r.tests, r.few)

pub returns-in_err-head : goal.returns-in_err-head
unfolding outcome
returns-in_err-head c =
    handed_on _ _ c.from_residual.ensures.1
    ∙ sym (not_read c.args.job.now _ _ (read_refused _ _ c.type_inv.job (omega arith) _ c.in_err-head.ensures.answer))

pub returns : goal.returns
returns c = rw (was_read c.args.job.now _ (read (goal.at.returns c).In_ok-head).read) c.size_list.ensures
