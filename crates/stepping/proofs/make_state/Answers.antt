-- `make_state` meets its contract.
use mathlib.Core.Path.{sym}
use Rattle.std.specs.Prelude.{Ok}
use Rattle.job.specs.Refusal.{outcome}
use Rattle.job.specs.Words.{job_of}
use Rattle.job.proofs.Laws.{refused_then}
use Rattle.stepping.specs.Stepping.{making}
use Rattle.stepping.proofs.Planned.{is_made, state_taken}
use Rattle.stepping.proofs.make_state.Goals as goal

pub returns-in_err-examine_planning : goal.returns-in_err-examine_planning
unfolding making
returns-in_err-examine_planning c =
    let e = refused_then _ _ _ c.from_residual.ensures.1 c.in_err-examine_planning.ensures in
    record {
      answer = e;
      state = state_taken _ _ e;
    }

pub returns : goal.returns
unfolding outcome
returns c =
    let a = c.args in
    let e = is_made (job_of a.rig a.wants.now) a.held a.order.now (sym c.in_ok-examine_planning.ensures) _ _ c.capacity.ensures c.in_order.ensures in
    record {
      answer = e;
      state = state_taken (Ok _) _ e;
    }
