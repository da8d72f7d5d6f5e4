-- WHAT THE LIBRARY PROMISES, proved: each promise by the theorem that shows it.
use Rattle.job.proofs.JobExact.{job_by_exact}
use Rattle.job.proofs.MethodExact.{method_exact}
use Rattle.job.proofs.HeldExact.{held_exact}
use Rattle.job.proofs.OrderExact.{order_exact}
use Rattle.job.proofs.Refuses.{withdrawn}
use Rattle.job.proofs.SizingExact.{sizing_as_planning}
use Rattle.job_bytes.proofs.OldFiles.{old_read, old_method_lem}
use Rattle.job_bytes.proofs.JobRoundTrip.{job_back, job_read}
use Rattle.ordering.proofs.Complete.{order_complete}
use Rattle.ordering.proofs.Degrees.{degree_most, degree_reached}
use Rattle.drive.proofs.Best.{either_tie}
use Rattle.planning.proofs.Demand3.{demand3}
use Rattle.planning.proofs.Rest.{rest_held, rest_planned}
use Rattle.planning.proofs.Saved.{held_saves}
use Rattle.stepping.proofs.Exact.{done_exact, carried_exact, not_next_exact, unchanged}
use Rattle.stepping.proofs.Planned.{refused_as_planning, as_planned}
use Rattle.sizing.proofs.EverySize.{sizes_exact}
use Rattle.plan_bytes.proofs.PlanRoundTrip.{plan_back, plan_read_lem}
use Rattle.curveplan.specs.Library.{Library}
use Rattle.curveplan.proofs.Answers.{call_tells, call_planned, call_none}
use Rattle.curveplan.proofs.Composed.{old_called}
use Rattle.curveplan.proofs.Booked.{booked_ordered, booked_planned, booked_checked}

pub library : Library
library =
    record {
      jobs = λ method j. job_by_exact j method;
      holdings = λ j. held_exact j.rig.curves;
      orders = order_exact;
      complete = order_complete;
      demand_3 = demand3;
      ties = either_tie;
      withdrawn = withdrawn;
      degree_most = degree_most;
      degree_reached = degree_reached;
      booked_ordered = λ method j below few. booked_ordered j below few method;
      booked_planned = booked_planned;
      booked_checked = booked_checked;
      rest_held = rest_held;
      rest_planned = rest_planned;
      held_saves = held_saves;
      in_turn_lem = as_planned;
      state_refused = refused_as_planning;
      all_done = λ s. done_exact s.capacity s.held s.committed _;
      carried_out = carried_exact;
      not_next = not_next_exact;
      state_kept = unchanged;
      method_refused = method_exact;
      old_read = old_read;
      old_called = old_called;
      old_method_lem = old_method_lem;
      every_size = sizes_exact;
      sizes_refused = sizing_as_planning;
      job_back = job_back;
      job_read = job_read;
      plan_back = plan_back;
      plan_read_lem = plan_read_lem;
      call_writes = λ bs all lent plan e. let t = (call_tells bs all lent).0 plan e in (t.0, t.1, call_planned bs all lent plan e);
      call_refuses = λ bs all lent. (call_tells bs all lent).1;
      call_none = call_none;
    }
