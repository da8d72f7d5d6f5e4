-- Examples of looks and commits, proved: each is computed.
use mathlib.Core.Path.{refl}
use Rattle.examples.specs.Looks.{Looks}
use Rattle.examples.proofs.Rules.{rules}

pub looks : Looks
unfolding rules
looks =
    record {
      a_made = refl;
      a_look_0 = refl;
      a_commit_0 = refl;
      a_look_1 = refl;
      a_commit_1 = refl;
      a_look_2 = refl;
      a_commit_2 = refl;
      a_look_3 = refl;
      a_commit_3 = refl;
      a_look_4 = refl;
      a_commit_4 = refl;
      a_done = refl;
      a_empty = refl;
      a_shown = refl;
      a_too_late = refl;
      a_again = refl;
      a_end_early = refl;
      a_behind_end = refl;
      a_after_done = refl;
      a_after_done_end = refl;
      a_after_done_first = refl;
      a_unchanged = refl;
      a_tried = refl;
      none_done = refl;
      none_refused = refl;
      none_held = refl;
      none_committed = refl;
      none_then_done = refl;
      none_after_done = refl;
      no_sets = refl;
      no_sets_committed = refl;
      no_sets_done = refl;
      no_sets_no_end = refl;
      rest_0 = refl;
      rest_1 = refl;
      rest_2 = refl;
      rest_end = refl;
      reversed = refl;
      places = refl;
      curves = refl;
      foreign = refl;
      booked_range = refl;
      all_booked = refl;
      unknown_held = refl;
      order_short = refl;
      too_large = refl;
      not_made = refl;
      beyond = refl;
      beyond_committed = refl;
      few_entries = refl;
      no_capacity = refl;
    }
