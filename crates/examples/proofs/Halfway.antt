-- Examples of plans from what is held, proved: each is computed.
use mathlib.Core.Path.{refl}
use Rattle.examples.specs.Halfway.{Halfway}
use Rattle.examples.proofs.Rules.{rules}

pub halfway : Halfway
unfolding rules
halfway =
    record {
      whole_planned = refl;
      whole_loads = refl;
      held_halfway = refl;
      unchanged = refl;
      rest_planned = refl;
      rest_loads = refl;
      rest_from_empty = refl;
      rest_lent = refl;
      rest_checked = refl;
      rest_written = refl;
      checked_from_empty = refl;
      checked_from_less = refl;
      checked_from_more = refl;
      loaded_again = refl;
      wanted_dropped = refl;
      excess = refl;
      no_excess = refl;
      excess_with_wants = refl;
      nearest_stay = refl;
      excess_checked = refl;
      excess_kept = refl;
      end_kept = refl;
      end_without_held = refl;
      too_large = refl;
      none_planned = refl;
      none_lent = refl;
      none_checked = refl;
      none_end_without_held = refl;
      none_written = refl;
      two_unknown = refl;
      one_unknown = refl;
      own_held = refl;
      last_unknown = refl;
      last_own = refl;
      places_first = refl;
      wants_first = refl;
      booked_range_first = refl;
      booked_first = refl;
      before_order = refl;
      before_sizes = refl;
      before_short = refl;
      before_lengths = refl;
      check_before_order = refl;
      before_writing = refl;
      none_unknown = refl;
    }
