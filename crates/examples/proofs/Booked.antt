-- Examples of booked places, proved: each is computed.
use mathlib.Core.Path.{refl}
use Rattle.examples.specs.Booked.{Booked}
use Rattle.examples.proofs.Rules.{rules}

pub booked : Booked
unfolding rules
booked =
    record {
      a_read = refl;
      a_written = refl;
      a_call = refl;
      a_sheet = refl;
      byte_cut = refl;
      byte_0 = refl;
      byte_64 = refl;
      byte_63 = refl;
      behind_method = refl;
      bit_5 = refl;
      all_booked = refl;
      more_booked = refl;
      absent_places = refl;
      below_absent_places = refl;
      range_before_booked = refl;
      field_before_booked = refl;
      before_records = refl;
      before_cut_record = refl;
      call_refused = refl;
      sheet_refused = refl;
      handed_equal = refl;
      handed_64 = refl;
      handed_63 = refl;
      wants_before_range = refl;
      method_before_range = refl;
      places_before_booked = refl;
      wants_before_booked = refl;
      range_before_order = refl;
      booked_before_order = refl;
      booked_before_check = refl;
      booked_before_writing = refl;
      too_large = refl;
      just_fits = refl;
      ordering_too_large = refl;
      excess_dropped = refl;
      nothing_dropped = refl;
      check_fits = refl;
      check_does_not_fit = refl;
      packages_booked = refl;
      packages_free = refl;
    }
