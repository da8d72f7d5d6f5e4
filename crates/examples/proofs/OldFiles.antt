-- Examples of old job files, proved: each is computed.
use mathlib.Core.Path.{refl}
use Rattle.examples.specs.OldFiles.{OldFiles}
use Rattle.examples.proofs.Rules.{rules}

pub old_files : OldFiles
unfolding rules
old_files =
    record {
      a_read = refl;
      a_written = refl;
      a_upgraded = refl;
      a_1_read = refl;
      a_1_same = refl;
      a_3_read = refl;
      a_3_same = refl;
      a_0_same = refl;
      a_call = refl;
      a_sheet = refl;
      alone = refl;
      alone_upgraded = refl;
      behind_places = refl;
      behind_curves = refl;
      behind_tests = refl;
      before_booked_lem = refl;
      before_booked_upgraded = refl;
      places_alone = refl;
      cut_before = refl;
      byte_cut = refl;
      record_cut = refl;
      empty_group = refl;
      surplus = refl;
      all_booked = refl;
      no_room = refl;
      handed_ordering = refl;
      handed_writing = refl;
      handed_no_tests = refl;
      places_before = refl;
      curves_before = refl;
      tests_before = refl;
      before_wants = refl;
      before_range = refl;
      before_13 = refl;
      before_7 = refl;
    }
