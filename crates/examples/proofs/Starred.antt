-- THE STARRED EXAMPLES, proved: each is computed.
use mathlib.Core.Path.{refl}
use Rattle.examples.specs.Starred.{Starred}
use Rattle.examples.proofs.Rules.{rules}

pub starred : Starred
unfolding rules
starred =
    record {
      plan_bytes_lem = refl;
      method_1 = refl;
      method_3 = refl;
      loads_1 = refl;
      loads_method_3 = refl;
      drops_at_2 = refl;
      loads_3 = refl;
      no_drops_at_2 = refl;
      loads_3_again = refl;
      one_test = refl;
      one_plan = refl;
      no_loads = refl;
      too_large = refl;
      just_fits = refl;
      unknown_curve = refl;
      known_curve = refl;
    }
