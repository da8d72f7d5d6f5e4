-- Examples of every drive size together, proved: each is computed.
use mathlib.Core.Path.{refl}
use Rattle.examples.specs.EverySize.{Examples}
use Rattle.examples.proofs.Rules.{rules}

pub every_size : Examples
unfolding rules
every_size =
    record {
      a_sizes = refl;
      a_other_order = refl;
      a_none = refl;
      a_least = refl;
      a_five = refl;
      a_mark = refl;
      a_more = refl;
      all_marked = refl;
      eight_sizes = refl;
      eight_five = refl;
      eight_ten = refl;
      largest = refl;
      wants_nothing = refl;
      none_sizes = refl;
      none_fewest = refl;
      curves = refl;
      curves_fewest = refl;
      tests = refl;
      foreign = refl;
      order_short = refl;
      order_again = refl;
      a_table = refl;
      a_wanted = refl;
      a_wanted_none = refl;
      none_table = refl;
      refused_table = refl;
      word = refl;
      leading = refl;
      no_word = refl;
      long_word = refl;
      no_digit = refl;
      signed = refl;
    }
