use mathlib.Core.Path.{sym, ◌∙◌}
use Prim.Native.Nat.{◌-◌}
use native.Mathlib.Omega.{arith}
use lib.ListN.{get_or}
use Rattle.report.specs.SizeTable.{wanted_found}
use Rattle.report.proofs.SizeTable.{count_none, count_long, count_number, number_more, number_low, number_high, number_end, digit_more}
use Rattle.report.proofs.sizes.wanted_in.Goals as goal

pub returns-then-word-lt1 : goal.returns-then-word-lt1
unfolding wanted_found
returns-then-word-lt1 c = sym (count_none c.args.word.now (omega arith))

pub returns-then-word-gt-MOST_DIGITS : goal.returns-then-word-gt-MOST_DIGITS
unfolding wanted_found
returns-then-word-gt-MOST_DIGITS c = sym (count_long c.args.word.now (omega arith))

pub returns-then-b-lt48 : goal.returns-then-b-lt48
unfolding wanted_found
returns-then-b-lt48 c =
    let l = c.loop-b in
    let word = c.args.word.now in
    sym (count_number word (omega arith) (omega arith) ∙ l.invariant.goes ∙ number_low l.n word l.b-index (omega arith) c.if-b-lt48.true)

pub returns-then-b-gt57 : goal.returns-then-b-gt57
unfolding wanted_found
returns-then-b-gt57 c =
    let l = c.loop-b in
    let word = c.args.word.now in
    sym (count_number word (omega arith) (omega arith) ∙ l.invariant.goes ∙ number_high l.n word l.b-index (omega arith) c.if-b-gt57.true)

pub loop-b-preserved : goal.loop-b-preserved
loop-b-preserved c =
    let l = c.loop-b in
    let word = c.args.word.now in
    record {
      digits = digit_more l.n (get_or word l.b-index 0 - 48) l.b-index l.invariant.digits (omega arith);
      goes = l.invariant.goes ∙ number_more l.n word l.b-index (omega arith) (omega arith) (omega arith);
    }

pub returns : goal.returns
unfolding wanted_found
returns c =
    let l = c.loop-b in
    let word = c.args.word.now in
    sym (count_number word (omega arith) (omega arith) ∙ l.invariant.goes ∙ number_end l.n word l.b-index (omega arith))
