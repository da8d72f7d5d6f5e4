-- `report::Text::set` meets its contract. The invariant: the curves that are left are still to be put.
use Prim.Native.Nat.{◌^◌, ◌<◌}
use Rattle.report.specs.Report.{curves_text, set_text}
use Rattle.report.proofs.Writing.{Rest}
use Rattle.report.proofs.Text.set.Given as goal

abbrev pub invariant-loop-c : goal.invariant-loop-c
invariant-loop-c l =
    record { range : l.c-iterator.left < 2 ^ 64; rest : Rest l.initial.self (set_text l.s) l.self (curves_text 64 0 l.c-iterator.left) }
