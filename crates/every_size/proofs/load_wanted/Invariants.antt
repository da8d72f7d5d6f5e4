-- `load_wanted` meets its contract. The invariant: the curves that the walk has passed are loaded, and in slot 0.
use Prim.Native.Nat.{◌^◌, ◌<◌}
use mathlib.Core.Path.{◌≡◌}
use lib.ListN.{length}
use Rattle.every_size.proofs.Loads.{Loaded}
use Rattle.every_size.proofs.load_wanted.Given as goal

abbrev pub invariant-loop-c : goal.invariant-loop-c
invariant-loop-c l =
    record {
      range : l.c-iterator.left < 2 ^ 64;
      long : length l.slots ≡ 64;
      long_loads : length l.loads ≡ 65;
      loaded : Loaded l.want l.c-iterator.left l.initial.slots l.initial.loads l.slots l.loads;
    }
