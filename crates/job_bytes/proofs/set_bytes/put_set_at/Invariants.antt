-- `job_bytes::set_bytes::put_set_at` meets its contract. The invariant: storing the bytes of the groups to come, and a zero behind them, leads to the same
-- buffer as storing all; the map of the groups behind, and that of the groups to come at the place of the next bit, are the whole map.
use Prim.Native.Nat.{◌<◌, ◌-◌, ◌+◌, ◌*◌, ◌^◌}
use mathlib.Core.Path.{◌≡◌}
use mathlib.Core.List.{[], ◌∷◌, ◌++◌}
use lib.ListN.{length}
use Rattle.job_bytes.specs.SetBytes.{group_map, group_bytes, set_bytes}
use Rattle.job_bytes.proofs.set_bytes.put_set_at.Given as goal

abbrev pub invariant-loop-j : goal.invariant-loop-j
invariant-loop-j l = record {
  small : l.map < 2 ^ l.j;
  whole : group_map 8 l.s ≡ l.map + 2 ^ l.j * group_map (8 - l.j) l.rest;
  long : length l.out ≡ length l.initial.out;
  ends : l.end + length (group_bytes (8 - l.j) l.rest) ≡ l.to + length (set_bytes l.s);
  goes : lib.Seq.sets l.initial.out (l.to + 1) (group_bytes 8 l.s ++ (0 ∷ [])) ≡ lib.Seq.sets l.out l.end (group_bytes (8 - l.j) l.rest ++ (0 ∷ []));
}
