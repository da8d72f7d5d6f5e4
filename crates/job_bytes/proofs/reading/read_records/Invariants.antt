-- `job_bytes::reading::read_records` meets its contract. The invariants: reading the groups of a record from its first comes to the same as reading those
-- that are left, behind the set that was found; and reading the records likewise, behind the sets in the list.
use Prim.Native.Nat.{◌≤◌, ◌-◌, ◌+◌}
use mathlib.Core.Path.{◌≡◌}
use mathlib.Core.List.{[]}
use lib.ListN.{length, take, drop}
use Rattle.job_bytes.specs.SetBytes.{read_groups}
use Rattle.job_bytes.specs.JobBytes.{read_records}
use Rattle.job_bytes.proofs.reading.read_records.Given as goal

abbrev pub invariant-loop-j : goal.invariant-loop-j
invariant-loop-j l =
    record {
      fits : l.used ≤ length l.rest;
      same : l.answer ≡ l.initial.answer;
      goes : read_groups 1 3 4 l.curves 8 0 l.map 0 (l.at + 1) (drop 1 l.rest) ≡ read_groups 1 3 4 l.curves (8 - l.j) l.j l.map l.set (l.at + l.used)
          (drop l.used l.rest);
    }

abbrev pub invariant-tests : goal.invariant-tests
invariant-tests l =
    record {
      within : l.at ≤ length l.job;
      long : length l.list ≡ length l.initial.list;
      fine : l.answer ≡ l.initial.answer;
      goes : read_records l.curves l.tests [] l.start (drop l.start l.job) ≡ read_records l.curves (l.tests - l.t) (take l.t l.list) l.at (drop l.at l.job);
    }
