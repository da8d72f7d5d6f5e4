-- `job_bytes::reading::read_fields` meets its contract. The invariant: the fields from the j-th on, behind the values of those before, are left to read.
use mathlib.Core.Path.{◌≡◌}
use mathlib.Core.List.{[]}
use Prim.Native.Nat.{◌≤◌}
use lib.ListN.{length, take, drop}
use Rattle.job_bytes.specs.JobBytes.{fields, read_fields}
use Rattle.job_bytes.proofs.reading.read_fields.Given as goal

abbrev pub invariant-loop-j : goal.invariant-loop-j
invariant-loop-j l =
    record {
      long : length l.values ≡ length l.initial.values;
      within : l.at ≤ length l.job;
      goes : read_fields fields l.initial.map [] 1 (drop 1 l.job) ≡ read_fields (drop l.j fields) l.map (take l.j l.values) l.at (drop l.at l.job);
    }
