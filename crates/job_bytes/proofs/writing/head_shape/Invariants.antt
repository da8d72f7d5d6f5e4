-- `job_bytes::writing::head_shape` meets its contract. The invariant: the map and the bytes of the fields from the j-th on.
use mathlib.Core.Path.{◌≡◌}
use Prim.Native.Nat.{◌+◌, ◌-◌, ◌*◌, ◌≤◌}
use lib.ListN.{length}
use Rattle.job_bytes.specs.JobBytes.{fields}
use Rattle.job_bytes.proofs.JobWritten.{map_from, bytes_from}
use Rattle.job_bytes.proofs.writing.head_shape.Given as goal

abbrev pub invariant-loop-j : goal.invariant-loop-j
invariant-loop-j l =
    (l.map ≡ map_from l.values l.j) × (l.len ≡ 1 + length (bytes_from l.values l.j)) × (l.len ≤ 1 + 8 * (length fields - l.j))
