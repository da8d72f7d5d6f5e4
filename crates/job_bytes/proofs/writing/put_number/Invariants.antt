-- `job_bytes::writing::put_number` meets its contract. The invariant: storing the bytes to come leads to the same buffer as storing all.
use mathlib.Core.Path.{◌≡◌}
use Prim.Native.Nat.{◌+◌, ◌-◌}
use lib.ListN.{length}
use Rattle.job_bytes.specs.JobBytes.{number_bytes}
use Rattle.job_bytes.proofs.writing.put_number.Given as goal

abbrev pub invariant-loop-k : goal.invariant-loop-k
invariant-loop-k l =
    (length l.out ≡ length l.initial.out) × (lib.Seq.sets l.initial.out l.at (number_bytes l.width l.value) ≡ lib.Seq.sets l.out (l.at + l.k)
    (number_bytes (l.width - l.k) l.rest))
