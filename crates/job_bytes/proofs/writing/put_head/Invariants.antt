-- `job_bytes::writing::put_head` meets its contract. The invariant: storing the fields from the j-th on leads to the same buffer as storing all.
use mathlib.Core.Path.{◌≡◌}
use Prim.Native.Nat.{◌+◌, ◌≤◌}
use lib.ListN.{length}
use lib.Seq.{length-sets}
use Rattle.job_bytes.proofs.JobWritten.{bytes_from}
use Rattle.job_bytes.proofs.writing.put_head.Given as goal

abbrev pub invariant-loop-j : goal.invariant-loop-j
invariant-loop-j l =
    record {
      long : length l.out ≡ length l.initial.out;
      fits : l.at + length (bytes_from l.values l.j) ≤ length l.initial.out;
      goes : lib.Seq.sets l.initial.out 1 (bytes_from l.values 0) ≡ lib.Seq.sets l.out l.at (bytes_from l.values l.j);
    }
