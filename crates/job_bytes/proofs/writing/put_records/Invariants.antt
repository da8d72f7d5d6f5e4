-- `job_bytes::writing::put_records` meets its contract. The invariant: storing the records to come, and a zero behind them, leads to the same buffer as
-- storing all.
use Prim.Native.Nat.{◌≤◌, ◌+◌, ◌*◌}
use mathlib.Core.Path.{◌≡◌}
use mathlib.Core.List.{[], ◌∷◌, ◌++◌}
use lib.ListN.{length, drop}
use lib.Seq.{length-sets}
use Rattle.job_bytes.specs.JobBytes.{record_bytes}
use Rattle.job_bytes.proofs.writing.put_records.Given as goal

abbrev pub invariant-loop-w : goal.invariant-loop-w
invariant-loop-w l =
    record {
      room : l.to ≤ l.at + 9 * l.w-index;
      long : length l.out ≡ length l.initial.out;
      ends : l.to + length (record_bytes (drop l.w-index l.wants)) ≡ l.at + length (record_bytes l.wants);
      goes : lib.Seq.sets l.initial.out l.at (record_bytes l.wants ++ (0 ∷ [])) ≡ lib.Seq.sets l.out l.to (record_bytes (drop l.w-index l.wants) ++ (0 ∷ []));
    }
