-- `job_bytes::reading::number_at` meets its contract. The invariant: the number of the bytes from the k-th on.
use mathlib.Core.Path.{◌≡◌}
use Prim.Native.Nat.{◌+◌, ◌-◌, ◌*◌, ◌^◌, ◌<◌}
use lib.ListN.{drop}
use Rattle.job.specs.Refusal.{done}
use Rattle.job_bytes.specs.SetBytes.{got}
use Rattle.job_bytes.specs.JobBytes.{read_number}
use Rattle.job_bytes.proofs.reading.number_at.Given as goal

abbrev pub invariant-loop-k : goal.invariant-loop-k
invariant-loop-k l =
    (l.value < 2 ^ (8 * (l.width - l.k)))
    × (read_number (l.width - l.k) (l.at + l.k) (drop (l.at + l.k) l.job) ≡ done (got l.value (l.at + l.width) (drop (l.at + l.width) l.job)))
