-- `job_bytes::set_bytes::group_map` meets its contract: the first byte of a set that is put at the beginning.
use native.Mathlib.Omega.{arith}
use Rattle.job_bytes.specs.SetBytes.{set_bytes}
use Rattle.job_bytes.proofs.Encoding.{set_le, own_bytes, own_map}
use Rattle.job_bytes.proofs.set_bytes.group_map.Goals as goal

pub returns : goal.returns
returns c =
    let s = c.args.s in
    let p = c.put_set_at.ensures.room (omega arith) in
    own_map s _ _ p.0 (own_bytes (set_bytes s) _ _ _ p.0 p.1 (omega (arith, set_le s)))
