use mathlib.Core.Path.{◌≡◌, refl}
use Prim.Native.Nat.{suc, ◌+◌, ◌-◌, ◌*◌, ◌≤◌}
use native.Mathlib.Omega.{arith}
use lib.ListN.{get_or}
use lib.Pow.{pow_mono}
use Rattle.job_bytes.specs.JobBytes.{read_number}
use Rattle.job_bytes.proofs.Heads.{byte_more, number_more}
use Rattle.job_bytes.proofs.reading.number_at.Goals as goal

pub loop-k-init : goal.loop-k-init
unfolding read_number
loop-k-init c = let z : c.args.width - c.args.width ≡ 0 = omega arith in rw z (omega arith, refl)

pub overflow_mul-value : goal.overflow_mul-value
overflow_mul-value c = let l : 8 * (c.args.width - c.loop-k.k) ≤ 56 = omega arith in omega (arith, pow_mono l)

pub overflow_add-value-in-loop-k : goal.overflow_add-value-in-loop-k
overflow_add-value-in-loop-k c =
    let l : 8 * (c.args.width - c.loop-k.k) ≤ 56 = omega arith in
    omega (arith, pow_mono l, c.type_inv.job (c.args.at + (c.loop-k.k - 1)))

pub loop-k-preserved : goal.loop-k-preserved
loop-k-preserved c =
    let a = c.args in
    let l = c.loop-k in
    let i = a.at + (l.k - 1) in
    let w : a.width - (l.k - 1) ≡ suc (a.width - l.k) = omega arith in
    let n : a.at + l.k ≡ suc i = omega arith in
    let v = byte_more (a.width - l.k) l.value (get_or a.job.now i 0) l.invariant.0 (omega (arith, c.type_inv.job i)) in
    rw w (v, number_more a.job.now (a.width - l.k) i l.value (a.at + a.width) (omega arith) (rw n at l.invariant.1))
