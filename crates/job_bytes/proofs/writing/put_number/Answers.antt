use mathlib.Core.Path.{◌≡◌, sym, ◌∙◌}
use Prim.Native.Nat.{suc, ◌+◌, ◌-◌, ◌/◌, ◌%◌}
use native.Mathlib.Omega.{arith}
use lib.ListN.{length-set}
use Rattle.job_bytes.specs.JobBytes.{number_bytes}
use Rattle.lists.proofs.Overwritten.{sets_cons}
use Rattle.job_bytes.proofs.writing.put_number.Goals as goal

pub loop-k-preserved : goal.loop-k-preserved
unfolding number_bytes
loop-k-preserved c =
    let a = c.args in
    let l = c.loop-k in
    let w : a.width - l.k ≡ suc (a.width - (l.k + 1)) = omega arith in
    let n : a.at + l.k + 1 ≡ a.at + (l.k + 1) = omega arith in (
      simp length-set l.invariant.0,
      l.invariant.1
          ∙ rw (w, ← n) (sets_cons l.out (a.at + l.k) (l.rest % 256) (number_bytes (a.width - (l.k + 1)) (l.rest / 256))),
    )

pub returns : goal.returns
unfolding number_bytes
returns c =
    let z : c.args.width - c.loop-k.k ≡ 0 = omega arith in
    sym (rw z at c.loop-k.invariant.1)
