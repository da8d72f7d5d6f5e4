use mathlib.Core.Path.{◌≡◌, sym, ap, ◌∙◌}
use Prim.Native.Nat.{◌+◌, ◌-◌}
use native.Mathlib.Omega.{arith}
use lib.ListN.{length}
use Rattle.job_bytes.specs.JobBytes.{head_bytes}
use Rattle.job_bytes.proofs.HeadRoundTrip.{fields_map}
use Rattle.job_bytes.proofs.Heads.{rows}
use Rattle.job_bytes.proofs.JobWritten.{absent_map, absent_bytes, stands_map, stands_long, map_small, none, head_length}
use Rattle.job_bytes.proofs.writing.head_shape.Goals as goal

pub loop-j-init : goal.loop-j-init
loop-j-init c =
    let n = none c.args.values.now 5 (omega (arith, rows)) in
    (sym n.0, omega (arith, ap length n.1), omega arith)

pub row-field-requires : goal.row-field-requires
row-field-requires c = omega (arith, rows)

pub overflow_mul-map : goal.overflow_mul-map
overflow_mul-map c = omega (arith, map_small c.args.values.now c.loop-j.j)

pub overflow_add-map : goal.overflow_add-map
overflow_add-map c = omega (arith, map_small c.args.values.now c.loop-j.j)

pub overflow_add-len : goal.overflow_add-len
overflow_add-len c = omega (arith, rows, c.row-field.ensures.1)

pub loop-j-preserved-then-values-j : goal.loop-j-preserved-then-values-j
loop-j-preserved-then-values-j c =
    let vs = c.args.values.now in
    let j = c.loop-j.j - 1 in
    let r = c.row-field in
    let n : j + 1 ≡ c.loop-j.j = omega arith in
    let m = rw n at (stands_map vs j r.result r.ensures.0 (omega (arith, rows)) c.if-values-j.true) in
    let l = rw n at (stands_long vs j r.result r.ensures.0 (omega (arith, rows)) c.if-values-j.true) in
    (omega arith, omega arith, omega (arith, rows, r.ensures.1))

pub loop-j-preserved : goal.loop-j-preserved
loop-j-preserved c =
    let vs = c.args.values.now in
    let j = c.loop-j.j - 1 in
    let r = c.row-field in
    let n : j + 1 ≡ c.loop-j.j = omega arith in
    let m = rw n at (absent_map vs j r.result r.ensures.0 (omega (arith, rows)) c.if-values-j.false) in
    let l = ap length (rw n at (absent_bytes vs j r.result r.ensures.0 (omega (arith, rows)) c.if-values-j.false)) in
    (omega arith, omega arith, omega (arith, rows))

pub returns-clause-map : goal.returns-clause-map
unfolding head_bytes fields_map
returns-clause-map c = let z : c.loop-j.j ≡ 0 = omega arith in rw z at c.loop-j.invariant.0

pub returns-clause-len : goal.returns-clause-len
returns-clause-len c =
    let z : c.loop-j.j ≡ 0 = omega arith in
    (rw z at c.loop-j.invariant.1 ∙ sym (head_length c.args.values.now), omega (arith, rows))
