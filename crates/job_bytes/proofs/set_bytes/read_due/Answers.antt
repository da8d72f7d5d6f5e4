-- `job_bytes::set_bytes::read_due` meets its contract: one law of `GroupByte` a case.
use mathlib.Core.Path.{◌≡◌, sym, ap, ◌∙◌}
use Prim.Native.Nat.{◌*◌, ◌%◌, ◌^◌, ◌<◌}
use native.Mathlib.Omega.{arith}
use lib.ListN.{get_or}
use lib.Pow.{shl_exact, pow_mono}
use Rattle.bitset.specs.Set.{bit, inside}
use Rattle.bitset.proofs.Bits.{bit_beyond}
use Rattle.job_bytes.proofs.Encoding.{at_most}
use Rattle.job_bytes.proofs.GroupByte.{due_none, marked_owed, marked_empty, marked_curves, marked_unknown}
use Rattle.job_bytes.proofs.set_bytes.read_due.Goals.{Else-rest-at}
use Rattle.job_bytes.proofs.set_bytes.read_due.Goals as goal

pub returns-then-group-ge8 : goal.returns-then-group-ge8
returns-then-group-ge8 c =
    let a = c.args in
    due_none a.rest.now a.at a.group a.curves (bit a.group a.map)
    (bit_beyond a.group a.map (omega (arith, c.ranges.map, pow_mono {i = 8} c.if-group-ge8.true)))

pub returns-then-stands-eq0 : goal.returns-then-stands-eq0
returns-then-stands-eq0 c = let a =
    c.args in due_none a.rest.now a.at a.group a.curves (bit a.group a.map) c.if-stands-eq0.true

pub returns-then-rest-at : goal.returns-then-rest-at
returns-then-rest-at c =
    let a = c.args in
    marked_owed a.rest.now a.at a.group a.curves (bit a.group a.map) (omega arith) (omega (arith, c.if-stands-eq0.false)) c.if-rest-at.true

-- the byte, counted as often as its bit says
small : (c : Else-rest-at) → let a =
    c.args in get_or a.rest.now a.at 0 * bit a.group a.map < 2 ^ 8
small c =
    let a = c.args in
    omega (arith, c.type_inv.rest a.at, at_most (get_or a.rest.now a.at 0) (bit a.group a.map) (omega arith))

pub returns-then-byte-stands : goal.returns-then-byte-stands
returns-then-byte-stands c =
    let a = c.args in
    marked_empty a.rest.now a.at a.group a.curves c.if-rest-at.false (bit a.group a.map) (omega arith) c.if-byte-stands.true

pub returns-then-inside : goal.returns-then-inside
returns-then-inside c =
    let a = c.args in
    let b = get_or a.rest.now a.at 0 * bit a.group a.map in
    let s = (b * 2 ^ (8 * a.group)) % 2 ^ 64 in
    let e : s ≡ b * 2 ^ (8 * a.group) = shl_exact 8 (8 * a.group) 64 (small (goal.at.returns-then-inside c).Else-rest-at) (omega arith) in
    let t = sym (c.inside.ensures ∙ ap (inside s) c.below.ensures) ∙ c.if-inside.true in
    marked_curves a.rest.now a.at a.group a.curves c.if-rest-at.false (bit a.group a.map) (omega arith)
    (omega arith) s e t

pub returns : goal.returns
returns c =
    let a = c.args in
    let b = get_or a.rest.now a.at 0 * bit a.group a.map in
    let s = (b * 2 ^ (8 * a.group)) % 2 ^ 64 in
    let e : s ≡ b * 2 ^ (8 * a.group) = shl_exact 8 (8 * a.group) 64 (small (goal.at.returns c).Else-rest-at) (omega arith) in
    let t = sym (c.inside.ensures ∙ ap (inside s) c.below.ensures) ∙ c.if-inside.false in
    marked_unknown a.rest.now a.at a.group a.curves c.if-rest-at.false (bit a.group a.map) (omega arith)
    (omega arith) s e t
