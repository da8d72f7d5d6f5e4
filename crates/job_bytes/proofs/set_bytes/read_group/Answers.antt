-- `job_bytes::set_bytes::read_group` meets its contract: a group below 8 is one whose bit stands in a map; the others have no curve below 64.
use Prim.Native.Nat.{◌<◌}
use native.Mathlib.Omega.{arith}
use lib.ListN.{get_or}
use Rattle.job_bytes.proofs.GroupByte.{due_owed, due_empty, due_unknown, no_such_group}
use Rattle.job_bytes.proofs.set_bytes.read_group.Goals as goal

pub returns-then-rest-at : goal.returns-then-rest-at
returns-then-rest-at c = let a = c.args in due_owed a.rest.now a.at a.group a.curves c.if-rest-at.true

pub returns-then-rest-at-eq0 : goal.returns-then-rest-at-eq0
returns-then-rest-at-eq0 c =
    let a = c.args in
    due_empty a.rest.now a.at a.group a.curves c.if-rest-at.false c.if-rest-at-eq0.true

pub returns : goal.returns
returns c =
    let a = c.args in
    let p : 0 < get_or a.rest.now a.at 0 = omega (arith, c.if-rest-at-eq0.false) in
    due_unknown a.rest.now a.at a.group a.curves c.if-rest-at.false p
    (no_such_group (get_or a.rest.now a.at 0) a.group a.curves p c.if-group-lt8.false)
