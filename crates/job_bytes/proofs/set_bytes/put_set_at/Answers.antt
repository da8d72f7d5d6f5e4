use Prim.Native.Nat.{ℕ, ◌<◌, ◌+◌, ◌*◌, ◌%◌, ◌^◌}
use mathlib.Core.Path.{◌≡◌, refl, ap, ◌∙◌}
use mathlib.Core.List.{[], ◌∷◌, ◌++◌}
use native.Mathlib.Omega.{arith}
use native.Mathlib.Numerals.{add-one}
use native.Mathlib.Nat.{one-mul, zero-add, pow-suc}
use lib.ListN.{length, set}
use borrow.Author.Rules.{set_long}
use Rattle.job_bytes.specs.SetBytes.{group_map, group_bytes, set_bytes}
use Rattle.job_bytes.proofs.Encoding.{mark_placed, mark_adds, set_length, set_le, stores_turn, long_turn, map_turn, bytes_end, map_end, map_last}
use Rattle.job_bytes.proofs.set_bytes.put_set_at.Goals.{After-loop-j, In-loop-j}
use Rattle.job_bytes.proofs.set_bytes.put_set_at.Goals as goal

-- where the byte of a turn goes
room : (c : In-loop-j) → c.loop-j.end < length c.loop-j.out
room c = let a = c.args in let l = c.loop-j in omega (arith, set_le a.s, l.invariant.ends, l.invariant.long)

pub loop-j-init : goal.loop-j-init
loop-j-init c =
    record { small = omega arith; whole = rw (zero-add, one-mul); long = refl; ends = omega (arith, set_length c.args.s); goes = refl }

pub bounds-out-end : goal.bounds-out-end
bounds-out-end c = room (goal.at.bounds-out-end c).In-loop-j

pub overflow_add-end-in-loop-j : goal.overflow_add-end-in-loop-j
overflow_add-end-in-loop-j c =
    let l = c.loop-j in
    omega (arith, set_le c.args.s, l.invariant.ends, l.invariant.long, long_turn l.j l.rest c.loop-j-test.true)

pub overflow_add-map : goal.overflow_add-map
overflow_add-map c =
    let l = c.loop-j in
    rw c.from.ensures (omega (arith, l.invariant.small, mark_adds (l.rest % 256) l.j c.loop-j-test.true))

pub loop-j-preserved : goal.loop-j-preserved
loop-j-preserved c =
    let l = c.loop-j in
    let i = l.invariant in
    let h : l.j < 8 = c.loop-j-test.true in
    let twice : 2 ^ (l.j + 1) ≡ 2 ^ l.j * 2 = rw (add-one, pow-suc) refl in
    rw (c.from.ensures, c.from-end.ensures)
    record {
      small = omega (arith, i.small, twice, mark_adds (l.rest % 256) l.j h);
      whole = i.whole ∙ map_turn l.j l.rest h l.map ∙ rw (mark_placed (l.rest % 256) l.j h) refl;
      long = set_long ℕ l.out l.end _ _ i.long;
      ends = omega (arith, i.ends, long_turn l.j l.rest h);
      goes = i.goes ∙ stores_turn l.j l.rest h l.out l.end;
    }

-- behind the last turn: where the bytes end, and the map
end_is : (c : After-loop-j) → c.loop-j.end ≡ c.args.to + length (set_bytes c.args.s)
end_is c = let l = c.loop-j in omega (arith, l.invariant.ends, ap length (bytes_end l.j l.rest (omega arith)))

map_is : (c : After-loop-j) → group_map 8 c.args.s ≡ c.loop-j.map
map_is c = let l = c.loop-j in l.invariant.whole ∙ map_end l.j l.rest l.map (omega arith)

pub bounds-out-end-2 : goal.bounds-out-end-2
bounds-out-end-2 c = omega (arith, end_is (goal.at.bounds-out-end-2 c).After-loop-j, set_le c.args.s, c.loop-j.invariant.long)

pub overflow_cast-out : goal.overflow_cast-out
overflow_cast-out c =
    let l = c.loop-j in
    let e : l.j ≡ 8 = omega arith in
    omega (arith, rw e at l.invariant.small)

pub returns-clause-room : goal.returns-clause-room
returns-clause-room c =
    let a = c.args in
    let l = c.loop-j in
    let n = bytes_end l.j l.rest (omega arith) in
    let e : lib.Seq.sets a.out.now (a.to + 1) (group_bytes 8 a.s ++ (0 ∷ [])) ≡ set l.out l.end 0 = l.invariant.goes ∙ rw n refl in
    λ h. (end_is c, rw (← e, ← map_is c) (map_last a.s a.to a.out.now))
