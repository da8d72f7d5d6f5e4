use mathlib.Core.Path.{refl}
use native.Mathlib.Omega.{arith}
use Rattle.std.proofs.Common.{rules}
use Rattle.packages.proofs.Runs as runs
use Rattle.packages.proofs.Round.longest_run.Goals as goal

pub loop-test-init : goal.loop-test-init
loop-test-init g c = (search rules, search rules, λ ts y. record { rest = ts; yields = y; goes = refl })

pub returns-then-self-size : goal.returns-then-self-size
returns-then-self-size g c = λ ts y.
    runs.left_stop c.args.self.now.wants.now c.args.self.now.places ts c.loop-test.test-iterator c.loop-test.run
    c.in-Some.test c.next.new.self c.entry.result c.union-wider.result
    c.in-Some.ensures.steps c.entry.ensures c.union-wider.ensures (omega (arith, c.size.ensures, c.if-self-size.true))
    (c.loop-test.invariant.2 ts (rw c.into_iter-test-iterator.ensures.into_iter_gives y))

pub loop-test-preserved : goal.loop-test-preserved
loop-test-preserved g c = (
  search rules,
  search rules,
  λ ts y.
      runs.left_more c.args.self.now.wants.now c.args.self.now.places ts c.loop-test.test-iterator c.loop-test.run
      c.in-Some.test c.next.new.self c.entry.result c.union-wider.result
      c.in-Some.ensures.steps c.entry.ensures c.union-wider.ensures (omega (arith, c.size.ensures, c.if-self-size.false)) (c.loop-test.invariant.2 ts y),
)

pub returns : goal.returns
returns g c = λ ts y.
    runs.left_none c.args.self.now.wants.now c.args.self.now.places ts c.loop-test.test-iterator c.loop-test.run c.next.new.self c.in-None.ensures.steps
    (c.loop-test.invariant.2 ts (rw c.into_iter-test-iterator.ensures.into_iter_gives y))
