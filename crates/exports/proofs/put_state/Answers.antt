-- `exports::put_state` meets its contract: four numbers, and the wants behind them.
use native.Mathlib.Omega.{arith}
use Rattle.exports.proofs.States.{numbers_written}
use Rattle.exports.proofs.put_state.Goals as goal

pub returns : goal.returns
returns c = rw c.copy_from_slice.ensures.after (numbers_written c.args.list.now c.args.state.now (omega arith))
