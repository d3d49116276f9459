use Rattle.clear.proofs.Clearing.{none, more, done}
use Rattle.clear.proofs.clear_from.Goals as goal

pub loop-i-init : goal.loop-i-init
loop-i-init g c = none c.args.at c.args.zero c.args.b.now

pub loop-i-preserved : goal.loop-i-preserved
loop-i-preserved g c = more c.args.at c.args.zero c.args.b.now c.loop-i.i c.loop-i.b c.loop-i.invariant c.loop-i-test.true

pub returns : goal.returns
returns g c = done c.args.at c.args.zero c.args.b.now c.loop-i.i c.loop-i.b c.loop-i.invariant c.loop-i-test.false
