use Rattle.std.proofs.Common.{arith}
use Rattle.jr_index.proofs.Adding.{goes_on, adds_two}
use Rattle.jr_index.proofs.Counting.{closes_step}
use Rattle.jr_index.proofs.words.close_parts.Goals as goal

pub loop-left-preserved : goal.loop-left-preserved
loop-left-preserved c = goes_on c.loop-left.invariant (closes_step c.loop-left.dots c.loop-left.left (let more = c.loop-left-test.true in omega arith)) (adds_two c.pass.ensures (adds_two c.own.ensures c.close.ensures))
