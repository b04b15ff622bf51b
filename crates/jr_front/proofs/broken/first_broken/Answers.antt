use Rattle.std.proofs.Common.{arith}
use Rattle.jr_front.proofs.Breaking.{judged_at, first_is_broken}
use Rattle.jr_front.proofs.broken.first_broken.Goals as goal

pub loop-fault-preserved : goal.loop-fault-preserved
loop-fault-preserved c = judged_at c.args.marks.now c.args.faults.now c.loop-fault.fault-index _ c.loop-fault.first c.fault_place.result c.better_of.result c.loop-fault-test.true c.fault_place.ensures c.better_of.ensures c.loop-fault.invariant

pub returns-clause-first : goal.returns-clause-first
returns-clause-first c = first_is_broken c.args.marks.now c.args.faults.now c.loop-fault.fault-index c.loop-fault.first (let past = c.loop-fault-test.false in omega arith) c.loop-fault.invariant
