use Rattle.std.proofs.Common.{length}
use Rattle.jr_runs.proofs.Chains.{ChainTo}
use Rattle.jr_runs.proofs.writing.push_chain.Given as goal

abbrev pub decreases-loop-name : goal.decreases-loop-name
decreases-loop-name l = length l.rest

abbrev pub invariant-loop-name : goal.invariant-loop-name
invariant-loop-name l = ChainTo l.fn.items.items l.of l.fn.first l.found l.fn.first_class l.fn.names l.fn.first_over l.stop l.meaning l.class l.rest l.over l.items.items
