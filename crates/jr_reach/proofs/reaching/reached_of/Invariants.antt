use Rattle.std.proofs.Common.{◌≡◌, length}
use Rattle.jr_reach.specs.Statements.{later}
use Rattle.jr_reach.specs.Reached.{reaches}
use Rattle.jr_reach.proofs.reaching.reached_of.Given as goal

abbrev pub invariant-loop-n : goal.invariant-loop-n
invariant-loop-n l = l.found.items ≡ reaches l.rows l.facts (later (length l.rows) l.all) l.n
