use Rattle.std.proofs.Common.{◌≡◌, ◌≤◌, ◌+◌, drop}
use Rattle.jr_thin.specs.Reading.{pluses}
use Rattle.jr_thin.specs.Trees.{kinds_of}
use Rattle.jr_thin.proofs.reading.pluses.Given as goal

abbrev pub invariant-loop-token : goal.invariant-loop-token
invariant-loop-token l = record {
  bound : l.count ≤ l.token-index;
  same : l.count + pluses (kinds_of (drop l.token-index l.tokens)) ≡ pluses (kinds_of l.tokens);
}
