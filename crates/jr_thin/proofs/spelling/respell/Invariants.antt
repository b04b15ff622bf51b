use Rattle.std.proofs.Common.{◌≡◌, ◌++◌, drop, length}
use Rattle.jr_base.specs.Respelled.{respelled}
use Rattle.jr_thin.specs.Served.{SpansRise}
use Rattle.jr_thin.specs.Text.{choices}
use Rattle.jr_thin.proofs.spelling.respell.Given as goal

abbrev pub invariant-loop-index : goal.invariant-loop-index
invariant-loop-index l = record {
  rest : SpansRise l.done (length l.bytes) (drop l.index l.tokens);
  same : l.new.items ++ respelled l.bytes l.done (choices l.declaration l.name (drop l.index l.tokens) (drop l.index l.targets)) ≡ respelled l.bytes 0 (choices l.declaration l.name l.tokens l.targets);
}
