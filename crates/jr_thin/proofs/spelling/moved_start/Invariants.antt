use Rattle.std.proofs.Common.{◌≡◌, drop}
use Rattle.jr_base.specs.Respelled.{moved_tokens}
use Rattle.jr_thin.specs.Served.{RiseFrom}
use Rattle.jr_thin.specs.Text.{choices}
use Rattle.jr_thin.proofs.spelling.moved_start.Given as goal

abbrev pub invariant-loop-index : goal.invariant-loop-index
invariant-loop-index l = record {
  rest : RiseFrom l.from (drop l.index l.tokens);
  same : drop l.index (moved_tokens 0 0 (choices l.declaration l.name l.tokens l.targets)) ≡ moved_tokens l.from l.at (choices l.declaration l.name (drop l.index l.tokens) (drop l.index l.targets));
}
