use Rattle.std.proofs.Common.{◌≡◌, ◌++◌, length}
use Rattle.jr_read.specs.Reading.{AreTrees}
use Rattle.jr_read.proofs.program.parse_all.Given as goal

abbrev pub invariant-loop-one : goal.invariant-loop-one
invariant-loop-one l = record {
  split : l.fn.lexed.items ≡ l.yielded ++ l.one-iterator.rest.items;
  trees : AreTrees l.yielded l.units;
  count : length l.units ≡ length l.yielded;
}
