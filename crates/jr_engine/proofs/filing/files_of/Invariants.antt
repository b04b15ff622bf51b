use Rattle.std.proofs.Common.{◌≡◌, ◌++◌}
use Rattle.std.specs.FinMap as map
use Rattle.jr_base.specs.Files.{plain}
use Rattle.jr_engine.proofs.Rising.{inserted}
use Rattle.jr_engine.proofs.filing.files_of.Given as goal

abbrev pub invariant-loop-path : goal.invariant-loop-path
invariant-loop-path l = record {
  split : l.fn.texts.items ≡ l.yielded ++ l.path-iterator.rest.items;
  files : l.files ≡ inserted map.empty (plain l.yielded);
}
