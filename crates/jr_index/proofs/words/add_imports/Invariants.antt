use Rattle.std.proofs.Common.{drop}
use Rattle.jr_index.specs.Events as e
use Rattle.jr_index.specs.Writing.{written, Leads}
use Rattle.jr_index.proofs.words.add_imports.Given as goal

abbrev pub invariant-loop-import : goal.invariant-loop-import
invariant-loop-import l = Leads (written l.initial.out) (written l.out) (e.imports_events (drop l.import-index l.imports)) (e.imports_events (l.imports))
