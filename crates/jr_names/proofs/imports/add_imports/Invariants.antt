use Rattle.jr_names.specs.Importing.{AddsImports}
use Rattle.jr_names.proofs.imports.add_imports.Given as goal

abbrev pub invariant-loop-at : goal.invariant-loop-at
invariant-loop-at l = AddsImports l.world l.rows l.declared l.family l.at l.fn.all.items l.all.items
