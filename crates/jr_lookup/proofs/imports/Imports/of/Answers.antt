use Rattle.jr_defs.specs.Referents.{entries}
use Rattle.jr_lookup.proofs.Importing.{imports_are}
use Rattle.jr_lookup.proofs.imports.Imports.of.Goals as goal

pub returns : goal.returns
returns c = λ placed. imports_are c.args.under.rows.now placed.local (entries c.args.under.table.now) _ (c.in_ok-add_imports.ensures placed c.none-imports.ensures)
