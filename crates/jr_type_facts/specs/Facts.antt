-- What facts hold: the rows, the table, the types and the constants of their view.
use Rattle.jr_tree.specs.Rows.{Rows}
use Rattle.jr_defs.specs.Referents.{Table}
use Rattle.jr_plain.specs.Conversions.{Constants}
use Rattle.jr_plain.specs.Overloads.{Types}
use Rattle.jr_type_facts.specs.declared.facts.Facts as code
use Rattle.jr_type_facts.specs.Views.{rows_in, table_in, types_in, constants_in, IsSeenView}

abbrev pub rows_of : code.Facts → Rows
rows_of facts = rows_in facts.view

abbrev pub table_of : code.Facts → Table
table_of facts = table_in facts.view

abbrev pub types_of : code.Facts → Types
types_of facts = types_in facts.view

abbrev pub constants_of : code.Facts → Constants
constants_of facts = constants_in facts.view

abbrev pub AreSeenFacts : code.Facts → Type 0
AreSeenFacts facts = IsSeenView facts.view
