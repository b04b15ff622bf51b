-- Tables whose values are those of the definition (JLS 4.12.4, 15.28).
use Rattle.std.specs.Prelude.{Bool, List}
use Rattle.jr_defs.specs.Referents.{entries}
use Rattle.jr_supers.specs.declared.tabled.Tabled.{Tabled}
use Rattle.jr_constants.specs.declared.constants.Constants.{Constants}
use Rattle.jr_constants.specs.Tables.{AreKnown, picks}

-- each value is the one of its row or variable, where the references that are picked are read as constants
abbrev pub IsKnown : Tabled → List Bool → Constants → Type 0
IsKnown under constant found = AreKnown under.rows.now (entries under.table.now) (picks constant) found.texts found.variables.items found.values.items
