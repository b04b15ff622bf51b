-- Rows under a table whose supertypes, members and calls are exact.
use Rattle.std.specs.Prelude.{◌≡◌, List}
use Rattle.std.specs.List.{AllByRecursion}
use Rattle.jr_tree.specs.declared.tree.Unit as declared_unit
use Rattle.jr_tree.specs.Shape.{IsShaped}
use Rattle.jr_tree.specs.Rows.{Rows, program_rows}
use Rattle.jr_defs.specs.Referents.{Table}
use Rattle.jr_places.specs.Packages.{PackagesAreNamed}
use Rattle.jr_supers.specs.Supers.{HasNoCycle}
use Rattle.jr_supers.specs.Tabled.{IsSized}
use Rattle.jr_headed.specs.Heads.{HasBareObject}

-- the rows are those of shaped units
pub record IsProgram (p : Rows) : Type 0 where
  pub units : List declared_unit.Unit
  pub shaped : AllByRecursion IsShaped units
  pub rows_are : p ≡ program_rows units

-- one bare Object, rows and brackets that can be counted, and packages with names
pub record AreWell (p : Rows) : Type 0 where
  pub object : HasBareObject p
  pub sized : IsSized p
  pub packages : PackagesAreNamed p

-- and no type is above itself
pub record IsWellFounded (p : Rows) (t : Table) : Type 0 where
  pub rows_are : AreWell p
  pub none : HasNoCycle p t
