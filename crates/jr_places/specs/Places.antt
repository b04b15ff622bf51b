-- What the tables of places have, for each row of a program.
use Rattle.std.specs.Prelude.{◌≡◌, ℕ, length, Option, None, slice_index_or}
use Rattle.jr_tree.specs.Rows.{Rows}
use Rattle.jr_tree.specs.Local.{IsLocal}
use Rattle.jr_places.specs.Tabulated.{tabulated}
use Rattle.jr_places.specs.declared.places.Places as code
use Rattle.jr_places.specs.Names.{name_row}
use Rattle.jr_places.specs.Rounds.{arounds}
use Rattle.jr_places.specs.Units.{units, tops}
use Rattle.jr_places.specs.Packages.{PackagesAreNamed, ArePackages}

pub record ArePlaces (p : Rows) (places : code.Places) : Type 0 where
  pub names : places.names.items ≡ tabulated (name_row p) (length p)
  pub arounds_are : places.arounds.items ≡ arounds p (length p)
  pub units_are : places.units.items ≡ units p (length p)
  pub tops_are : places.tops.items ≡ tops p (length p)
  pub packages_are : IsLocal p → PackagesAreNamed p → ArePackages p places.packages

-- the number of the package of a row
abbrev pub package_number : code.Places → ℕ → Option ℕ
package_number places o = slice_index_or places.packages.of_rows.items o None
