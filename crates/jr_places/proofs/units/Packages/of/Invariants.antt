use Rattle.std.proofs.Common.{◌≡◌, length}
use Rattle.jr_tree.specs.Local.{IsLocal}
use Rattle.jr_places.specs.Tabulated.{tabulated}
use Rattle.jr_places.specs.Names.{name_row}
use Rattle.jr_places.specs.Packages.{PackagesAreNamed, ArePackagesTo}
use Rattle.jr_places.proofs.units.Packages.of.Given as goal

abbrev pub invariant-loop-at : goal.invariant-loop-at
invariant-loop-at l = l.names ≡ tabulated (name_row l.rows) (length l.rows) → IsLocal l.rows → PackagesAreNamed l.rows → ArePackagesTo l.rows l.paths l.of_rows.items l.at
