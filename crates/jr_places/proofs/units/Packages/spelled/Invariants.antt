use Rattle.std.proofs.Common.{◌≡◌, ◌<◌, ◌-◌, ◌^◌, length}
use Rattle.jr_tree.specs.Tree.{IsTree}
use Rattle.jr_places.specs.Tabulated.{tabulated}
use Rattle.jr_places.specs.Names.{name_row}
use Rattle.jr_places.specs.Numbers.{number_in, IsNumberOf}
use Rattle.jr_places.specs.Packages.{names_to}
use Rattle.jr_places.proofs.units.Packages.spelled.Given as goal

abbrev pub invariant-loop-place : goal.invariant-loop-place
invariant-loop-place l = l.names ≡ tabulated (name_row l.rows) (length l.rows) → length l.rows < 2 ^ 32 → IsTree l.rows → l.at < length l.rows → IsNumberOf (number_in l.self.paths) l.number (names_to l.rows l.at (l.place - l.at))
