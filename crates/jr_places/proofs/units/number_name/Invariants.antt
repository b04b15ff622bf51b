use Rattle.std.proofs.Common.{◌≡◌, ◌<◌, ◌≤◌, ◌-◌, ◌^◌, length}
use Rattle.jr_tree.specs.Rows.{end}
use Rattle.jr_places.specs.Numbers.{IsNumbering}
use Rattle.jr_places.specs.Tabulated.{tabulated}
use Rattle.jr_places.specs.Names.{name_row}
use Rattle.jr_places.specs.Packages.{names_to, Numbered}
use Rattle.jr_places.proofs.units.number_name.Given as goal

abbrev pub invariant-loop-place : goal.invariant-loop-place
invariant-loop-place l = IsNumbering l.fn.paths → l.names ≡ tabulated (name_row l.rows) (length l.rows) → length l.rows < 2 ^ 32 → l.at < length l.rows → l.at < end l.rows l.at → end l.rows l.at ≤ length l.rows → Numbered l.fn.paths l.paths l.number (names_to l.rows l.at (l.place - l.at))
