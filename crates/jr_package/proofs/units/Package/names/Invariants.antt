use Rattle.std.proofs.Common.{◌≡◌}
use Rattle.jr_plain.specs.Search.{gathered}
use Rattle.jr_marks.specs.Places.{IsOrdered}
use Rattle.jr_package.specs.Repackaging.{names_of}
use Rattle.jr_package.proofs.units.Package.names.Given as goal

abbrev pub invariant-loop-unit : goal.invariant-loop-unit
invariant-loop-unit l = IsOrdered l.self.marks.now → l.all.items ≡ gathered l.unit (names_of l.self.marks.now l.self.table.now l.self.from.now)
