use Rattle.std.proofs.Common.{◌≡◌}
use Rattle.jr_plain.specs.Search.{all_such}
use Rattle.jr_marks.specs.Places.{IsOrdered}
use Rattle.jr_package.specs.Repackaging.{is_moved}
use Rattle.jr_package.proofs.units.Package.units.Given as goal

abbrev pub invariant-loop-unit : goal.invariant-loop-unit
invariant-loop-unit l = IsOrdered l.self.marks.now → l.all.items ≡ all_such l.unit (is_moved l.self.marks.now l.self.from.now)
