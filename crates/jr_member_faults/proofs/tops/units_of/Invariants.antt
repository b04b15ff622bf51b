use Rattle.std.proofs.Common.{◌≡◌, ◌+◌, ◌<◌, ◌^◌, length}
use Rattle.jr_members.specs.Sources.{ArePlaced}
use Rattle.jr_member_faults.specs.Tops.{AreUnitsTo}
use Rattle.jr_member_faults.proofs.tops.units_of.Given as goal

abbrev pub invariant-loop-unit : goal.invariant-loop-unit
invariant-loop-unit l = ArePlaced l.rows l.places → length l.rows + 3 < 2 ^ 32 → l.count ≡ length l.rows → AreUnitsTo l.rows l.places l.unit l.units
