use Rattle.std.proofs.Common.{◌≡◌, length}
use Rattle.jr_members.specs.Sources.{ArePlaced}
use Rattle.jr_member_faults.specs.Tops.{AreUnits}
use Rattle.jr_member_faults.proofs.Topped.{AreTopFaultsTo}
use Rattle.jr_member_faults.proofs.tops.put_faults.Given as goal

abbrev pub invariant-loop-row : goal.invariant-loop-row
invariant-loop-row l = ArePlaced l.rows l.places → l.count ≡ length l.rows → AreUnits l.rows l.places l.units → AreTopFaultsTo l.rows l.places l.row l.types l.fn.out.items l.out.items
