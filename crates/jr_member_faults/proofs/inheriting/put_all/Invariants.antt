use Rattle.std.proofs.Common.{◌≡◌, drop}
use Rattle.jr_member_faults.specs.Inherited.{AreNothing, ArePut}
use Rattle.jr_member_faults.specs.Thrown.{AreThrown}
use Rattle.jr_member_faults.specs.Unfound.{AreUnfound}
use Rattle.jr_member_faults.specs.Views.{rows_of, IsRightWorld}
use Rattle.jr_member_faults.proofs.inheriting.put_all.Given as goal

abbrev pub invariant-loop-over : goal.invariant-loop-over
invariant-loop-over l = IsRightWorld l.world → AreThrown (rows_of l.world) l.thrown → l.order ≡ l.world.supers.now.order.items → AreUnfound (rows_of l.world) l.fn.unfound → AreNothing (rows_of l.world) l.fn.lefts → ArePut l.world (drop l.over-index l.order) l.open_names l.unfound l.lefts
