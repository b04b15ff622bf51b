use Rattle.std.proofs.Common.{◌≡◌}
use Rattle.jr_member_faults.specs.Descent.{IsDescent}
use Rattle.jr_member_faults.specs.Nearest.{AreKeptTo}
use Rattle.jr_member_faults.specs.Thrown.{AreThrown}
use Rattle.jr_member_faults.specs.Views.{rows_of, IsRightWorld}
use Rattle.jr_member_faults.proofs.redefining.Uppers.set_all_apart.Given as goal

abbrev pub invariant-loop-row : goal.invariant-loop-row
invariant-loop-row l = (l.self.signed ≡ l.fn.self.signed) × (IsRightWorld l.redefining.world.now → AreThrown (rows_of l.redefining.world.now) l.redefining.thrown.now → IsDescent l.redefining.world.now l.descent → AreKeptTo l.redefining.world.now l.row l.self.apart)
