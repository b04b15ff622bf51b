use Rattle.std.proofs.Common.{◌≡◌, ◌++◌, drop, map, length}
use Rattle.jr_places.specs.Names.{name_row}
use Rattle.jr_members.specs.Each.{AreBelow}
use Rattle.jr_member_faults.specs.Views.{rows_of, IsRightWorld}
use Rattle.jr_member_faults.proofs.names.add_names.Given as goal

abbrev pub invariant-loop-method : goal.invariant-loop-method
invariant-loop-method l = IsRightWorld l.world → AreBelow (length (rows_of l.world)) l.methods → l.names.items ++ map (name_row (rows_of l.world)) (drop l.method-index l.methods) ≡ l.fn.names.items ++ map (name_row (rows_of l.world)) l.methods
