use Rattle.std.proofs.Common.{◌≡◌, ◌++◌, drop, filter}
use Rattle.jr_plain.specs.Overriding.{overriding}
use Rattle.jr_member_rules.specs.Redefining.{redefines}
use Rattle.jr_member_faults.specs.Redefined.{AreSame}
use Rattle.jr_member_faults.specs.Views.{rows_of, table_of, IsRightWorld}
use Rattle.jr_member_faults.proofs.redefining.redefined_among.Given as goal

abbrev pub invariant-loop-other : goal.invariant-loop-other
invariant-loop-other l = IsRightWorld l.world → AreSame (rows_of l.world) (table_of l.world) l.method l.like
    → l.all.items ++ filter (redefines (rows_of l.world) (table_of l.world) (overriding (rows_of l.world) (table_of l.world)) l.method) (drop l.other-index l.like)
    ≡ filter (redefines (rows_of l.world) (table_of l.world) (overriding (rows_of l.world) (table_of l.world)) l.method) l.like
