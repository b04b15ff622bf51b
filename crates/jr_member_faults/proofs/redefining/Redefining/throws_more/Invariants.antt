use Rattle.std.proofs.Common.{◌≡◌, ℕ, drop}
use Rattle.std.specs.List.{list_any}
use Rattle.jr_member_rules.specs.Throwing.{declares_more}
use Rattle.jr_member_faults.specs.Thrown.{AreThrown}
use Rattle.jr_member_faults.specs.Redefined.{AreSame}
use Rattle.jr_member_faults.specs.Views.{rows_of, table_of, IsRightWorld}
use Rattle.jr_member_faults.proofs.redefining.Redefining.throws_more.Given as goal

abbrev pub invariant-loop-other : goal.invariant-loop-other
invariant-loop-other l = IsRightWorld l.self.world.now → AreThrown (rows_of l.self.world.now) l.self.thrown.now → AreSame (rows_of l.self.world.now) (table_of l.self.world.now) l.method l.redefined → list_any (λ (k : ℕ). declares_more (rows_of l.self.world.now) (table_of l.self.world.now) l.method k) (drop l.other-index l.redefined) ≡ list_any (λ (k : ℕ). declares_more (rows_of l.self.world.now) (table_of l.self.world.now) l.method k) l.redefined
