use Rattle.std.proofs.Common.{sym, ◌∙◌, arith, ℕ}
use Rattle.jr_member_faults.specs.Thrown.{is_other_class}
use Rattle.jr_member_faults.specs.Views.{rows_of, table_of}
use Rattle.jr_member_faults.proofs.Looped.{some_hit, some_next, some_end}
use Rattle.jr_member_faults.proofs.throwing.Thrown.has_other_class.Goals as goal

pub returns-then-is_other_class : goal.returns-then-is_other_class
returns-then-is_other_class c = λ h th. some_hit (λ (n : ℕ). is_other_class (rows_of c.args.world.now) (table_of c.args.world.now) n) c.args.names.now c.loop-name.name-index (omega arith) (sym (c.is_other_class.ensures h th) ∙ c.if-is_other_class.true) (c.loop-name.invariant h th)

pub loop-name-preserved : goal.loop-name-preserved
loop-name-preserved c = λ h th. some_next (λ (n : ℕ). is_other_class (rows_of c.args.world.now) (table_of c.args.world.now) n) c.args.names.now c.loop-name.name-index (omega arith) (sym (c.is_other_class.ensures h th) ∙ c.if-is_other_class.false) (c.loop-name.invariant h th)

pub returns : goal.returns
returns c = λ h th. some_end (λ (n : ℕ). is_other_class (rows_of c.args.world.now) (table_of c.args.world.now) n) c.args.names.now c.loop-name.name-index (omega arith) (c.loop-name.invariant h th)
