use Rattle.std.proofs.Common.{sym, ◌∙◌, arith, ℕ}
use Rattle.jr_member_faults.proofs.Looped.{some_hit, some_next, some_end}
use Rattle.jr_member_faults.specs.Thrown.{is_name_not_allowed}
use Rattle.jr_member_faults.specs.Views.{rows_of, table_of}
use Rattle.jr_member_faults.proofs.throwing.Thrown.is_any_not_allowed.Goals as goal

pub returns-then-is : goal.returns-then-is
returns-then-is c = λ h th m. some_hit (λ (n : ℕ). is_name_not_allowed (rows_of c.args.world.now) (table_of c.args.world.now) c.args.method n) c.args.names.now c.loop-name.name-index (omega arith) (sym (c.in_ok-is.ensures h th m) ∙ c.if-is.true) (c.loop-name.invariant h th m)

pub loop-name-preserved : goal.loop-name-preserved
loop-name-preserved c = λ h th m. some_next (λ (n : ℕ). is_name_not_allowed (rows_of c.args.world.now) (table_of c.args.world.now) c.args.method n) c.args.names.now c.loop-name.name-index (omega arith) (sym (c.in_ok-is.ensures h th m) ∙ c.if-is.false) (c.loop-name.invariant h th m)

pub returns : goal.returns
returns c = λ h th m. some_end (λ (n : ℕ). is_name_not_allowed (rows_of c.args.world.now) (table_of c.args.world.now) c.args.method n) c.args.names.now c.loop-name.name-index (omega arith) (c.loop-name.invariant h th m)
