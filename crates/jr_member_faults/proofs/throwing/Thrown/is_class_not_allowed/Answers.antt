use Rattle.std.proofs.Common.{sym, ◌∙◌, ap, not, ◌&&◌}
use Rattle.jr_member_rules.specs.Throwing.{allows}
use Rattle.jr_member_faults.specs.Views.{rows_of, table_of}
use Rattle.jr_member_faults.proofs.throwing.Thrown.is_class_not_allowed.Goals as goal

pub returns-then-not-is_checked : goal.returns-then-not-is_checked
returns-then-not-is_checked c = λ h th m. sym (ap (λ b. b && not (allows (rows_of c.args.world.now) (table_of c.args.world.now) c.args.method c.args.class)) (sym (c.is_checked.ensures h th) ∙ c.if-not-is_checked.true))

pub returns : goal.returns
returns c = λ h th m. ap not (c.in_ok-is_allowed.ensures h th m) ∙ sym (ap (λ b. b && not (allows (rows_of c.args.world.now) (table_of c.args.world.now) c.args.method c.args.class)) (sym (c.is_checked.ensures h th) ∙ c.if-not-is_checked.false))
