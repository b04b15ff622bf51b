use Rattle.std.proofs.Common.{sym, ◌∙◌}
use Rattle.jr_member_faults.proofs.Descending.{direct_listed, above_class, above_interface}
use Rattle.jr_member_faults.specs.Views.{rows_of, table_of}
use Rattle.jr_member_faults.proofs.descent.is_below_class.Goals as goal

pub returns-then-not-is_interface : goal.returns-then-not-is_interface
returns-then-not-is_interface c = λ h e. above_class (rows_of c.args.world.now) (table_of c.args.world.now) c.args.at (sym c.is_interface.ensures ∙ c.if-not-is_interface.true)

pub returns : goal.returns
returns c = λ h e. let w = c.args.world.now in above_interface (rows_of w) (table_of w) c.args.at _ _
    (direct_listed w h c.args.at _ _ c.direct.ensures (c.deref.ensures.value ∙ c.in_ok-direct.ensures)) c.has_class-is.ensures e
