use Rattle.std.proofs.Common.{◌∙◌}
use Rattle.jr_member_faults.specs.Views.{rows_of, table_of}
use Rattle.jr_member_faults.proofs.Checked.{others_is}
use Rattle.jr_member_faults.proofs.throwing.Thrown.throws_others.Goals as goal

pub returns : goal.returns
returns c = λ h th m. others_is (rows_of c.args.world.now) (table_of c.args.world.now) c.args.self.now th c.args.method _ _ m (c.deref.ensures.value ∙ c.in_ok-names.ensures) (c.has_other_class-is.ensures h th)
