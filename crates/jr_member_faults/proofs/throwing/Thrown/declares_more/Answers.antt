use Rattle.std.proofs.Common.{◌∙◌}
use Rattle.jr_member_faults.specs.Views.{rows_of, table_of}
use Rattle.jr_member_faults.proofs.Checked.{declares_is}
use Rattle.jr_member_faults.proofs.throwing.Thrown.declares_more.Goals as goal

pub returns : goal.returns
returns c = λ h th m k. declares_is (rows_of c.args.world.now) (table_of c.args.world.now) c.args.self.now th c.args.method c.args.other _ _ m (c.deref.ensures.value ∙ c.in_ok-names.ensures) (c.in_ok-is.ensures h th k)
