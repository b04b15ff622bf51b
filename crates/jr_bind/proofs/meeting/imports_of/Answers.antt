use Rattle.std.proofs.Common.{◌∙◌}
use Rattle.jr_bind.proofs.Importing.{imports_list}
use Rattle.jr_bind.proofs.meeting.imports_of.Goals as goal

pub returns : goal.returns
returns c = λ p are. imports_list p c.args.unit c.args.name c.args.is_named _ _ _ _ _ (c.in_ok-all.ensures p are) (c.deref.ensures.value ∙ c.in_ok-statics.ensures p are) c.in_ok-add_all.ensures (c.in_ok-add_on_demand.ensures p are) c.sort_unstable.ensures.permutation
