use Rattle.std.proofs.Common.{◌∙◌}
use Rattle.jr_type_faults.proofs.objects.is_in_constructor_call.Goals as goal

pub returns : goal.returns
returns c = λ right. c.is_in_constructor_call.ensures ∙ right.tables_are.calls_are c.args.at
