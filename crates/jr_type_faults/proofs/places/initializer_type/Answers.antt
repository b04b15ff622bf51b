use Rattle.std.proofs.Common.{◌∙◌}
use Rattle.jr_type_faults.proofs.places.initializer_type.Goals as goal

pub returns : goal.returns
returns c = λ right. c.initializer_type.ensures ∙ right.tables_are.initializers_are c.args.at
