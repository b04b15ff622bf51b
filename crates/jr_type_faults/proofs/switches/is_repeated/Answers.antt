use Rattle.std.proofs.Common.{◌∙◌}
use Rattle.jr_type_faults.proofs.switches.is_repeated.Goals as goal

pub returns : goal.returns
returns c = λ right. c.is_repeated.ensures ∙ right c.args.at
