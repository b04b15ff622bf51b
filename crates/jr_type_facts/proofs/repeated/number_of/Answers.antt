use Rattle.std.proofs.Common.{◌∙◌}
use Rattle.jr_type_facts.proofs.Meeting.{number_other}
use Rattle.jr_type_facts.proofs.repeated.number_of.Goals as goal

pub returns-in_default : goal.returns-in_default
returns-in_default c = c.as_long.ensures ∙ number_other c.args.value c.in_default.not-Bool
