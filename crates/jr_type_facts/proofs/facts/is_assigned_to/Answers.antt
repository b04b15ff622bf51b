use Rattle.std.proofs.Common.{◌∙◌}
use Rattle.jr_type_facts.proofs.Parts.{assigned_told}
use Rattle.jr_type_facts.proofs.facts.is_assigned_to.Goals as goal

pub returns : goal.returns
returns c = λ texts. c.is_some.ensures ∙ assigned_told c.args.element texts c.args.value _ c.assigned_to.ensures
