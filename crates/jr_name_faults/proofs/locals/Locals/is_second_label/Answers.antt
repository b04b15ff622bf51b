use Rattle.std.proofs.Common.{◌∙◌}
use Rattle.jr_name_faults.proofs.Scoped.{second_label}
use Rattle.jr_name_faults.proofs.locals.Locals.is_second_label.Goals as goal

pub returns : goal.returns
returns c = λ p lt h. c.is_labeled.ensures ∙ second_label _ c.name.result h (c.name.ensures p h.placed.are lt)
