use Rattle.std.proofs.Common.{◌∙◌}
use Rattle.jr_name_faults.proofs.Scoped.{second_local}
use Rattle.jr_name_faults.proofs.locals.Locals.is_second_local.Goals as goal

pub returns : goal.returns
returns c = λ p lt h. c.is_second.ensures ∙ second_local _ c.name.result h (c.name.ensures p h.placed.are lt)
