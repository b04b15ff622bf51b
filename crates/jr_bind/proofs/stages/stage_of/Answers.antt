use Rattle.std.proofs.Common.{sym, ◌∙◌, ap}
use Rattle.jr_bind.specs.Late.{seeks_type}
use Rattle.jr_bind.proofs.stages.stage_of.Goals as goal

pub returns-then-seeks_type : goal.returns-then-seeks_type
returns-then-seeks_type c = λ header. c.type_stage.ensures c.args.rows.now c.args.at (sym (c.seeks_type.ensures ∙ ap seeks_type c.sought_at-sought.ensures) ∙ c.if-seeks_type.true) header
