use Rattle.std.proofs.Common.{ap}
use Rattle.jr_top.specs.Decisions.{is_refused}
use Rattle.jr_top.specs.declared.decide.Decision.TheVariants.{Refuse}
use Rattle.jr_top.proofs.engine.decide_files.Goals as goal

pub returns-in-Err : goal.returns-in-Err
returns-in-Err c = is_refused c.in-Err.refused (ap (λ s. Refuse s c.in-Err.refused.paths) c.answer_to.ensures) c.in-Err.ensures
