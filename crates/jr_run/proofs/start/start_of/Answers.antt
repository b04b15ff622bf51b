use Rattle.std.proofs.Common.{◌∙◌, sym}
use Rattle.jr_run.specs.Starting.{IsStartOf}
use Rattle.jr_run.proofs.Started.{no_memory}
use Rattle.jr_run.proofs.start.start_of.Goals as goal

pub returns-in-Some : goal.returns-in-Some
returns-in-Some c = λ read ordered. c.start_of_class.ensures read ordered c.args.name.now (sym (c.in_ok-found.ensures read.whole.world_is.seen.placed read.few) ∙ c.in-Some.is)

pub returns-in-None : goal.returns-in-None
returns-in-None c = λ read ordered. IsStartOf.no_class (sym (c.in_ok-found.ensures read.whole.world_is.seen.placed read.few) ∙ c.in-None.is)

pub returns-in_err-found : goal.returns-in_err-found
returns-in_err-found c = λ read ordered. no_memory c.args.project.now c.args.name.now c.from_residual.result c.from_residual.ensures.1
