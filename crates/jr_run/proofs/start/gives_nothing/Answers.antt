use Rattle.std.proofs.Common.{◌∙◌, ap, sym}
use Rattle.jr_run.specs.Starting.{is_void_type}
use Rattle.jr_run.proofs.start.gives_nothing.Goals as goal

pub returns-in-Some : goal.returns-in-Some
returns-in-Some c = λ sized. c.is_void.ensures ∙ ap is_void_type (sym c.in-Some.is ∙ c.type_of_declared.ensures sized)

pub returns-in-None : goal.returns-in-None
returns-in-None c = λ sized. ap is_void_type (sym c.in-None.is ∙ c.type_of_declared.ensures sized)
