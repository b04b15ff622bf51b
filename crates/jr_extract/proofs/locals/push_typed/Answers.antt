use Rattle.jr_extract.proofs.Found.{pushed_so}
use Rattle.jr_extract.proofs.locals.push_typed.Goals as goal

pub returns : goal.returns
returns c = λ sized. pushed_so _ _ c.in_ok-variable.variable _ c.in_ok-push.ensures.items (c.in_ok-variable.ensures sized)
