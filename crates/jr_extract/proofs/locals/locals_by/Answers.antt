use Rattle.jr_extract.proofs.locals.locals_by.Goals as goal

pub returns : goal.returns
returns c = λ sized. record { parameters = c.in_ok-parameters.ensures sized; fresh = c.in_ok-fresh.ensures sized; result = c.in_ok-result.ensures sized }
