use Rattle.jr_extract.proofs.Found.{typed_so}
use Rattle.jr_extract.proofs.locals.typed.Goals as goal

pub returns-in-Some : goal.returns-in-Some
returns-in-Some c = λ sized. typed_so c.args.row c.in-Some.ty _ (c.in-Some.ensures sized)
