use Rattle.std.proofs.Common.{subst, IfSome}
use Rattle.jr_constants.specs.Tables.{IsInitializer}
use Rattle.jr_constants.proofs.constants.Constants.find_at.Goals as goal

pub returns-in-Some : goal.returns-in-Some
returns-in-Some c = λ k sized known. c.find.ensures k sized (subst (λ o. IfSome o (λ expression. IsInitializer c.args.under.rows.now c.args.at expression)) c.in-Some.is c.initializer.ensures.sound) known

pub returns-in-None : goal.returns-in-None
returns-in-None c = λ k sized known. known
