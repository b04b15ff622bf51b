use Rattle.std.proofs.Common.{◌≡◌, ◌+◌, ◌<◌, ◌^◌, cond, Some, None, subst, IfSome}
use Rattle.jr_defs.specs.Referents.{entries}
use Rattle.jr_plain.specs.Constants.{is_initialized}
use Rattle.jr_constants.specs.Tables.{IsInitializer}
use Rattle.jr_constants.proofs.Staying.{rests_without}
use Rattle.jr_constants.proofs.constants.Constants.lacks_at.Goals as goal

pub returns-in-Some : goal.returns-in-Some
returns-in-Some c = λ sized fails. c.lacks.ensures sized (subst (λ o. IfSome o (λ expression. IsInitializer c.args.under.rows.now c.args.at expression)) c.in-Some.is c.initializer.ensures.sound) fails

pub returns-in-None : goal.returns-in-None
returns-in-None c = λ sized fails. rests_without c.args.under.rows.now (entries c.args.under.table.now) c.args.self.now c.args.at sized.few
    (λ small. subst (λ o. o ≡ cond (is_initialized c.args.under.rows.now c.args.at) (Some (c.args.at + 2)) None) c.in-None.is (c.initializer.ensures.exact small))
