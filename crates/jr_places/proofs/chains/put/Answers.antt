use Rattle.std.proofs.Common.{arith}
use Rattle.jr_places.proofs.Tables.{chained_push}
use Rattle.jr_places.proofs.chains.put.Goals as goal

pub returns-clause-chained : goal.returns-clause-chained
returns-clause-chained c = λ h. chained_push _ c.args.entry _ _ _ _ c.len-count.result _ _ h (omega (arith, c.len-count.ensures, c.if-count.false)) (omega (arith, c.len-count.ensures, c.if-count.false))
    c.in_ok-earlier.ensures.updates.0 c.in_ok-earlier.ensures.old c.in_ok-push-2.ensures.items c.in_ok-push.ensures.items
