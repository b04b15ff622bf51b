use Rattle.jr_pullup.proofs.Raising.{goes_so, stays_so}
use Rattle.jr_pullup.proofs.pulling.asked_for.Goals as goal

pub returns-in-Ok : goal.returns-in-Ok
returns-in-Ok c = λ ordered. goes_so c.args.old.now c.args.found c.in-Ok.pulled c.raised.result ordered (c.in-Ok.ensures ordered) c.raised.ensures.ok c.raised.ensures.fault

pub returns-in-Err : goal.returns-in-Err
returns-in-Err c = λ ordered. stays_so c.args.old.now c.args.found c.in-Err.why (c.in-Err.ensures ordered)
