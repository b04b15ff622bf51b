use Rattle.jr_inline.proofs.Answering.{answered_so, refused_so}
use Rattle.jr_inline.proofs.inlining.inline.Goals as goal

pub returns-in-Ok : goal.returns-in-Ok
returns-in-Ok c = λ ordered. answered_so c.args.old.now c.args.file.now c.args.at c.in-Ok.found c.asked_for.result (c.in-Ok.ensures ordered) (c.asked_for.ensures ordered)

pub returns-in-Err : goal.returns-in-Err
returns-in-Err c = λ ordered. refused_so c.args.old.now c.args.file.now c.args.at c.in-Err.why (c.in-Err.ensures ordered)
