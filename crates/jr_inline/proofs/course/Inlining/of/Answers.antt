use Rattle.jr_inline.proofs.Answering.{plan_so}
use Rattle.jr_inline.proofs.course.Inlining.of.Goals as goal

pub returns-clause-plan : goal.returns-clause-plan
returns-clause-plan c = λ ordered. plan_so c.args.old.now c.args.local c.of-removal.result c.joined_by-joined.result c.cast_of-cast.result (c.of-removal.ensures ordered) c.joined_by-joined.ensures c.cast_of-cast.ensures
