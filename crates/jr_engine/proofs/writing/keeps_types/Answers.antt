use Rattle.jr_engine.proofs.Stepping.{retyped_so}
use Rattle.jr_engine.proofs.writing.keeps_types.Goals as goal

pub returns-in-Some : goal.returns-in-Some
returns-in-Some c = retyped_so c.args.spelled.asked c.args.spelled.locked.now c.project_of-old.result c.project_of-new.result c.in-Some.row c.first_retyped.result c.moved.result c.type_change.result c.requires c.project_of-old.ensures.rows
    c.project_of-new.ensures.all c.project_of-old.ensures.view c.first_retyped.ensures c.in-Some.is c.type_change.ensures
