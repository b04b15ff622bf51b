use Rattle.jr_engine.proofs.Stepping.{shown_so, unshown_so}
use Rattle.jr_engine.proofs.asked.Asked.place_of.Goals as goal

pub returns-in-Some : goal.returns-in-Some
returns-in-Some c = λ ordered. shown_so c.args.self.project.now.marks c.args.origin.now c.args.row c.row_for.result c.in-Some.from c.name_place.result c.row_for.ensures c.in-Some.is (c.name_place.ensures ordered)

pub returns-in-None : goal.returns-in-None
returns-in-None c = λ ordered. unshown_so c.args.self.project.now.marks c.args.origin.now c.args.row c.row_for.result _ c.row_for.ensures c.in-None.is
