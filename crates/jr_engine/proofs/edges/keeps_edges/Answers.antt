use Rattle.jr_engine.proofs.Stepping.{uses_hinder}
use Rattle.jr_engine.proofs.edges.keeps_edges.Goals as goal

pub returns-in-Some-clause-err : goal.returns-in-Some-clause-err
returns-in-Some-clause-err c = uses_hinder c.args.asked c.in-Some.edge.first c.in-Some.edge.second c.in-Some.edge.is_old c.lost.result (c.in_ok-def_use.ensures.uses c.in-Some.edge c.in-Some.is) c.lost.ensures
