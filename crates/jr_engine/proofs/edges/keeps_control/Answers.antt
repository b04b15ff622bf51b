use Rattle.jr_engine.proofs.Stepping.{compared_large, control_hinders, control_lost, flow_kept, uses_lost}
use Rattle.jr_engine.proofs.edges.keeps_control.Goals as goal

pub not_compared-requires : goal.not_compared-requires
not_compared-requires c = compared_large c.args.asked c.args.locked.now c.project_of-old.result c.project_of-new.result c.requires.old c.requires.new c.requires.sound c.requires.bound c.requires.by c.project_of-old.ensures.rows
    c.project_of-new.ensures.rows c.project_of-old.ensures.view c.project_of-new.ensures.view c.in-Err.fault c.in-Err.ensures.large

pub returns-in-None-clause-ok : goal.returns-in-None-clause-ok
returns-in-None-clause-ok c = flow_kept c.args.asked c.args.locked.now c.project_of-old.result c.project_of-new.result c.requires.old c.requires.new c.requires.sound c.requires.bound c.requires.by
    c.project_of-old.ensures.rows c.project_of-new.ensures.rows c.project_of-old.ensures.view c.project_of-new.ensures.view c.in-Ok.flow.control c.in-Ok.flow.def_use c.in-Ok.ensures.control c.in-Ok.ensures.uses
    c.in-Ok.ensures.raised_uses c.in-None.is

pub returns-in-None-clause-uses : goal.returns-in-None-clause-uses
returns-in-None-clause-uses c = λ edge. uses_lost c.args.asked c.args.locked.now c.project_of-old.result c.project_of-new.result c.requires.old c.requires.new c.requires.sound c.requires.bound c.requires.by
    c.project_of-old.ensures.rows c.project_of-new.ensures.rows c.project_of-old.ensures.view c.project_of-new.ensures.view c.in-Ok.flow.def_use edge c.in-Ok.ensures.only_uses

pub returns-in-Some-clause-err : goal.returns-in-Some-clause-err
returns-in-Some-clause-err c = control_hinders c.args.asked c.in-Some.edge.first c.in-Some.edge.second c.in-Some.edge.is_old c.lost.result
    (control_lost c.args.asked c.args.locked.now c.project_of-old.result c.project_of-new.result c.requires.old c.requires.new c.requires.sound c.requires.bound c.requires.by c.project_of-old.ensures.rows
    c.project_of-new.ensures.rows c.project_of-old.ensures.view c.project_of-new.ensures.view c.in-Ok.flow.control c.in-Some.edge c.in-Ok.ensures.only_control c.in-Some.is)
    c.lost.ensures
