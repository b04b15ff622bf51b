use Rattle.jr_front.proofs.Refusals.{ordered_so}
use Rattle.jr_engine.proofs.Stepping.{no_change_caused_as}
use Rattle.jr_engine.proofs.step.asked_of.Goals as goal

pub returns-in-Ok-clause-ok : goal.returns-in-Ok-clause-ok
returns-in-Ok-clause-ok c =
    let w = c.args.old.now in
    let ordered = ordered_so w.program w.index.value c.args.project.now.marks c.requires.indexed (c.requires.project.made c.requires.indexed) in
    record { of = c.requires.project; ordered = ordered; asked = c.in-Ok.ensures ordered }

pub returns-in-Err-clause-err : goal.returns-in-Err-clause-err
returns-in-Err-clause-err c =
    let w = c.args.old.now in
    let ordered = ordered_so w.program w.index.value c.args.project.now.marks c.requires.indexed (c.requires.project.made c.requires.indexed) in
    no_change_caused_as w c.args.project.now c.args.request.now c.in-Err.fault c.no_change.result c.no_change.ensures (record { of = c.requires.project; ordered = ordered; asked = c.in-Err.ensures ordered })
