use Rattle.jr_engine.proofs.Stepping.{call_hinders, calls_kept, calls_told}
use Rattle.jr_engine.proofs.edges.keeps_calls.Goals as goal

pub returns-in-None-clause-ok : goal.returns-in-None-clause-ok
returns-in-None-clause-ok c = calls_kept c.args.asked c.args.locked.now c.in_ok-lost_dispatch.field-0
    (calls_told c.args.asked c.args.locked.now c.view-old.result c.view-new.result c.of-before.result c.of-after.result c.deref.result.now c.in_ok-lost_dispatch.field-0 c.view-old.ensures.all c.view-new.ensures.all
    c.of-before.ensures.under c.of-after.ensures.under c.of-before.ensures.methods c.of-after.ensures.methods c.deref.ensures.value c.requires.old c.requires.new c.requires.sound.well c.requires.bound
    c.requires.by c.in_ok-lost_dispatch.ensures) c.in-None.is

pub returns-in-Some-clause-err : goal.returns-in-Some-clause-err
returns-in-Some-clause-err c = call_hinders c.args.asked c.args.locked.now c.in_ok-lost_dispatch.field-0 c.in-Some.lost c.lost_call.result c.requires.by
    (calls_told c.args.asked c.args.locked.now c.view-old.result c.view-new.result c.of-before.result c.of-after.result c.deref.result.now c.in_ok-lost_dispatch.field-0 c.view-old.ensures.all c.view-new.ensures.all
    c.of-before.ensures.under c.of-after.ensures.under c.of-before.ensures.methods c.of-after.ensures.methods c.deref.ensures.value c.requires.old c.requires.new c.requires.sound.well c.requires.bound
    c.requires.by c.in_ok-lost_dispatch.ensures) c.in-Some.is (c.lost_call.ensures c.requires.asked.ordered)
