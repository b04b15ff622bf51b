use Rattle.std.proofs.Common.{sym, ◌∙◌, ap₂}
use Rattle.jr_engine.specs.Requested.{keeps_all}
use Rattle.jr_engine.proofs.Stepping.{hindered_caused, stays_so, told_caused}
use Rattle.jr_engine.specs.declared.fault.EngineFault.TheVariants as engine
use Rattle.jr_engine.proofs.step.left_by.Goals as goal

pub returns-then-changes_nothing-clause-ok : goal.returns-then-changes_nothing-clause-ok
returns-then-changes_nothing-clause-ok c = stays_so c.args.asked.old.now c.args.asked.project.now c.args.asked.request.now c.args.asked.change.now c.requires.asked
    (ap₂ keeps_all (sym c.as_slice.ensures) (sym c.deref.ensures.value) ∙ c.changes_nothing.ensures c.if-changes_nothing.true)

pub returns-in-Err-clause-err : goal.returns-in-Err-clause-err
returns-in-Err-clause-err c = told_caused c.args.asked.old.now c.args.asked.request.now (engine.Step c.in-Err.fault) c.refused_change.result.fault c.refused_change.ensures.told (hindered_caused c.args.asked c.in-Err.fault c.requires.asked c.in-Err.ensures.err)
