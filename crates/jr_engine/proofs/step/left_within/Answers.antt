use Rattle.jr_engine.proofs.Stepping.{told_caused}
use Rattle.jr_engine.specs.declared.fault.EngineFault.TheVariants as engine
use Rattle.jr_engine.proofs.step.left_within.Goals as goal

pub returns-in-Err-clause-err : goal.returns-in-Err-clause-err
returns-in-Err-clause-err c = told_caused c.args.old.now c.args.asked.now (engine.Step c.in-Err.fault) c.refused_old.result.fault c.refused_old.ensures.told c.in-Err.ensures.err
