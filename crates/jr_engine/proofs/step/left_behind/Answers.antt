use Rattle.jr_engine.proofs.Stepping.{bound_tables, flow_caused, number_told_if, told_caused}
use Rattle.jr_engine.specs.declared.fault.EngineFault.TheVariants as engine
use Rattle.jr_engine.proofs.step.left_behind.Goals as goal

pub is_within_flow-requires : goal.is_within_flow-requires
is_within_flow-requires c = bound_tables c.args.old.now c.requires.bound

pub returns-in-Err-clause-err : goal.returns-in-Err-clause-err
returns-in-Err-clause-err c = told_caused c.args.old.now c.args.asked.now (engine.Step c.in-Err.fault) c.refused_large.result.fault c.refused_large.ensures.told (flow_caused c.args.old.now c.args.asked.now c.in-Err.fault c.in-Err.ensures)

pub returns-in-Ok-clause-number : goal.returns-in-Ok-clause-number
returns-in-Ok-clause-number c = number_told_if c.args.request c.left_within.result c.left_within.ensures.number
