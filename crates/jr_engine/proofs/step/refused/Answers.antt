use Rattle.jr_engine.specs.Refusing.{IsToldAs}
use Rattle.jr_engine.proofs.Stepping.{told_memory}
use Rattle.jr_engine.proofs.step.refused.Goals as goal

pub returns-in-Err-clause-told : goal.returns-in-Err-clause-told
returns-in-Err-clause-told c = told_memory c.args.fault c.no_memory.result.fault c.no_memory.ensures.fault

pub returns-in-Ok-clause-told : goal.returns-in-Ok-clause-told
returns-in-Ok-clause-told c = IsToldAs.told
