use Rattle.jr_engine.proofs.Stepping.{front_of_files, front_so, memory_of_files, no_memory_so}
use Rattle.jr_engine.proofs.step.refused_found.Goals as goal

pub returns-in-OutOfMemory-clause-why : goal.returns-in-OutOfMemory-clause-why
returns-in-OutOfMemory-clause-why c = λ requests. no_memory_so c.args.files.now requests c.no_memory.result.request c.no_memory.result.fault c.no_memory.ensures.fault

pub returns-in-OutOfMemory-clause-zero : goal.returns-in-OutOfMemory-clause-zero
returns-in-OutOfMemory-clause-zero c = λ told. memory_of_files c.no_memory.result.fault c.no_memory.ensures.fault

pub returns-in_default-clause-why : goal.returns-in_default-clause-why
returns-in_default-clause-why c = λ requests. front_so c.args.files.now requests c.args.fault c.refused.result.request c.refused.result.fault c.requires c.refused.ensures.number c.refused.ensures.told

pub returns-in_default-clause-zero : goal.returns-in_default-clause-zero
returns-in_default-clause-zero c = λ told. front_of_files c.args.fault c.refused.result.fault c.refused.ensures.told
