use Rattle.jr_engine.proofs.Stepping.{memory_of_files, no_memory_so}
use Rattle.jr_engine.proofs.planning.opened.Goals as goal

pub returns-in-None-clause-err : goal.returns-in-None-clause-err
returns-in-None-clause-err c = λ requests. no_memory_so c.args.files.now requests c.no_memory.result.request c.no_memory.result.fault c.no_memory.ensures.fault

pub returns-in-None-clause-zero : goal.returns-in-None-clause-zero
returns-in-None-clause-zero c = λ told. memory_of_files c.no_memory.result.fault c.no_memory.ensures.fault
