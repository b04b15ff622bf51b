use Rattle.jr_engine.proofs.Stepping.{memory_of_files, no_memory_so}
use Rattle.jr_engine.proofs.planning.copied.Goals as goal

pub returns-in-Err-clause-err : goal.returns-in-Err-clause-err
returns-in-Err-clause-err c = λ requests. no_memory_so c.args.files.now requests c.no_memory.result.request c.no_memory.result.fault c.no_memory.ensures.fault

pub returns-in-Err-clause-zero : goal.returns-in-Err-clause-zero
returns-in-Err-clause-zero c = λ told. memory_of_files c.no_memory.result.fault c.no_memory.ensures.fault
