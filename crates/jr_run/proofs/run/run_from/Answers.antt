use Rattle.jr_run.specs.Runs.{IsRunText}
use Rattle.jr_run.proofs.run.run_from.Goals as goal

pub returns-in-Ok : goal.returns-in-Ok
returns-in-Ok c = λ read name starts. IsRunText.text starts (rw c.in-Ok.is at c.text_from.ensures read)

pub returns-in-Err : goal.returns-in-Err
returns-in-Err c = λ read name starts. IsRunText.no_memory
