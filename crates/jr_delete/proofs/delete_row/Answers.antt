use Rattle.jr_delete.specs.Deleting.{IsDeleted}
use Rattle.jr_delete.proofs.delete_row.Goals as goal

pub returns-in-Err : goal.returns-in-Err
returns-in-Err c = λ ordered fits. IsDeleted.memory
