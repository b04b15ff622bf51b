use Rattle.jr_locks.proofs.Standing.{each_origin, stands_again}
use Rattle.jr_locks.proofs.law.runs_stand_again.Goals as goal

pub returns : goal.returns
returns c = record {
  again = λ old t change rows locks is here there fits d n stood closed one. stands_again old t change rows locks is here there fits d n stood closed one;
  origins = each_origin;
}
