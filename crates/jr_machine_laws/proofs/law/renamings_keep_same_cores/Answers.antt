-- Each clause is a lemma.
use Rattle.jr_machine_laws.proofs.SameKeys.{keyed_renamed}
use Rattle.jr_machine_laws.proofs.SameRenamed.{core_renamed, printed_moved, run_moved, moved_twice}
use Rattle.jr_machine_laws.proofs.law.renamings_keep_same_cores.Goals as goal

pub returns : goal.returns
returns c = record {
  renamed = λ f a b p same. core_renamed f p a b same;
  keyed = λ f a p k. keyed_renamed f p a k;
  printed = λ f a b start n p same. printed_moved f p a b same start n;
  run = λ f a b start n ran p same h. run_moved f p a b same start n ran h;
  twice = λ f g a b c q h k. moved_twice f g q a b c h k;
}
