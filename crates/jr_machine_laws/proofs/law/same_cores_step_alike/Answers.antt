-- Each clause is a lemma.
use Rattle.jr_machine_defs.specs.Steps.{start_of}
use Rattle.jr_machine_laws.proofs.SameSteps.{next_same, step_same, after_same, steps_made_same, printed_same, run_same}
use Rattle.jr_machine_laws.proofs.law.same_cores_step_alike.Goals as goal

pub returns-clause-next_state : goal.returns-clause-next_state
returns-clause-next_state c = λ a b s same. next_same a b same s

pub returns-clause-one_step : goal.returns-clause-one_step
returns-clause-one_step c = λ a b s same. step_same a b same s

pub returns-clause-steps : goal.returns-clause-steps
returns-clause-steps c = λ a b n s same. after_same a b same n s

pub returns-clause-made : goal.returns-clause-made
returns-clause-made c = λ a b n s same. steps_made_same a b same n s

pub returns-clause-printed : goal.returns-clause-printed
returns-clause-printed c = λ a b start n same. printed_same a b same start n

pub returns-clause-run : goal.returns-clause-run
returns-clause-run c = λ a b start n ran same h. run_same a b same (start_of start) n ran h
