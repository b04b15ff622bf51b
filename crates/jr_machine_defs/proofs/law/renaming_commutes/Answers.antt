-- Each clause is a lemma.
use Rattle.jr_machine_defs.proofs.RenamedSteps.{step_renamed, after_renamed, start_renamed, printed_renamed, answer_renamed}
use Rattle.jr_machine_defs.proofs.law.renaming_commutes.Goals as goal

pub returns-clause-one_step : goal.returns-clause-one_step
returns-clause-one_step c = λ f core s p. step_renamed f p core s

pub returns-clause-steps : goal.returns-clause-steps
returns-clause-steps c = λ f core n s p. after_renamed f p core n s

pub returns-clause-start : goal.returns-clause-start
returns-clause-start c = λ f start p. start_renamed f p start

pub returns-clause-printed : goal.returns-clause-printed
returns-clause-printed c = λ f core start n p. printed_renamed f p core start n

pub returns-clause-run : goal.returns-clause-run
returns-clause-run c = λ f core start n ran p h. answer_renamed f p core start n ran h
