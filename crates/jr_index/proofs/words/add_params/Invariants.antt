use Rattle.std.proofs.Common.{drop}
use Rattle.jr_index.specs.Events as e
use Rattle.jr_index.specs.Writing.{written, Leads}
use Rattle.jr_index.proofs.words.add_params.Given as goal

abbrev pub invariant-loop-param : goal.invariant-loop-param
invariant-loop-param l = Leads (written l.initial.out) (written l.out) (e.params_events l.commas (drop l.param-index l.params)) (e.params_events 0 (l.params))
