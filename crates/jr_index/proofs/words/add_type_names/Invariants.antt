use Rattle.std.proofs.Common.{drop}
use Rattle.jr_index.specs.Events as e
use Rattle.jr_index.specs.Writing.{written, Leads}
use Rattle.jr_index.proofs.words.add_type_names.Given as goal

abbrev pub invariant-loop-name : goal.invariant-loop-name
invariant-loop-name l = Leads (written l.initial.out) (written l.out) (e.names_events l.place (drop l.name-index l.names)) (e.names_events l.place (l.names))
