use Rattle.std.proofs.Common.{drop}
use Rattle.jr_tree.specs.Mirror.Stmts as s
use Rattle.jr_index.specs.Events as e
use Rattle.jr_index.specs.Writing.{written, Leads}
use Rattle.jr_index.proofs.stmt.add_cases.Given as goal

abbrev pub invariant-loop-label : goal.invariant-loop-label
invariant-loop-label l = Leads (written l.initial.out) (written l.out) (e.cases_events (s.plain_labels (drop l.label-index l.labels))) (e.cases_events (s.plain_labels (l.labels)))
