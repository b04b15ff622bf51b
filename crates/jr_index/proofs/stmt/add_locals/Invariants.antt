use Rattle.std.proofs.Common.{drop}
use Rattle.jr_tree.specs.Mirror.Stmts as s
use Rattle.jr_index.specs.Events as e
use Rattle.jr_index.specs.Writing.{written, Leads}
use Rattle.jr_index.proofs.stmt.add_locals.Given as goal

abbrev pub invariant-loop-local : goal.invariant-loop-local
invariant-loop-local l = Leads (written l.initial.out) (written l.out) (e.locals_events l.commas l.is_final (s.plain_declarators (drop l.local-index l.locals))) (e.locals_events 0 l.is_final (s.plain_declarators (l.locals)))
