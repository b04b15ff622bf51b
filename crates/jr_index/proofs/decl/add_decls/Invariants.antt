use Rattle.std.proofs.Common.{drop}
use Rattle.jr_tree.specs.Mirror.Decls as d
use Rattle.jr_index.specs.Events as e
use Rattle.jr_index.specs.Writing.{written, Leads}
use Rattle.jr_index.proofs.decl.add_decls.Given as goal

abbrev pub invariant-loop-decl : goal.invariant-loop-decl
invariant-loop-decl l = Leads (written l.initial.out) (written l.out) (e.decls_events (d.plain_decls (drop l.decl-index l.decls))) (e.decls_events (d.plain_decls (l.decls)))
