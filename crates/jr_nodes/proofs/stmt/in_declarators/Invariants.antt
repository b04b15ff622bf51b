use Rattle.std.proofs.Common.{◌≡◌, drop}
use Rattle.jr_tree.specs.Mirror.Stmts as s
use Rattle.jr_tree.specs.Nodes as n
use Rattle.jr_nodes.specs.Progress.{go_on, progress}
use Rattle.jr_nodes.proofs.stmt.in_declarators.Given as goal

abbrev pub invariant-loop-decl : goal.invariant-loop-decl
invariant-loop-decl l = go_on (n.each n.declarator_nodes (s.plain_declarators (drop l.decl-index l.decls))) (progress l.state) ≡ go_on (n.each n.declarator_nodes (s.plain_declarators l.decls)) (progress l.initial.state)
