use Rattle.std.proofs.Common.{◌≡◌, drop}
use Rattle.jr_tree.specs.Mirror.Decls as d
use Rattle.jr_tree.specs.Nodes as n
use Rattle.jr_nodes.specs.Progress.{go_on, progress}
use Rattle.jr_nodes.proofs.decl.in_decls.Given as goal

abbrev pub invariant-loop-decl : goal.invariant-loop-decl
invariant-loop-decl l = go_on (n.each n.decl_nodes (d.plain_decls (drop l.decl-index l.decls))) (progress l.state) ≡ go_on (n.each n.decl_nodes (d.plain_decls l.decls)) (progress l.initial.state)
