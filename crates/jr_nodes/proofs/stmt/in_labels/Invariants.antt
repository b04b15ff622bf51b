use Rattle.std.proofs.Common.{◌≡◌, drop}
use Rattle.jr_tree.specs.Mirror.Stmts as s
use Rattle.jr_tree.specs.Nodes as n
use Rattle.jr_nodes.specs.Progress.{go_on, progress}
use Rattle.jr_nodes.proofs.stmt.in_labels.Given as goal

abbrev pub invariant-loop-label : goal.invariant-loop-label
invariant-loop-label l = go_on (n.each n.label_nodes (s.plain_labels (drop l.label-index l.labels))) (progress l.state) ≡ go_on (n.each n.label_nodes (s.plain_labels l.labels)) (progress l.initial.state)
